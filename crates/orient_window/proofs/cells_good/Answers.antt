use Rattle.std.proofs.Common.{◌≡◌, ℕ, ◌+◌, Bool, refl, arith, true, false, rules, tests}
use Rattle.std.proofs.lemmas.Iterator.{cases_from_all, YieldsList-from_range}
use Rattle.orient_window.specs.Good.{row_good, window_good}
use Rattle.orient_window.proofs.Rows.{every_told}
use Rattle.orient_window.proofs.cells_good.Goals as goal

pub returns : goal.returns
unfolding window_good
returns c =
    let a = c.args in
    let good : ℕ → Bool = λ i. row_good a.img.now a.win (a.win.top + i) in
    every_told a.win.rows good c.all.result
    (cases_from_all _ _ _ (λ i. good i ≡ true) (λ i. good i ≡ false) c.all.ensures.ran (YieldsList-from_range 0 a.win.rows a.win.rows refl (omega arith)) (λ i q k. search (rules, tests)) (λ i q k. search (rules, tests)))
