use mathlib.Core.Path.{sym, ◌∙◌}
use Rattle.detect_look.proofs.Looks.{unseen_cells}
use Rattle.detect_words.proofs.Words.{filled_none}
use Rattle.detect_rows.proofs.Forms.{run_quiet}
use Rattle.detect_rows.proofs.group_words.Goals as goal

pub returns-then-not-any_hint : goal.returns-then-not-any_hint
returns-then-not-any_hint c =
    let w = let a = c.args in
    let q = unseen_cells a.dog.now a.t a.s a.u.row a.u.lo a.u.hi (sym c.any_hint.ensures ∙ c.if-not-any_hint.true) in
    filled_none _ _ a.p.from (run_quiet a.dog.now a.t a.s a.p.form a.u.row a.u.lo a.u.hi q) in
    record { value = w.0; out_after = w.1 }
