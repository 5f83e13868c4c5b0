-- A refusal that keeps nothing of what agreed until then, and what is told of it. Assumes nothing.
use mathlib.Core.Path.{◌≡◌, refl, sym, ap, ◌∙◌}
use mathlib.Core.Bool.{true, false, false≢true}
use mathlib.Core.List.{List}
use Prim.Native.Nat.{ℕ}
use lib.Dec.{eqb}
use Rattle.std.specs.Prelude.{Result, Ok, Err}
use Rattle.std.proofs.lemmas.Bool.{cond_both}
use Rattle.sheet.specs.Layout.{Layout}
use Rattle.audit_compare.specs.declared.agreement.Agreement.{Agreement}
use Rattle.audit_compare.specs.declared.agreement.Stopped.{Stopped}
use Rattle.audit_compare.specs.Standing.{refused, standing_in, standing_told, difference_at, moved, compared, Standing}

-- where a stage has refused, nothing is kept of what agreed until then
abbrev pub Bare : Standing → Type 0
Bare st = st.good ≡ false → st ≡ refused

pub bare_good : (st : Standing) → st.good ≡ true → Bare st
bare_good st g b = absurd (false≢true (sym b ∙ g))

pub bare_refused : Bare refused
bare_refused e = refl

-- a record that is compared refuses nothing
pub compared_good : (l : Layout) (stated : List (List ℕ)) (st : Standing) (r : List ℕ) → st.good ≡ true → (compared l stated st r).good ≡ true
unfolding compared
compared_good l stated st r g =
    let d = difference_at l stated st.place r in
    cond_both (eqb st.field 0) (moved st.place d) st (λ (s : Standing). s.good ≡ true) (λ q. cond_both (eqb d 0) _ _ (λ (s : Standing). s.good ≡ true) (λ q. refl) (λ q. refl)) (λ q. g)

-- an answer is then told the same without what stands beside its refusal
pub told_in : (r : Result Agreement Stopped) (x : Standing) → Bare x → standing_in r ≡ x → standing_told r ≡ x
told_in (Ok a) x b e = e
told_in (Err y) x b e = sym (b (ap (λ (s : Standing). s.good) (sym e)))
