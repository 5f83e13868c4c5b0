-- The first difference of two lists, one place at a time. Assumes nothing.
use mathlib.Core.Path.{◌≡◌, sym, ap, ◌∙◌}
use mathlib.Core.Bool.{cond}
use mathlib.Core.List.{List, ◌∷◌}
use Prim.Native.Nat.{ℕ, ◌+◌, ◌≤◌, ◌<◌}
use native.Mathlib.Numerals.{add-one}
use borrow.Author.Tests.{eq-eqb, ne_eqb}
use lib.Dec.{eqb}
use lib.ListN.{length, get_or, drop, drop_of_length-le}
use lib.Seq.{drop-cons}
use Rattle.audit_compare.specs.Difference.{differs_from}

module _ (xs ys : List ℕ) (i : ℕ) (p : i < length xs) (q : i < length ys) where
  turn : differs_from (i + 1) (drop i xs) (drop i ys) ≡ cond (eqb (get_or xs i 0) (get_or ys i 0)) (differs_from (i + 1 + 1) (drop (i + 1) xs) (drop (i + 1) ys)) (i + 1)
  unfolding differs_from
  turn =
      let a : drop i xs ≡ get_or xs i 0 ∷ drop (i + 1) xs = drop-cons xs i 0 p ∙ ap (λ (k : ℕ). get_or xs i 0 ∷ drop k xs) (sym (add-one i)) in
      let b : drop i ys ≡ get_or ys i 0 ∷ drop (i + 1) ys = drop-cons ys i 0 q ∙ ap (λ (k : ℕ). get_or ys i 0 ∷ drop k ys) (sym (add-one i)) in
      ap (λ (x : List ℕ). differs_from (i + 1) x (drop i ys)) a
      ∙ ap (differs_from (i + 1) (get_or xs i 0 ∷ drop (i + 1) xs)) b
      ∙ ap (λ (k : ℕ). cond (eqb (get_or xs i 0) (get_or ys i 0)) (differs_from k (drop (i + 1) xs) (drop (i + 1) ys)) (i + 1)) (sym (add-one (i + 1)))

  pub differs_on : get_or xs i 0 ≡ get_or ys i 0 → differs_from (i + 1 + 1) (drop (i + 1) xs) (drop (i + 1) ys) ≡ differs_from (i + 1) (drop i xs) (drop i ys)
  differs_on e = sym (turn ∙ rw (eq-eqb _ _ e))

  pub differs_here : (get_or xs i 0 ≡ get_or ys i 0 → ⊥) → differs_from (i + 1) (drop i xs) (drop i ys) ≡ i + 1
  differs_here n = turn ∙ rw (ne_eqb _ _ n)

pub differs_end : (xs ys : List ℕ) (n i : ℕ) → length xs ≤ i → differs_from n (drop i xs) (drop i ys) ≡ 0
unfolding differs_from
differs_end xs ys n i h = rw (drop_of_length-le xs h)
