-- What holds of each member of the parts of a list holds of each of the whole, and of the member at a place. Assumes nothing.
use Prim.Native.Nat.{ℕ, zero, suc, ◌<◌, ◌≤◌}
use mathlib.Core.Path.{◌≡◌, refl}
use mathlib.Core.Bool.{Bool, true, false, cond}
use mathlib.Core.List.{List, [], ◌∷◌, ◌++◌}
use native.Mathlib.Omega.{arith}
use borrow.Author.Tests.{leb-true}
use lib.Dec.{leb}
use lib.ListN.{length, get_or}
use Rattle.lists.specs.Ranges.{joined}
use Rattle.lists.specs.Each.{Each, none, more}

module _ {A : Type 0} where
  pub each_one : {P : A → Type 0} {x : A} → P x → Each P (x ∷ [])
  each_one p = more p none

  pub each_append : {P : A → Type 0} {a b : List A} → Each P a → Each P b → Each P (a ++ b)
  each_append none q = q
  each_append (more p ps) q = more p (each_append ps q)

  pub each_weaker : {P Q : A → Type 0} {a : List A} → ((x : A) → P x → Q x) → Each P a → Each Q a
  each_weaker f none = none
  each_weaker f (more {x = x} p ps) = more (f x p) (each_weaker f ps)

  pub each_at : {P : A → Type 0} {xs : List A} → Each P xs → (past : A) (i : ℕ) → i < length xs → P (get_or xs i past)
  each_at none past i l = absurd (omega arith)
  each_at (more p ps) past zero l = p
  each_at (more p ps) past (suc i) l = each_at ps past i (omega arith)

  pub each_when : {P : A → Type 0} (b : Bool) (a : List A) → (b ≡ true → Each P a) → Each P (cond b a [])
  each_when true a f = f refl
  each_when false a f = none

  pub each_joined : {P : A → Type 0} (lo hi : ℕ) (part : ℕ → List A) → ((i : ℕ) → lo ≤ i → i < hi → Each P (part i)) → Each P (joined lo hi part)
  unfolding joined
  each_joined lo zero part f = none
  each_joined lo (suc hi) part f =
      each_when (leb lo hi) (joined lo hi part ++ part hi)
      (λ e.
      let l = leb-true lo hi e in
      each_append (each_joined lo hi part (λ i a b. f i a (omega arith))) (f hi l (omega arith)))
