-- A relation of two lists that are joined of parts, by their parts. Assumes nothing.
use Prim.Native.Nat.{ℕ, zero, suc, ◌<◌, ◌≤◌}
use mathlib.Core.Path.{◌≡◌, refl}
use mathlib.Core.Bool.{Bool, true, false, cond}
use mathlib.Core.List.{List, [], ◌++◌}
use native.Mathlib.Omega.{arith}
use borrow.Author.Tests.{leb-true}
use lib.Dec.{leb}
use lib.ListN.{length, length-append}
use Rattle.lists.specs.Ranges.{joined}

-- it holds of two empty lists, and goes with `++`
module _ {A B : Type 0} (R : List A → List B → Type 0) (start : R [] []) where
  pub both_when : (b : Bool) (x : List A) (y : List B) → (b ≡ true → R x y) → R (cond b x []) (cond b y [])
  both_when true x y f = f refl
  both_when false x y f = start

  pub both_joined : ((a a' : List A) (b b' : List B) → R a b → R a' b' → R (a ++ a') (b ++ b')) → (lo hi : ℕ) (f : ℕ → List A) (g : ℕ → List B)
      → ((i : ℕ) → lo ≤ i → i < hi → R (f i) (g i)) → R (joined lo hi f) (joined lo hi g)
  unfolding joined
  both_joined on lo zero f g h = start
  both_joined on lo (suc hi) f g h =
      both_when (leb lo hi) (joined lo hi f ++ f hi) (joined lo hi g ++ g hi)
      (λ e. on (joined lo hi f) (f hi) (joined lo hi g) (g hi) (both_joined on lo hi f g (λ i a b. h i a (omega arith))) (h hi (leb-true lo hi e) (omega arith)))

-- where each part of a range is no longer than its partner, the whole is not
pub joined_shorter : {A B : Type 0} (lo hi : ℕ) (f : ℕ → List A) (g : ℕ → List B) → ((i : ℕ) → lo ≤ i → i < hi → length (f i) ≤ length (g i)) → length (joined lo hi f) ≤ length (joined lo hi g)
joined_shorter lo hi f g h =
    both_joined (λ a b. length a ≤ length b) (omega arith) (λ a a' b b' p q. simp length-append (omega arith)) lo hi f g h
