-- Laws of joined lists and of runs of stores. Assumes nothing.
use Prim.Native.Nat.{ℕ, zero, suc, ◌+◌, ◌-◌, ◌*◌, ◌≤◌}
use mathlib.Core.Path.{◌≡◌, refl, ◌∙◌}
use mathlib.Core.Bool.{Bool, true, false, cond}
use mathlib.Core.Logic.{⊎_elim}
use mathlib.Core.List.{List, [], ◌∷◌, ◌++◌, append_assoc, append-nil}
use native.Mathlib.Nat.{eq-or-lt_of_le, add-zero, suc-mul}
use native.Mathlib.Numerals.{add-one}
use native.Mathlib.Omega.{arith}
use borrow.Author.Tests.{le-leb, lt-leb}
use lib.ListN.{length, drop, set, length-append}
use lib.Seq.{sets, sets-eq}
use Rattle.lists.proofs.Naturals.{le_or_lt}
use Rattle.lists.specs.Ranges.{joined}

cond_same : {A : Type 0} (b : Bool) (x : A) → cond b x x ≡ x
cond_same true x = refl
cond_same false x = refl

module _ {A : Type 0} where
  pub joined_none : (lo hi : ℕ) (f : ℕ → List A) → hi ≤ lo → joined lo hi f ≡ []
  unfolding joined
  joined_none lo zero f h = refl
  joined_none lo (suc hi) f h = rw (lt-leb lo hi h)

  pub joined_start : (lo : ℕ) (f : ℕ → List A) → joined lo lo f ≡ []
  joined_start lo f = joined_none lo lo f (omega arith)

  pub joined_more : (lo hi : ℕ) (f : ℕ → List A) → lo ≤ hi → joined lo (hi + 1) f ≡ joined lo hi f ++ f hi
  unfolding joined
  joined_more lo hi f h = rw (add-one, le-leb lo hi h)

  -- where each part is empty the whole is
  pub joined_empty : (lo hi : ℕ) (f : ℕ → List A) → ((i : ℕ) → f i ≡ []) → joined lo hi f ≡ []
  unfolding joined
  joined_empty lo zero f e = refl
  joined_empty lo (suc hi) f e = rw (joined_empty lo hi f e, e hi, cond_same)

  -- the parts up to a number and from it on
  pub joined_split : (lo mid hi : ℕ) (f : ℕ → List A) → lo ≤ mid → mid ≤ hi → joined lo mid f ++ joined mid hi f ≡ joined lo hi f
  joined_split lo mid zero f a b =
      let z : mid ≡ 0 = omega arith in
      rw (joined_none lo mid f (omega arith), joined_none mid zero f (omega arith), joined_none lo zero f (omega arith))
  joined_split lo mid (suc hi) f a b =
      ⊎_elim
      (λ q. rw (← q, joined_start mid f, append-nil))
      (λ l. let h : mid ≤ hi = omega arith in let k : lo ≤ hi = omega arith in
      rw (← add-one hi, joined_more mid hi f h, joined_more lo hi f k, ← append_assoc, joined_split lo mid hi f a h))
      (eq-or-lt_of_le b)

  -- where each part has at most m elements
  pub joined_bound : (m lo hi : ℕ) (f : ℕ → List A) → ((i : ℕ) → length (f i) ≤ m) → length (joined lo hi f) ≤ (hi - lo) * m
  joined_bound m lo zero f e = rw (joined_none lo zero f (omega arith)) (omega arith)
  joined_bound m lo (suc hi) f e =
      ⊎_elim
      (λ h. rw (← add-one hi, joined_more lo hi f h, length-append)
      (let z : hi + 1 - lo ≡ suc (hi - lo) = omega arith in rw (z, suc-mul) (omega (arith, joined_bound m lo hi f e, e hi))))
      (λ h. rw (joined_none lo (suc hi) f h) (omega arith))
      (le_or_lt lo hi)

pub sets_append : {A : Type 0} (a b l : List A) (i : ℕ) → sets (sets l i a) (i + length a) b ≡ sets l i (a ++ b)
sets_append [] b l i = rw add-zero
sets_append (x ∷ a) b l i =
    let e : i + suc (length a) ≡ suc i + length a = omega arith in
    rw (e, sets_append a b (set l i x) (suc i))

-- stores at the front: the words, then what was not reached
pub sets_front : {A : Type 0} (l vs : List A) → length vs ≤ length l → sets l 0 vs ≡ vs ++ drop (length vs) l
sets_front l vs h = let z : 0 + length vs ≡ length vs = omega arith in sets-eq vs l 0 (rw z h) ∙ rw z
