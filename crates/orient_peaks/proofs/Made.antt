-- An array made by a closure from each index. Assumes nothing.
use Rattle.std.proofs.Common.{◌≡◌, ℕ, zero, suc, ◌+◌, ◌<◌, ◌≤◌, List, [], ◌∷◌, map, get_or, sym, ◌∙◌, subst, arith, ⊎_elim, eq-or-lt_of_le, add-one}
use denote.Param.Members.{Mut, Called}
use Rattle.std.specs.Array.{IsFromFnResult, IsFromFnResultFrom}
use Rattle.std.specs.List.{range_with_len}
use Rattle.std.proofs.lemmas.List.FromFn.{fill_by_all, map-range_with_len_more}
use Rattle.lists.specs.Ranges.{joined}
use Rattle.lists.proofs.Ranges.{joined_start, joined_more}

joined_each : {B : Type 0} (h : ℕ → B) (n : ℕ) → joined 0 n (λ k. h k ∷ []) ≡ map h (range_with_len 0 n)
joined_each h zero = rw (joined_start 0 (λ k. h k ∷ []))
joined_each h (suc n) =
    let z : joined 0 (n + 1) (λ k. h k ∷ []) ≡ map h (range_with_len 0 (n + 1)) =
    joined_more 0 n (λ k. h k ∷ []) (omega arith) ∙ rw (joined_each h n) (sym (map-range_with_len_more h 0 n n (omega arith))) in
    subst (λ (m : ℕ). joined 0 m (λ k. h k ∷ []) ≡ map h (range_with_len 0 m)) (add-one n) z

-- each call gives the value of h, and leaves the closure as it was
module _ {F B : Type 0} (g : Mut F (ℕ × Unit {0}) B) (f : F) (h : ℕ → B) (gives : (i : ℕ) (y : B) (q : F) → Called g f (i, tt) y q → (q ≡ f) × (y ≡ h i)) where
  made_at : (ys : List B) (i n k : ℕ) (d : B) → IsFromFnResultFrom g f ys i n → i ≤ k → k < i + n → get_or ys k d ≡ h k
  made_at ys i zero k d r a b = absurd (omega arith)
  made_at ys i (suc n) k d (q, y, e, c, r) a b =
      ⊎_elim
      (λ z. rw (← z) (e.1 d ∙ (gives i y q c).1))
      (λ l. made_at ys (i + 1) n k d (subst (λ (p : F). IsFromFnResultFrom g p ys (i + 1) n) (gives i y q c).0 r) (omega arith) (omega arith))
      (eq-or-lt_of_le a)

  pub made_all : (ys : List B) (n : ℕ) (d : B) → IsFromFnResult g f ys n → ys ≡ joined 0 n (λ k. h k ∷ [])
  made_all ys n d r =
      fill_by_all h ys n d r.long (λ k l. made_at ys 0 n k d r.each (omega arith) (omega arith)) ∙ sym (joined_each h n)
