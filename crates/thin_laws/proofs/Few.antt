-- No region keeps more than its quota; so each quarter's share is respected. Assumes nothing.
use Prim.Native.Nat.{ℕ, zero, suc, ◌+◌, ◌-◌, ◌%◌, ◌≤◌, ◌<◌}
use mathlib.Core.Path.{◌≡◌, refl, ◌∙◌, subst}
use mathlib.Core.Bool.{Bool, false, cond, ◌||◌}
use mathlib.Core.List.{List}
use mathlib.Core.Logic.{◌⊎◌, inl, inr, ⊎_elim}
use native.Mathlib.Nat.{le_refl, add-zero, add-le-add}
use native.Mathlib.Numerals.{add-one}
use native.Mathlib.Omega.{arith}
use lib.Dec.{ltb}
use Rattle.lists.proofs.Bools.{or_cases}
use Rattle.lists.proofs.Naturals.{le_or_lt}
use Rattle.counts.specs.Counts.{counted, some}
use Rattle.counts.proofs.Counts.{counted_or, counted_same, counted_never}
use Rattle.thin_rule.specs.Rule.{points_in, inside, many, quarter, share, keeps}
use Rattle.thin_rule.specs.Strength.{strong, Ordered, Sound}
use Rattle.thin_rule.specs.declared.Region.{Region}
use Rattle.thin_laws.proofs.Best.{one_or, best_cut, some_cut}
use Rattle.thin_laws.proofs.Quarters.{quarter_ordered}
use Rattle.thin_laws.proofs.Cases.{keeps_all, keeps_best, keeps_quarters}

-- g 0 + .. + g (m - 1)
unfoldable pub total : ℕ → (ℕ → ℕ) → ℕ
total zero g = 0
total (suc m) g = total m g + g m

pub total_mono : (m : ℕ) (g h : ℕ → ℕ) → ((k : ℕ) → g k ≤ h k) → total m g ≤ total m h
unfolding total
total_mono zero g h p = le_refl 0
total_mono (suc m) g h p = add-le-add (total_mono m g h p) (p m)

pub counted_some : (m : ℕ) (f : ℕ → ℕ → Bool) (n : ℕ) → counted 0 n (λ i. some m (λ k. f k i)) ≤ total m (λ k. counted 0 n (f k))
unfolding some total
counted_some zero f n = let a = counted_never 0 n (λ i. false) (λ i x y. refl) in omega arith
counted_some (suc m) f n =
    let a = counted_some m f n in
    let b : counted 0 n (λ i. some m (λ k. f k i) || f m i) ≤ counted 0 n (λ i. some m (λ k. f k i)) + counted 0 n (f m) =
    counted_or 0 n (λ i. some m (λ k. f k i) || f m i) (λ i. some m (λ k. f k i)) (f m) (λ i x y. one_or (some m (λ k. f k i) || f m i) (some m (λ k. f k i)) (f m i) (or_cases (some m (λ k. f k i)) (f m i))) in
    omega arith

ones : (r : ℕ) → r < 4 → 0 + cond {A = ℕ} (ltb 0 r) 1 0 + cond {A = ℕ} (ltb 1 r) 1 0 + cond {A = ℕ} (ltb 2 r) 1 0 + cond {A = ℕ} (ltb 3 r) 1 0 ≡ r
ones zero h = refl
ones (suc zero) h = refl
ones (suc (suc zero)) h = refl
ones (suc (suc (suc zero))) h = refl
ones (suc (suc (suc (suc r)))) h = absurd (omega arith)

-- the shares of the quarters make up the quota
pub shares : (q : ℕ) → total 4 (share q) ≡ q
unfolding share total
shares q = let h = ones (q % 4) (omega arith) in omega arith

total_next : (k : ℕ) (g : ℕ → ℕ) → total (k + 1) g ≡ total k g + g k
unfolding total
total_next k g = rw add-one

total_grows : (k d : ℕ) (g : ℕ → ℕ) → total k g ≤ total (k + d) g
total_grows k zero g = rw (add-zero k) (le_refl (total k g))
total_grows k (suc d) g =
    let h = total_grows k d g in
    let n = total_next (k + d) g in
    let e : k + suc d ≡ k + d + 1 = omega arith in
    rw e (omega arith)

-- those of the first quarters, and of one more, are no more than the quota
pub shares_some : (q k : ℕ) → k < 4 → total k (share q) + share q k ≤ q
shares_some q k h =
    let n = total_next k (share q) in
    let e : k + 1 + (3 - k) ≡ 4 = omega arith in
    let g : total (k + 1) (share q) ≤ total 4 (share q) = subst (λ (j : ℕ). total (k + 1) (share q) ≤ total j (share q)) e (total_grows (k + 1) (3 - k) (share q)) in
    let s = shares q in
    omega arith

pub share_some : (q k : ℕ) → 4 ≤ q → 1 ≤ share q k
unfolding share
share_some q k h = omega arith

module _ (ws : List ℕ) (s : Sound ws) where
  few_all : (d : ℕ) (r : Region) (q : ℕ) → many ws r ≤ q → counted 0 (points_in ws) (keeps ws d r q) ≤ q
  few_all d r q l = let e = counted_same 0 (points_in ws) (keeps ws d r q) (inside ws r) (λ i a b. keeps_all ws d r q i l) in omega arith

  few_best : (d : ℕ) (r : Region) (q : ℕ) → q < many ws r → (q < 4) ⊎ (d ≡ 0) → counted 0 (points_in ws) (keeps ws d r q) ≤ q
  few_best d r q l z =
      some_cut ws r s q (omega arith)
      (λ t e. let w = counted_same 0 (points_in ws) (keeps ws d r q) (strong ws r t) (λ i a b. keeps_best ws d r q i l z ∙ best_cut ws r s q t e i b) in omega arith)

  few_quarters : (d : ℕ) (r : Region) (q : ℕ) → Ordered r → q < many ws r → 4 ≤ q → ((k : ℕ) → counted 0 (points_in ws) (keeps ws d (quarter r k) (share q k)) ≤ share q k)
      → counted 0 (points_in ws) (keeps ws (suc d) r q) ≤ q
  few_quarters d r q o l z rec =
      let e = counted_same 0 (points_in ws) (keeps ws (suc d) r q) (λ i. some 4 (λ k. keeps ws d (quarter r k) (share q k) i)) (λ i a b. keeps_quarters ws d r q i o l z) in
      let c = counted_some 4 (λ k. keeps ws d (quarter r k) (share q k)) (points_in ws) in
      let t = total_mono 4 (λ k. counted 0 (points_in ws) (keeps ws d (quarter r k) (share q k))) (share q) rec in
      let h = shares q in
      omega arith

  pub keeps_few : (d : ℕ) (r : Region) (q : ℕ) → Ordered r → counted 0 (points_in ws) (keeps ws d r q) ≤ q
  keeps_few zero r q o = ⊎_elim (λ l. few_all 0 r q l) (λ l. few_best 0 r q l (inr refl)) (le_or_lt (many ws r) q)
  keeps_few (suc d) r q o =
      ⊎_elim
      (λ l. few_all (suc d) r q l)
      (λ l. ⊎_elim (λ z. few_quarters d r q o l z (λ k. keeps_few d (quarter r k) (share q k) (quarter_ordered r k o))) (λ z. few_best (suc d) r q l (inl z)) (le_or_lt 4 q))
      (le_or_lt (many ws r) q)
