-- A list read two by two. Assumes nothing.
use mathlib.Core.Path.{◌≡◌, refl, ap}
use mathlib.Core.List.{List, [], ◌∷◌}
use Prim.Native.Nat.{ℕ, zero, suc, ◌+◌, ◌*◌, ◌<◌}
use native.Mathlib.Omega.{arith}
use lib.ListN.{length, get_or}

unfoldable pub pairs_of : {A : Type 0} → List A → List (A × A)
pairs_of [] = []
pairs_of (x ∷ []) = []
pairs_of (x ∷ y ∷ xs) = (x, y) ∷ pairs_of xs

pub pair_at : {A : Type 0} (d : A) (xs : List A) (k : ℕ) → 2 * k + 1 < length xs → get_or (pairs_of xs) k (d, d) ≡ (get_or xs (2 * k) d, get_or xs (2 * k + 1) d)
unfolding pairs_of
pair_at d [] k h = absurd (omega arith)
pair_at d (x ∷ []) k h = absurd (omega arith)
pair_at d (x ∷ y ∷ xs) zero h = refl
pair_at {A} d (x ∷ y ∷ xs) (suc k) h =
    let p : 2 * suc k ≡ suc (suc (2 * k)) = omega arith in
    let q : 2 * suc k + 1 ≡ suc (suc (2 * k + 1)) = omega arith in
    let e : get_or (x ∷ y ∷ xs) (2 * suc k) d ≡ get_or xs (2 * k) d = ap (λ (z : ℕ). get_or (x ∷ y ∷ xs) z d) p in
    let f : get_or (x ∷ y ∷ xs) (2 * suc k + 1) d ≡ get_or xs (2 * k + 1) d = ap (λ (z : ℕ). get_or (x ∷ y ∷ xs) z d) q in
    rw (e, f) (pair_at d xs k (omega arith))
