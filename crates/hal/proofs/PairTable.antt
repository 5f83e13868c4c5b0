-- What stands in the table: each entry, and how much the next one is larger. One test that antt computes at all 512 places. Assumes nothing.
use mathlib.Core.Path.{◌≡◌, refl, ap, ◌∙◌}
use mathlib.Core.Bool.{Bool}
use mathlib.Core.List.{List}
use Prim.Native.Nat.{ℕ, zero, suc, ◌+◌, ◌-◌, ◌*◌, ◌/◌, ◌%◌, ◌<◌}
use native.Mathlib.Omega.{arith}
use lib.Dec.{T, eqb, eqb→eq}
use lib.ListN.{length, get_or}
use Rattle.lists.specs.Ranges.{joined}
use Rattle.hal.specs.Powers.{powers, entry_of, pairs}
use Rattle.hal.specs.Exp.{mix_of}
use Rattle.hal.proofs.TwoByTwo.{pairs_of, pair_at}
use Rattle.hal.proofs.Entries.{at}

abbrev half : ℕ → ℕ → ℕ
half i zero = entry_of i
half i (suc k) = entry_of (i + 1) - entry_of i

place : ℕ → ℕ → Bool
place j x = eqb x (half (j / 2) (j % 2))

place_at : (j : ℕ) → j < 512 → T (place j (get_or pairs j 0))
unfolding pairs joined entry_of powers place
place_at j h = at place pairs 0 tt j h

half_at : (j : ℕ) → j < 512 → get_or pairs j 0 ≡ half (j / 2) (j % 2)
unfolding place
half_at j h = eqb→eq (get_or pairs j 0) (half (j / 2) (j % 2)) (place_at j h)

entry_at : (i : ℕ) → i < 256 → get_or pairs (2 * i) 0 ≡ entry_of i
entry_at i h =
    let p : 2 * i / 2 ≡ i = omega arith in
    let q : 2 * i % 2 ≡ 0 = omega arith in
    half_at (2 * i) (omega arith) ∙ ap (λ (z : ℕ). half z (2 * i % 2)) p ∙ ap (half i) q

rise_at : (i : ℕ) → i < 256 → get_or pairs (2 * i + 1) 0 ≡ entry_of (i + 1) - entry_of i
rise_at i h =
    let p : (2 * i + 1) / 2 ≡ i = omega arith in
    let q : (2 * i + 1) % 2 ≡ 1 = omega arith in
    half_at (2 * i + 1) (omega arith) ∙ ap (λ (z : ℕ). half z ((2 * i + 1) % 2)) p ∙ ap (half i) q

-- two by two: a and b are the pair at place i
pairs_length : length pairs ≡ 512
unfolding pairs joined entry_of powers
pairs_length = refl

pub pair_mixed : (i g : ℕ) {a b : ℕ} → i < 256 → a ≡ (get_or (pairs_of pairs) i (0, 0)).0 → b ≡ (get_or (pairs_of pairs) i (0, 0)).1 → a + b * g / 8388608 ≡ mix_of i g
unfolding mix_of
pair_mixed i g h p q =
    let e : get_or (pairs_of pairs) i (0, 0) ≡ (get_or pairs (2 * i) 0, get_or pairs (2 * i + 1) 0) = pair_at 0 pairs i (omega (arith, pairs_length)) in
    rw (p, q, e, entry_at i h, rise_at i h) refl
