-- The laws of the values that specs/ValuesRules.antt states. Assumes nothing.
use Prim.Native.Nat.{ℕ, zero, suc, ◌+◌, ◌*◌, ◌/◌, ◌%◌, ◌<◌, ◌≤◌}
use mathlib.Core.Path.{◌≡◌, refl}
use mathlib.Core.Bool.{Bool, true, false, cond}
use mathlib.Core.List.{List}
use native.Mathlib.Omega.{arith}
use lib.Dec.{eqb}
use lib.ListN.{length, get_or}
use lib.Ieee.{Float, nan, binary32, of_bits, add}
use lib.Ieee.Scale.{finite}
use Rattle.ieee.specs.F32.{◌⊕◌, ◌⊗◌, ◌⊘◌, root_of, rounded}
use Rattle.ieee.specs.Numbers.{nought, epsilon, top_byte}
use Rattle.ieee_laws.proofs.Order.{Marked, ended, le_number}
use Rattle.ieee_laws.proofs.Monotone.{nil}
use Rattle.ieee_laws.proofs.Bounds.{Bounds, marked_nonneg, add_bounds}
use Rattle.bounds.specs.Bounds.{max_of, min_of, clamp_of}
use Rattle.params.specs.Limits.{value_count}
use Rattle.descriptor_values.specs.Places.{places, place, bins}
use Rattle.descriptor_values.specs.Values.{clamp_ratio, factor, at, folded_at, raw_of, lane, norm2, clamped, plain_norm, scale_of, finished, values_of}
use Rattle.descriptor_laws.specs.ValuesRules.{most, Held, Byte, ValueRule}
use Rattle.descriptor_values.proofs.Listed.{up_to_length}
use Rattle.descriptor_laws.proofs.Lists.{up_to_at}
use Rattle.descriptor_laws.proofs.Signs.{Plain, marked_plain, abs_marked, add_marked, fused_marked, root_marked, limit_marked, mul_marked, min_plain, scale_plain, held_byte}
use Rattle.descriptor_laws.proofs.Zeros.{zeros}

-- ---- what the places hold, and two of them together

most_is : (finite nil ≡ true) × (finite most ≡ true) × (finite (nil ⊕ nil) ≡ true) × (finite (most ⊕ most) ≡ true)
unfolding of_bits add
most_is = (refl, refl, refl, refl)

held_marked : {x : Float} → Held x → Marked false x
held_marked {x} h = abs_marked x h.plain (le_number x most h.small).0

held_plain : {x : Float} → Held x → Plain x
held_plain {x} h = marked_plain most (held_marked h) most_is.1 h.small

held_bounds : {x : Float} → Held x → Bounds nil most x
held_bounds {x} h = record { from = most_is.0; to = most_is.1; low = marked_nonneg (held_marked h); high = h.small }

sum_plain : {x y : Float} → Held x → Held y → Plain (x ⊕ y)
sum_plain {x} {y} h k = marked_plain (most ⊕ most) (add_marked (held_marked h) (held_marked k)) most_is.3 (add_bounds binary32 most_is.2 most_is.3 (held_bounds h) (held_bounds k)).high

module _ (hist : List Float) (all : (i : ℕ) → i < places → Held (get_or hist i nan)) where
  folded_plain : (n : ℕ) → n < value_count → Plain (folded_at hist (n / 32) (n / 8 % 4) (n % 8))
  unfolding folded_at
  folded_plain n h = go (eqb (n % 8) 0)
    where
      go : (b : Bool) → Plain (cond b (get_or hist (place (n / 32 + 1) (n / 8 % 4 + 1) 0) nan ⊕ get_or hist (place (n / 32 + 1) (n / 8 % 4 + 1) 0 + bins) nan) (get_or hist (place (n / 32 + 1) (n / 8 % 4 + 1) 0 + n % 8) nan))
      go true = sum_plain (all (place (n / 32 + 1) (n / 8 % 4 + 1) 0) (omega arith)) (all (place (n / 32 + 1) (n / 8 % 4 + 1) 0 + bins) (omega arith))
      go false = held_plain (all (place (n / 32 + 1) (n / 8 % 4 + 1) 0 + n % 8) (omega arith))

  raw_plain : (n : ℕ) → n < value_count → Plain (at (raw_of hist) n)
  unfolding raw_of
  raw_plain n h = rw (up_to_at (λ n. folded_at hist (n / 32) (n / 8 % 4) (n % 8)) value_count n h) (folded_plain n h)

-- ---- the norm and the clamp
module _ (v : List Float) (all : (n : ℕ) → n < value_count → Plain (at v n)) where
  lane_marked : (l n : ℕ) → l < 4 → n ≤ 32 → Marked false (lane v l n)
  unfolding lane
  lane_marked l zero a b = unfold of_bits in ended
  lane_marked l (suc n) a b = fused_marked (all (4 * n + l) (omega arith)) (lane_marked l n a (omega arith))

  norm_marked : Marked false (norm2 v)
  unfolding norm2
  norm_marked =
      add_marked
      (add_marked (lane_marked 0 32 (omega arith) (omega arith)) (lane_marked 1 32 (omega arith) (omega arith)))
      (add_marked (lane_marked 2 32 (omega arith) (omega arith)) (lane_marked 3 32 (omega arith) (omega arith)))

  clamped_plain : (n : ℕ) → n < value_count → Plain (at (clamped v) n)
  unfolding clamped
  clamped_plain n h =
      rw (up_to_at (λ n. min_of (at v n) (root_of (norm2 v) ⊗ clamp_ratio)) value_count n h)
      (min_plain (all n h) (limit_marked (root_marked norm_marked)))

  finished_byte : (n : ℕ) → n < value_count → Byte (at (finished v) n)
  unfolding finished scale_of
  finished_byte n h =
      rw (up_to_at (λ n. clamp_of (rounded (at v n ⊗ (factor ⊘ max_of (root_of (plain_norm v value_count)) epsilon))) nought top_byte) value_count n h)
      (held_byte (mul_marked (all n h) (scale_plain (root_of (plain_norm v value_count)))))

whole : (hist : List Float) → ((i : ℕ) → i < places → Held (get_or hist i nan)) → (n : ℕ) → n < value_count → Byte (get_or (values_of hist) n nan)
unfolding values_of
whole hist all n h = finished_byte (clamped (raw_of hist)) (clamped_plain (raw_of hist) (raw_plain hist all)) n h

count : (hist : List Float) → length (values_of hist) ≡ value_count
unfolding values_of finished
count hist = up_to_length _ value_count

pub value_rule : ValueRule
value_rule = record { count = count; whole = whole; zeros = zeros }
