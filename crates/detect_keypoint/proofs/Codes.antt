-- The code of a small offset lies in 0 to 255, where the source's signed cast and the code's cast agree, and the octave word is then a plain sum. Assumes nothing.
use Rattle.std.proofs.Common.{◌≡◌, ℕ, ◌+◌, ◌-◌, ◌*◌, ◌/◌, ◌%◌, ◌^◌, ◌<◌, ◌≤◌, min, true, false, T, pos, sym, refl, ap, ◌∙◌, arith}
use mathlib.Core.Bool.{false≢true}
use native.Mathlib.Nat.{zero-div}
use lib.Ieee.{Float, nan, inf, fin, binary32, up, down, of_bits, neg, add, mul, lt, le, to_unsigned, to_signed}
use lib.Ieee.Scale.{finite}
use Rattle.ieee.specs.Whole.{round_even}
use Rattle.ieee.specs.F32.{◌⊕◌, ◌⊗◌, ◌<ᶠ◌, abs_of, rounded, to_i32}
use Rattle.ieee.specs.Numbers.{half, top_byte, one}
use Rattle.ieee_laws.proofs.Order.{le_fin, le_lt_trans, lt_le_trans}
use Rattle.ieee_laws.proofs.Monotone.{nil, to_unsigned_le}
use Rattle.ieee_laws.proofs.Bounds.{Bounds, bounds_finite, bounds_point, add_bounds, mul_bounds_by, round_even_bounds, abs_bounds}
use Rattle.params.specs.Limits.{max_layers, max_octave}
use Rattle.detect_keypoint.specs.Keypoint.{code_of, octave_word}

-- ---- a float that is not negative and small: `as i32` gives what a cast to a whole number without a sign gives

cut_same : (a : ℕ) → min a (2 ^ 32 - 1) ≤ 255 → min a (2 ^ 31 - 1) ≡ min a (2 ^ 32 - 1)
cut_same a h = omega arith

casts_agree : (x : Float) → le nil x ≡ true → finite x ≡ true → to_unsigned 32 x ≤ 255 → to_i32 x ≡ pos (to_unsigned 32 x)
unfolding to_unsigned to_signed
casts_agree nan h f l = refl
casts_agree (inf s) h f l = absurd (false≢true f)
casts_agree (fin true m e) h f l =
    let g = (le_fin false 0 (pos 0) true m e h).cross in
    let z : m * up e ≡ 0 = omega (arith, g) in
    rw (z, zero-div)
casts_agree (fin false m e) h f l = ap pos (cut_same (m * up e / down e) l)

module _ (xi : Float) (small : (abs_of xi <ᶠ half) ≡ true) where
  abbrev near : Float
  near = rounded ((xi ⊕ half) ⊗ top_byte)

  pub code_bounds : Bounds nil top_byte near
  unfolding of_bits neg add mul round_even le
  code_bounds =
      round_even_bounds binary32 {a = nil} {b = top_byte} refl refl
      (mul_bounds_by binary32 {a = nil} {b = one} top_byte refl refl refl refl
      (add_bounds binary32 {a = neg half} {b = half} {c = half} {d = half} refl refl (abs_bounds xi half refl small) (bounds_point half refl)))

  -- the code as a whole number without a sign
  abbrev pub code : ℕ
  code = to_unsigned 32 near

  pub code_le : code ≤ 255
  unfolding to_unsigned of_bits
  code_le = to_unsigned_le 32 near top_byte code_bounds.high

  pub code_cast : pos code ≡ code_of xi
  unfolding code_of
  code_cast = sym (casts_agree near code_bounds.low (bounds_finite code_bounds) code_le)

  pub code_is : (k : ℕ) (x : Float) → x ≡ near → k ≡ to_unsigned 32 x → (pos k ≡ code_of xi) × (k ≤ 255)
  code_is k x e h = let i : k ≡ code = h ∙ ap (to_unsigned 32) e in rw i (code_cast, code_le)

-- ---- the octave word of such a code

pub word_is : (octave p k : ℕ) → octave ≤ max_octave → p ≤ max_layers → k ≤ 255 → octave_word octave p (pos k) ≡ octave + p * 2 ^ 8 + k * 2 ^ 16
unfolding octave_word
word_is octave p k a b e = omega arith

-- ---- its bytes

pub word_low : (o p k : ℕ) → o ≤ max_octave → (o + p * 2 ^ 8 + k * 2 ^ 16) % 2 ^ 8 ≡ o
word_low o p k h = omega arith

pub word_next : (o p k : ℕ) → o ≤ max_octave → p ≤ max_layers → (o + p * 2 ^ 8 + k * 2 ^ 16) / 2 ^ 8 % 2 ^ 8 ≡ p
word_next o p k h g = omega arith

pub word_third : (o p k : ℕ) → o ≤ max_octave → p ≤ max_layers → k ≤ 255 → (o + p * 2 ^ 8 + k * 2 ^ 16) / 2 ^ 16 < 2 ^ 8
word_third o p k h g l = omega arith
