-- The words of a sheet's record, of a raw keypoint, an oriented one and a descriptor's answer. Definitions only.
use Rattle.std.specs.Prelude.{ℕ, ◌/◌, ◌%◌, ◌^◌, cond, ◌&&◌, List, [], ◌∷◌, ◌++◌, map, ◌==◌, nat_le}
use Rattle.std.specs.Float.Ieee.{to_unsigned}
use Rattle.ieee.specs.F32.{◌=ᶠ◌, f32, bits_of, float}
use Rattle.detect_keypoint.specs.declared.RawKeypoint.{RawKeypoint}
use Rattle.orient_words.specs.declared.OrientedKeypoint.{OrientedKeypoint}

-- rule S4: the keypoint's cell, and the bytes of its octave word: octave, layer, and the code, above which nothing stands (rule A12)
abbrev pub head_of : RawKeypoint → List ℕ
head_of k = k.rr ∷ k.cc ∷ (k.octave % 2 ^ 8) ∷ (k.octave / 2 ^ 8 % 2 ^ 8) ∷ (k.octave / 2 ^ 16) ∷ []

-- rule S4: the oriented keypoint's floats, by their bits
abbrev pub floats_of : OrientedKeypoint → List ℕ
floats_of o = bits_of o.x ∷ bits_of o.y ∷ bits_of o.size ∷ bits_of o.response ∷ bits_of o.angle ∷ []

-- rule S7: a value, by its bits, as the whole number that it is; 256, which no record takes, where it is none from 0 to 255
unfoldable pub byte_of : ℕ → ℕ
byte_of bits =
    let n = to_unsigned 32 (f32 bits) in
    cond (nat_le n 255 && (float n =ᶠ f32 bits)) n 256

-- rule S8: blank is that no sample was used
abbrev pub blank_of : ℕ → ℕ
blank_of samples = cond (samples == 0) 1 0

unfoldable pub record_of : RawKeypoint → OrientedKeypoint → List ℕ → ℕ → List ℕ
record_of k o values samples = head_of k ++ (floats_of o ++ (map byte_of values ++ (blank_of samples ∷ [])))
