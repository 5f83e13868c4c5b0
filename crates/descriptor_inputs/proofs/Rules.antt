-- The laws of the inputs that specs/Rules.antt states. Assumes nothing.
use Prim.Native.Nat.{ℕ, ◌*◌, ◌^◌, ◌≤◌}
use mathlib.Core.Path.{◌≡◌, refl, sym}
use mathlib.Core.Bool.{Bool, true, false, ◌&&◌, cond}
use native.Mathlib.Omega.{arith}
use borrow.Author.Tests.{le-ltb}
use lib.IntN.{pos}
use lib.Ieee.{Float, binary32, of_bits, of_int, sub, mul, div, lt, le}
use lib.Ieee.Scale.{finite}
use Rattle.lists.proofs.Bools.{and_both}
use Rattle.ieee.specs.F32.{◌⊖◌, ◌⊗◌, ◌<ᶠ◌, abs_of, float}
use Rattle.ieee.specs.Numbers.{nought, half, whole_turn, epsilon}
use Rattle.ieee_laws.proofs.Order.{le_trans_float}
use Rattle.ieee_laws.proofs.Monotone.{nil}
use Rattle.ieee_laws.proofs.Bounds.{Bounds, bounds_point, sub_bounds, mul_bounds_by}
use Rattle.lists.specs.Ranges.{every}
use Rattle.params.specs.Limits.{max_octave, scale_low, scale_high}
use Rattle.params.specs.Table.{within}
use Rattle.params.specs.declared.Settings.{Settings}
use Rattle.picture.specs.declared.Size.{Size}
use Rattle.detect_keypoint.specs.Sound.{Sound}
use Rattle.detect_keypoint.specs.declared.RawKeypoint.{RawKeypoint}
use Rattle.lists.proofs.Every.{every_all}
use Rattle.orient_words.specs.Oriented.{oriented_of}
use Rattle.orient_words.specs.declared.OrientedKeypoint.{OrientedKeypoint}
use Rattle.descriptor_inputs.specs.Inputs.{oriented_wrong, shrink_of, reversed_of, given_of, inputs_of}
use Rattle.descriptor_inputs.specs.Rules.{Taken, InputRule}
use Rattle.descriptor_inputs.proofs.Checks.{finite_number, accepted}

-- ---- the angle

turn_ends : (finite nought ≡ true) × (finite whole_turn ≡ true)
unfolding of_bits
turn_ends = (refl, refl)

turn_point : Bounds whole_turn whole_turn whole_turn
turn_point = bounds_point whole_turn turn_ends.1

-- 360 - 360 = 0, 360 - 0 = 360
turn_over : (angle : Float) → within nought whole_turn angle ≡ true → within nought whole_turn (whole_turn ⊖ angle) ≡ true
unfolding of_bits sub
turn_over angle h =
    let p = and_both (le nought angle) (le angle whole_turn) h in
    let u : Bounds nought whole_turn angle = record { from = turn_ends.0; to = turn_ends.1; low = p.0; high = p.1 } in
    let v = sub_bounds binary32 {a = whole_turn} {b = whole_turn} {c = nought} {d = whole_turn} refl refl turn_point u in
    rw (v.low, v.high)

none_in : within nought whole_turn nought ≡ true
unfolding of_bits le
none_in = refl

either_in : (t : Bool) (x y : Float) → within nought whole_turn x ≡ true → within nought whole_turn y ≡ true → within nought whole_turn (cond t x y) ≡ true
either_in true x y a b = a
either_in false x y a b = b

reversed_in : (angle : Float) → within nought whole_turn angle ≡ true → within nought whole_turn (reversed_of angle) ≡ true
unfolding reversed_of
reversed_in angle h = either_in (abs_of ((whole_turn ⊖ angle) ⊖ whole_turn) <ᶠ epsilon) nought (whole_turn ⊖ angle) none_in (turn_over angle h)

-- ---- the scale of a keypoint of octave o, whose size is 2^o to 2^7 × 2^o

abbrev low : ℕ → Float
low o = float (2 ^ o) ⊗ shrink_of o

abbrev high : ℕ → Float
high o = float (2 ^ 7 * 2 ^ o) ⊗ shrink_of o

abbrev ends : ℕ → Bool
ends o = (finite (shrink_of o) && le nil (shrink_of o)) && ((finite (low o) && finite (high o)) && (finite (low o ⊗ half) && finite (high o ⊗ half)))

abbrev inside : ℕ → Bool
inside o = le nil (float (2 ^ o)) && ((finite (float (2 ^ o)) && finite (float (2 ^ 7 * 2 ^ o))) && (le scale_low (low o ⊗ half) && le (high o ⊗ half) scale_high))

all_octaves : every 16 (λ o. ends o && inside o) ≡ true
unfolding every shrink_of of_int of_bits mul div lt le
all_octaves = refl

half_fine : (finite half ≡ true) × (le nil half ≡ true)
unfolding of_bits le
half_fine = (refl, refl)

nought_is : nought ≡ nil
unfolding of_bits
nought_is = refl

module _ (o : ℕ) (size : Float) (h : o ≤ max_octave) (a : le (float (2 ^ o)) size ≡ true) (b : le size (float (2 ^ 7 * 2 ^ o)) ≡ true) where
  test : (ends o ≡ true) × (inside o ≡ true)
  test = and_both (ends o) (inside o) (every_all 16 (λ o. ends o && inside o) all_octaves o (omega arith))

  scale_in : within scale_low scale_high (size ⊗ shrink_of o ⊗ half) ≡ true
  scale_in =
      let e = and_both (finite (shrink_of o) && le nil (shrink_of o)) _ test.0 in
      let f = and_both (finite (shrink_of o)) (le nil (shrink_of o)) e.0 in
      let g = and_both (finite (low o) && finite (high o)) _ e.1 in
      let p = and_both (finite (low o)) (finite (high o)) g.0 in
      let q = and_both (finite (low o ⊗ half)) (finite (high o ⊗ half)) g.1 in
      let i = and_both (le nil (float (2 ^ o))) _ test.1 in
      let j = and_both (finite (float (2 ^ o)) && finite (float (2 ^ 7 * 2 ^ o))) _ i.1 in
      let k = and_both (finite (float (2 ^ o))) (finite (float (2 ^ 7 * 2 ^ o))) j.0 in
      let l = and_both (le scale_low (low o ⊗ half)) (le (high o ⊗ half) scale_high) j.1 in
      let u : Bounds (float (2 ^ o)) (float (2 ^ 7 * 2 ^ o)) size = record { from = k.0; to = k.1; low = a; high = b } in
      let v = mul_bounds_by binary32 (shrink_of o) f.0 f.1 p.0 p.1 u in
      let x = mul_bounds_by binary32 half half_fine.0 half_fine.1 q.0 q.1 v in
      let s : le scale_low (size ⊗ shrink_of o ⊗ half) ≡ true = le_trans_float scale_low (low o ⊗ half) (size ⊗ shrink_of o ⊗ half) l.0 x.low in
      let t : le (size ⊗ shrink_of o ⊗ half) scale_high ≡ true = le_trans_float (size ⊗ shrink_of o ⊗ half) (high o ⊗ half) scale_high x.high l.1 in
      rw (s, t)

  size_from : le nought size ≡ true
  size_from = rw nought_is (le_trans_float nil (float (2 ^ o)) size (and_both (le nil (float (2 ^ o))) _ test.1).0 a)

-- ---- what orientation gives is accepted
module _ (s : Size) (octave : ℕ) (settings : Settings) (k : RawKeypoint) (o : OrientedKeypoint) (in_range : octave ≤ max_octave) (z : Sound s.width s.height settings octave k) (x : o.x ≡ k.x) (y : o.y ≡ k.y) (size : o.size ≡ k.size) (response : o.response ≡ k.response) (angle : within nought whole_turn o.angle ≡ true) where
  size_low : le (float (2 ^ octave)) o.size ≡ true
  size_low = rw size z.size_from

  size_high : le o.size (float (2 ^ 7 * 2 ^ octave)) ≡ true
  size_high = rw size z.size_to

  oriented_right : oriented_wrong o ≡ false
  unfolding oriented_wrong
  oriented_right = rw (size_from octave o.size in_range size_low size_high, angle, x, y, size, z.x_number.ends, z.y_number.ends, z.size_number.ends, response, finite_number k.response z.response_number.ends)

  is_given : inputs_of o (pos octave) ≡ given_of o octave
  is_given = sym (accepted o (pos octave) (le-ltb max_octave octave in_range) oriented_right)

  scale_right : within scale_low scale_high (given_of o octave).scale ≡ true
  unfolding given_of
  scale_right = scale_in octave o.size in_range size_low size_high

  angle_right : within nought whole_turn (given_of o octave).angle ≡ true
  unfolding given_of
  angle_right = reversed_in o.angle angle

  taken : Taken o octave
  taken = record { given = is_given; scale = rw is_given scale_right; angle = rw is_given angle_right }

pub input_rule : InputRule
input_rule =
    record {
      reversed = reversed_in;
      taken = λ s octave settings k turn in_range z angle. taken s octave settings k (oriented_of k turn) in_range z refl refl refl refl angle;
    }
