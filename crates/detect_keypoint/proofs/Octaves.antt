-- Position and size of a keypoint: finite and above zero, for each octave. Assumes nothing.
use Rattle.std.proofs.Common.{◌≡◌, ℕ, ◌+◌, ◌*◌, ◌^◌, ◌≤◌, Bool, true, false, ◌&&◌, pos, refl, arith}
use lib.Ieee.{Float, fin, binary32, of_bits, of_int, neg, add, mul, lt, le}
use lib.Ieee.Scale.{finite}
use Rattle.lists.proofs.Bools.{and_left, and_right}
use Rattle.ieee.specs.F32.{◌⊕◌, ◌⊗◌, ◌<ᶠ◌, ◌≤ᶠ◌, f32, abs_of, float}
use Rattle.ieee.specs.Numbers.{two, nought, half}
use Rattle.ieee_laws.proofs.Order.{lt_le_trans, le_trans_float, lt_le}
use Rattle.ieee_laws.proofs.Monotone.{nil}
use Rattle.ieee_laws.proofs.Bounds.{Bounds, bounds_finite, bounds_above, add_bounds, mul_bounds, mul_bounds_by, of_int_bounds, abs_bounds}
use Rattle.lists.specs.Ranges.{every}
use Rattle.params.specs.Limits.{border, max_side, max_octave}
use Rattle.lists.proofs.Every.{every_all}

-- the least and the largest position in the octave's own cells, 4.5 and 8192.5; and the least and the largest half size there, 0.5 and 64
abbrev nearest : Float
nearest = f32 0x4090_0000

abbrev farthest : Float
farthest = f32 0x4600_0200

abbrev largest : Float
largest = f32 0x4280_0000

octave_test : ℕ → Bool
octave_test i =
    let n = float (2 ^ i) in
    (finite n && lt nil n)
    && ((finite (nearest ⊗ n) && (lt nil (nearest ⊗ n) && finite (farthest ⊗ n)))
    && ((finite (half ⊗ n) && finite (largest ⊗ n)) && ((finite (half ⊗ n ⊗ two) && finite (largest ⊗ n ⊗ two)) && (le n (half ⊗ n ⊗ two) && le (largest ⊗ n ⊗ two) (float (2 ^ 7 * 2 ^ i))))))

octaves_pass : every (max_octave + 1) octave_test ≡ true
unfolding octave_test every of_bits of_int mul lt le
octaves_pass = refl

record Octave (o : ℕ) : Type 0 where
  pub held : finite (float (2 ^ o)) ≡ true
  pub above : lt nil (float (2 ^ o)) ≡ true
  pub near : finite (nearest ⊗ float (2 ^ o)) ≡ true
  pub near_above : lt nil (nearest ⊗ float (2 ^ o)) ≡ true
  pub far : finite (farthest ⊗ float (2 ^ o)) ≡ true
  pub small : finite (half ⊗ float (2 ^ o)) ≡ true
  pub large : finite (largest ⊗ float (2 ^ o)) ≡ true
  pub least : finite (half ⊗ float (2 ^ o) ⊗ two) ≡ true
  pub most : finite (largest ⊗ float (2 ^ o) ⊗ two) ≡ true
  pub from : le (float (2 ^ o)) (half ⊗ float (2 ^ o) ⊗ two) ≡ true
  pub to : le (largest ⊗ float (2 ^ o) ⊗ two) (float (2 ^ 7 * 2 ^ o)) ≡ true

passed : (o : ℕ) → octave_test o ≡ true → Octave o
unfolding octave_test
passed o t =
    let n = float (2 ^ o) in
    let a = and_left (finite n && lt nil n) _ t in
    let b = and_right (finite n && lt nil n) _ t in
    let c = and_left (finite (nearest ⊗ n) && (lt nil (nearest ⊗ n) && finite (farthest ⊗ n))) _ b in
    let c' = and_right (finite (nearest ⊗ n)) _ c in
    let d = and_right (finite (nearest ⊗ n) && (lt nil (nearest ⊗ n) && finite (farthest ⊗ n))) _ b in
    let e = and_left (finite (half ⊗ n) && finite (largest ⊗ n)) _ d in
    let f = and_right (finite (half ⊗ n) && finite (largest ⊗ n)) _ d in
    let g = and_left (finite (half ⊗ n ⊗ two) && finite (largest ⊗ n ⊗ two)) _ f in
    let h = and_right (finite (half ⊗ n ⊗ two) && finite (largest ⊗ n ⊗ two)) _ f in
    record {
      held = and_left (finite n) _ a;
      above = and_right (finite n) _ a;
      near = and_left (finite (nearest ⊗ n)) _ c;
      near_above = and_left (lt nil (nearest ⊗ n)) _ c';
      far = and_right (lt nil (nearest ⊗ n)) _ c';
      small = and_left (finite (half ⊗ n)) _ e;
      large = and_right (finite (half ⊗ n)) _ e;
      least = and_left (finite (half ⊗ n ⊗ two)) _ g;
      most = and_right (finite (half ⊗ n ⊗ two)) _ g;
      from = and_left (le n (half ⊗ n ⊗ two)) _ h;
      to = and_right (le n (half ⊗ n ⊗ two)) _ h;
    }

octave : (o : ℕ) → o ≤ max_octave → Octave o
octave o h = passed o (every_all (max_octave + 1) octave_test octaves_pass o (omega arith))

nought_is : nought ≡ nil
unfolding of_bits
nought_is = refl

module _ (o : ℕ) (in_range : o ≤ max_octave) where
  -- a place v of a frame, moved by less than half a cell
  module _ (v : ℕ) (x : Float) (low : border ≤ v) (high : v ≤ max_side) (small : (abs_of x <ᶠ half) ≡ true) where
    place_bounds : Bounds nearest farthest (float v ⊕ x)
    unfolding of_bits of_int add neg
    place_bounds =
        add_bounds binary32 {a = float border} {b = float max_side} {c = neg half} {d = half} refl refl
        (of_int_bounds binary32 border max_side v refl refl low high) (abs_bounds x half refl small)

    position_bounds : Bounds (nearest ⊗ float (2 ^ o)) (farthest ⊗ float (2 ^ o)) ((float v ⊕ x) ⊗ float (2 ^ o))
    position_bounds =
        let k = octave o in_range in
        mul_bounds_by binary32 (float (2 ^ o)) k.held (lt_le nil (float (2 ^ o)) k.above) k.near k.far place_bounds

    pub position_finite : finite ((float v ⊕ x) ⊗ float (2 ^ o)) ≡ true
    position_finite = bounds_finite position_bounds

    pub position_above : (nought <ᶠ (float v ⊕ x) ⊗ float (2 ^ o)) ≡ true
    position_above = rw nought_is (bounds_above position_bounds (octave o in_range).near_above)

  -- sigma from 0.5 to 16, and a power from 1 to 4
  module _ (sigma power : Float) (s : Bounds half (f32 0x4180_0000) sigma) (p : Bounds (fin false 1 (pos 0)) (fin false 1 (pos 2)) power) where
    abbrev size : Float
    size = sigma ⊗ power ⊗ float (2 ^ o) ⊗ two

    product_bounds : Bounds half largest (sigma ⊗ power)
    unfolding of_bits mul le
    product_bounds = mul_bounds binary32 {a = half} {b = f32 0x4180_0000} {c = fin false 1 (pos 0)} {d = fin false 1 (pos 2)} refl refl refl refl s p

    size_bounds : Bounds (half ⊗ float (2 ^ o) ⊗ two) (largest ⊗ float (2 ^ o) ⊗ two) size
    unfolding of_bits le
    size_bounds =
        let k = octave o in_range in
        mul_bounds_by binary32 two refl refl k.least k.most
        (mul_bounds_by binary32 (float (2 ^ o)) k.held (lt_le nil (float (2 ^ o)) k.above) k.small k.large product_bounds)

    pub size_finite : finite size ≡ true
    size_finite = bounds_finite size_bounds

    pub size_from : (float (2 ^ o) ≤ᶠ size) ≡ true
    size_from = le_trans_float (float (2 ^ o)) (half ⊗ float (2 ^ o) ⊗ two) size (octave o in_range).from size_bounds.low

    pub size_to : (size ≤ᶠ float (2 ^ 7 * 2 ^ o)) ≡ true
    size_to = le_trans_float size (largest ⊗ float (2 ^ o) ⊗ two) (float (2 ^ 7 * 2 ^ o)) size_bounds.high (octave o in_range).to

    pub size_above : (nought <ᶠ size) ≡ true
    size_above = rw nought_is (lt_le_trans nil (float (2 ^ o)) size (octave o in_range).above size_from)
