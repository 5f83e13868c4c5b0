-- The laws of orientation that specs/Rules.antt states. Assumes nothing.
use Prim.Native.Nat.{ℕ, ◌*◌, ◌^◌, ◌≤◌}
use mathlib.Core.Path.{◌≡◌, refl, ap}
use mathlib.Core.Bool.{Bool, true, false, ◌&&◌}
use mathlib.Core.List.{List}
use native.Mathlib.Omega.{arith}
use borrow.Author.Tests.{lt-ltb, le-ltb, le-leb, lt-leb}
use lib.ListN.{length, get_or, get_or-map}
use lib.Ieee.{Float, nan, binary32, of_bits, of_int, mul, div, lt, le}
use lib.Ieee.Scale.{finite}
use Rattle.lists.proofs.Bools.{and_both}
use Rattle.ieee.specs.F32.{◌⊗◌, ◌⊘◌, float}
use Rattle.ieee.specs.Numbers.{half}
use Rattle.ieee_laws.proofs.Order.{le_trans_float}
use Rattle.ieee_laws.proofs.Monotone.{nil}
use Rattle.ieee_laws.proofs.Bounds.{Bounds, mul_bounds_by, div_bounds_by}
use Rattle.lists.specs.Ranges.{every}
use Rattle.params.specs.Limits.{max_layers, max_octave, scale_low, scale_high}
use Rattle.params.specs.Table.{within}
use Rattle.params.specs.declared.Settings.{Settings}
use Rattle.picture.specs.declared.Size.{Size}
use Rattle.detect_keypoint.specs.Sound.{Sound}
use Rattle.detect_keypoint.specs.declared.RawKeypoint.{RawKeypoint}
use Rattle.orient_window.proofs.Cells.{read_is}
use Rattle.lists.proofs.Every.{every_all}
use Rattle.orient_peaks.specs.Rules.{max_peaks}
use Rattle.orient_peaks.proofs.Rules.{peak_rule}
use Rattle.orient_words.specs.Oriented.{oriented_of}
use Rattle.orient_words.specs.declared.OrientedKeypoint.{OrientedKeypoint}
use Rattle.std.proofs.lemmas.List.{length-map}
use Rattle.orient.specs.Keypoint.{octave_in, layer_in, cell_wrong, octave_wrong, floats_wrong, scale_of, scale_wrong, keypoint_wrong}
use Rattle.orient.specs.Entry.{window_at, angles_at, oriented_list}
use Rattle.orient.specs.Rules.{Passed, OrientRule}

-- ---- number and fields
few : (img : List Float) (s : Size) (k : RawKeypoint) → length (oriented_list img s k) ≤ max_peaks
unfolding oriented_list angles_at
few img s k = rw (length-map (angles_at img s k) (oriented_of k)) (peak_rule.few _)

passed_by : (k : RawKeypoint) (a : Float) (o : OrientedKeypoint) → o ≡ oriented_of k a → Passed k o
passed_by k a o e =
    record { x = ap (λ (z : OrientedKeypoint). z.x) e; y = ap (λ (z : OrientedKeypoint). z.y) e; size = ap (λ (z : OrientedKeypoint). z.size) e; response = ap (λ (z : OrientedKeypoint). z.response) e; octave = ap (λ (z : OrientedKeypoint). z.octave) e }

passed : (img : List Float) (s : Size) (k : RawKeypoint) (i : ℕ) → Passed k (get_or (oriented_list img s k) i (oriented_of k nan))
unfolding oriented_list
passed img s k i = passed_by k (get_or (angles_at img s k) i nan) _ (get_or-map (oriented_of k) (angles_at img s k) i nan)

-- ---- the scale of a keypoint of octave o, whose size is 2^o to 2^7 × 2^o
abbrev low : ℕ → Float
low o = float (2 ^ o) ⊗ half

abbrev high : ℕ → Float
high o = float (2 ^ 7 * 2 ^ o) ⊗ half

abbrev ends : ℕ → Bool
ends o = (finite (float (2 ^ o)) && finite (float (2 ^ 7 * 2 ^ o))) && ((finite (low o) && finite (high o)) && (finite (low o ⊘ float (2 ^ o)) && finite (high o ⊘ float (2 ^ o))))

abbrev inside : ℕ → Bool
inside o = lt nil (float (2 ^ o)) && (le scale_low (low o ⊘ float (2 ^ o)) && le (high o ⊘ float (2 ^ o)) scale_high)

all_octaves : every 16 (λ o. ends o && inside o) ≡ true
unfolding every of_int of_bits mul div lt le
all_octaves = refl

half_fine : (finite half ≡ true) × (le nil half ≡ true)
unfolding of_bits le
half_fine = (refl, refl)

scale_in : (o : ℕ) (size : Float) → o ≤ max_octave → le (float (2 ^ o)) size ≡ true → le size (float (2 ^ 7 * 2 ^ o)) ≡ true → within scale_low scale_high (size ⊗ half ⊘ float (2 ^ o)) ≡ true
scale_in o size h a b =
    let c = and_both (ends o) (inside o) (every_all 16 (λ o. ends o && inside o) all_octaves o (omega arith)) in
    let e = and_both (finite (float (2 ^ o)) && finite (float (2 ^ 7 * 2 ^ o))) _ c.0 in
    let f = and_both (finite (float (2 ^ o))) (finite (float (2 ^ 7 * 2 ^ o))) e.0 in
    let g = and_both (finite (low o) && finite (high o)) _ e.1 in
    let p = and_both (finite (low o)) (finite (high o)) g.0 in
    let q = and_both (finite (low o ⊘ float (2 ^ o))) (finite (high o ⊘ float (2 ^ o))) g.1 in
    let i = and_both (lt nil (float (2 ^ o))) _ c.1 in
    let j = and_both (le scale_low (low o ⊘ float (2 ^ o))) (le (high o ⊘ float (2 ^ o)) scale_high) i.1 in
    let u : Bounds (float (2 ^ o)) (float (2 ^ 7 * 2 ^ o)) size = record { from = f.0; to = f.1; low = a; high = b } in
    let v = mul_bounds_by binary32 half half_fine.0 half_fine.1 p.0 p.1 u in
    let x = div_bounds_by binary32 (float (2 ^ o)) f.0 i.0 q.0 q.1 v in
    let s : le scale_low (size ⊗ half ⊘ float (2 ^ o)) ≡ true = le_trans_float scale_low (low o ⊘ float (2 ^ o)) (size ⊗ half ⊘ float (2 ^ o)) j.0 x.low in
    let t : le (size ⊗ half ⊘ float (2 ^ o)) scale_high ≡ true = le_trans_float (size ⊗ half ⊘ float (2 ^ o)) (high o ⊘ float (2 ^ o)) scale_high x.high j.1 in
    rw (s, t)

-- ---- what detection gives is accepted
module _ (s : Size) (o : ℕ) (settings : Settings) (k : RawKeypoint) (layers : settings.layers ≤ max_layers) (octave : o ≤ max_octave) (z : Sound s.width s.height settings o k) where
  cell_right : cell_wrong s k ≡ false
  unfolding cell_wrong
  cell_right = rw (lt-ltb k.rr s.height (omega (arith, z.bottom)), lt-ltb k.cc s.width (omega (arith, z.right)))

  octave_right_lem : octave_wrong k.octave ≡ false
  unfolding octave_wrong
  octave_right_lem =
      let a = z.low_byte in
      let b = z.next_byte in
      rw (le-ltb max_octave (octave_in k.octave) (omega arith), le-leb 1 (layer_in k.octave) (omega (arith, z.first)), le-leb (layer_in k.octave) max_layers (omega (arith, z.last)), lt-leb (2 ^ 24) k.octave (omega (arith, z.third_byte)))

  floats_right : floats_wrong k ≡ false
  unfolding floats_wrong
  floats_right = rw (z.x_number.ends, z.y_number.ends, z.size_number.ends, z.response_number.ends, z.xi_number.ends)

  scale_right : scale_wrong k ≡ false
  unfolding scale_wrong scale_of
  scale_right = rw (z.low_byte, scale_in o k.size octave z.size_from z.size_to)

  accepted : keypoint_wrong s k ≡ false
  unfolding keypoint_wrong
  accepted = rw (cell_right, octave_right_lem, floats_right, scale_right)

pub orient_rule : OrientRule
orient_rule =
    record {
      read = λ s k. read_is (window_at s k);
      few = few;
      passed = λ img s k i l. passed img s k i;
      accepted = accepted;
    }
