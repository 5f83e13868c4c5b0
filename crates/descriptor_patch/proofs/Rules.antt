-- The laws of a patch and of a cell's sample that specs/Rules.antt states. Assumes nothing.
use Rattle.std.proofs.Common.{◌≡◌, ℕ, ◌<◌, true, false, not, T, List, pos, refl, ◌∙◌, ⊎_elim, arith}
use mathlib.Core.Bool.{false≢true}
use lib.Ieee.{Float, nan, inf, fin, binary32, of_bits, neg, add, sub, mul, lt, le, is_nan}
use lib.Ieee.Scale.{finite}
use Rattle.lists.proofs.Bools.{and_both}
use Rattle.ieee.specs.F32.{◌⊕◌, ◌⊖◌, ◌⊗◌, f32, abs_of}
use Rattle.ieee.specs.Numbers.{half, two, four, minus_one}
use Rattle.ieee_laws.specs.Sign.{Turned, of_fin, turned, no_sign}
use Rattle.ieee_laws.proofs.Order.{le_or_lt_float, le_trans_float, le_number, lt_le, lt_not_le}
use Rattle.ieee_laws.proofs.Monotone.{nil, add_le, sub_le}
use Rattle.ieee_laws.proofs.Bounds.{Bounds, bounds_finite, bounds_point, bounds_wider, add_bounds, mul_bounds, abs_nonneg}
use Rattle.ieee_laws.proofs.Turned.{neg_opp, mul_turned, le_turned}
use Rattle.ieee_laws.proofs.TurnedOps.{same}
use Rattle.params.specs.Limits.{scale_low, scale_high}
use Rattle.params.specs.Table.{within, all_good}
use Rattle.hal.specs.Numbers.{minus32}
use Rattle.hal.specs.Exp.{in_down}
use Rattle.picture.specs.Picture.{four_at}
use Rattle.picture.specs.declared.Size.{Size}
use Rattle.samples.proofs.Slopes.{good_slope}
use Rattle.descriptor_patch.specs.Patch.{exp_scale, bin_of, in_grid, grid_at, rots_of, sample_at, radius_of, patch_of}
use Rattle.descriptor_patch.specs.Place.{Sides, Lies}
use Rattle.descriptor_patch.specs.Rules.{Fair, PatchRule}
use Rattle.descriptor_patch.specs.declared.Patch.{Patch}
use Rattle.descriptor_patch.proofs.Reach.{reach_small}

-- ---- how the patch lies

lies : (s : Size) (px py : ℕ) (scale angle : Float) → Sides s → px < s.width → py < s.height → within scale_low scale_high scale ≡ true → Lies (patch_of s px py scale angle)
unfolding patch_of radius_of
lies s px py scale angle p a b k =
    record { wide = p.wide; high = p.high; col = a; row = b; reach = omega (arith, reach_small scale k) }

-- ---- the exponent: a cell of the grid is at most 4 from the middle

abbrev five_up : Float
five_up = fin false 5 (pos 0)

abbrev one_down : Float
one_down = fin true 1 (pos 0)

abbrev four_up : Float
four_up = fin false 1 (pos 2)

abbrev four_down : Float
four_down = fin true 1 (pos 2)

number : (x : Float) → finite x ≡ true → T (not (is_nan x))
number x f = (le_number x x (bounds_point x f).low).0

-- x lies from lo to hi, where f keeps the order and f x neither reaches f hi nor falls to f lo
held : (f : Float → Float) (lo hi x : Float) → finite lo ≡ true → finite hi ≡ true → finite x ≡ true → ((a b : Float) → finite a ≡ true → finite b ≡ true → le a b ≡ true → le (f a) (f b) ≡ true)
    → (le (f hi) (f x) ≡ true → ⊥) → (le (f x) (f lo) ≡ true → ⊥) → Bounds lo hi x
held f lo hi x p q r mono no_up no_down =
    record {
      from = p;
      to = q;
      low = ⊎_elim (λ l. l) (λ l. absurd (no_down (mono x lo r p (lt_le x lo l)))) (le_or_lt_float lo x (number lo p) (number x r));
      high = ⊎_elim (λ l. l) (λ l. absurd (no_up (mono hi x q r (lt_le hi x l)))) (le_or_lt_float x hi (number x r) (number hi q));
    }

abbrev less_half : Float → Float
less_half a = a ⊖ half

half_finite : finite half ≡ true
unfolding of_bits
half_finite = refl

half_le : le half half ≡ true
half_le = (bounds_point half half_finite).low

less_half_lem : (a b : Float) → finite a ≡ true → finite b ≡ true → le a b ≡ true → le (a ⊖ half) (b ⊖ half) ≡ true
less_half_lem a b p q h = sub_le binary32 a b half half p q half_finite half_finite h half_le

shifted_in : (a : Float) → in_grid (a ⊖ half) ≡ true → Bounds one_down five_up a
unfolding of_bits sub add neg lt le
shifted_in nan h = absurd (false≢true h)
shifted_in (inf true) h = absurd (false≢true h)
shifted_in (inf false) h = absurd (false≢true h)
shifted_in (fin s m e) h =
    let a = fin s m e in
    let p = and_both (lt minus_one (a ⊖ half)) (lt (a ⊖ half) four) h in
    held less_half one_down five_up a refl refl refl less_half_lem
    (λ l. lt_not_le (a ⊖ half) four p.1 (le_trans_float four (five_up ⊖ half) (a ⊖ half) refl l))
    (λ l. lt_not_le minus_one (a ⊖ half) p.0 (le_trans_float (a ⊖ half) (one_down ⊖ half) minus_one l refl))

two_finite : finite two ≡ true
unfolding of_bits
two_finite = refl

two_le : le two two ≡ true
two_le = (bounds_point two two_finite).low

plus_two : (a b : Float) → finite a ≡ true → finite b ≡ true → le a b ≡ true → le (a ⊕ two) (b ⊕ two) ≡ true
plus_two a b p q h = add_le binary32 a b two two p q two_finite two_finite h two_le

over_two : (a : Float) → Bounds one_down five_up (a ⊕ two) → Bounds four_down four_up a
unfolding of_bits add lt le
over_two nan u = absurd (false≢true u.low)
over_two (inf true) u = absurd (false≢true u.low)
over_two (inf false) u = absurd (false≢true u.high)
over_two (fin s m e) u =
    let a = fin s m e in
    held (λ x. x ⊕ two) four_down four_up a refl refl refl plus_two
    (λ l. lt_not_le five_up (four_up ⊕ two) refl (le_trans_float (four_up ⊕ two) (a ⊕ two) five_up l u.high))
    (λ l. lt_not_le (four_down ⊕ two) one_down refl (le_trans_float one_down (a ⊕ two) (four_down ⊕ two) u.low l))

in_grid_lem : (a : Float) → in_grid (bin_of a) ≡ true → Bounds four_down four_up a
in_grid_lem a h = over_two a (shifted_in (a ⊕ two) h)

-- x * x, of an x of at most 4
square_abs : (x : Float) → x ⊗ x ≡ abs_of x ⊗ abs_of x
unfolding mul abs_of
square_abs nan = refl
square_abs (inf true) = refl
square_abs (inf false) = refl
square_abs (fin true m e) = refl
square_abs (fin false m e) = refl

four_opp : Turned true four_down four_up
four_opp = of_fin (turned refl)

size_in_lem : (x : Float) → Bounds four_down four_up x → Bounds nil four_up (abs_of x)
unfolding abs_of is_nan
size_in_lem nan u = absurd (false≢true (bounds_finite u))
size_in_lem (inf s) u = absurd (false≢true (bounds_finite u))
size_in_lem (fin true m e) u = record { from = refl; to = refl; low = abs_nonneg (fin true m e) tt; high = le_turned {b = true} (of_fin (turned refl)) four_opp ∙ u.low }
size_in_lem (fin false m e) u = record { from = refl; to = refl; low = abs_nonneg (fin false m e) tt; high = u.high }

square_in : (x : Float) → Bounds four_down four_up x → Bounds (nil ⊗ nil) (four_up ⊗ four_up) (x ⊗ x)
unfolding mul le
square_in x u = rw (square_abs x) (mul_bounds binary32 refl refl refl refl (size_in_lem x u) (size_in_lem x u))

-- a sum of two such, times -0.125
fall_in : (x y : Float) → Bounds four_down four_up x → Bounds four_down four_up y → in_down ((x ⊗ x ⊕ y ⊗ y) ⊗ exp_scale) ≡ true
unfolding of_bits mul add le
fall_in x y u v =
    let q = x ⊗ x ⊕ y ⊗ y in
    let b = add_bounds binary32 refl refl (square_in x u) (square_in y v) in
    let w = mul_bounds binary32 refl refl refl refl b (bounds_point (f32 0x3e00_0000) refl) in
    let z = mul_turned {a = false} {b = true} binary32 (same q) (neg_opp (f32 0x3e00_0000)) in
    let k = bounds_wider nil (fin false 1 (pos 5)) refl refl refl refl w in
    let l : le minus32 (q ⊗ exp_scale) ≡ true = le_turned {b = true} (of_fin (turned refl)) z ∙ k.high in
    let m : le (q ⊗ exp_scale) nil ≡ true = le_turned {b = true} z (of_fin {s = false} (no_sign refl)) ∙ k.low in
    rw (l, m)

-- ---- a cell's sample

pub fair : (img : List Float) (t : Patch) (r c : ℕ) → grid_at t r c ≡ true → all_good (four_at img t.size.width r c) ≡ true → Fair (sample_at img t r c)
unfolding sample_at grid_at
fair img t r c g k =
    let p = and_both (in_grid (bin_of (rots_of t r c).row)) (in_grid (bin_of (rots_of t r c).col)) g in
    record {
      row = p.0;
      col = p.1;
      fall = fall_in (rots_of t r c).col (rots_of t r c).row (in_grid_lem (rots_of t r c).col p.1) (in_grid_lem (rots_of t r c).row p.0);
      slopes = good_slope img t.size.width r c k;
    }

pub patch_rule : PatchRule
patch_rule = record { lies = lies; fair = fair }
