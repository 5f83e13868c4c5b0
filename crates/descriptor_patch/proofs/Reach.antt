-- The reach of a patch, and the picture's diagonal. Assumes nothing.
use Rattle.std.proofs.Common.{◌≡◌, ℕ, zero, suc, ◌*◌, ◌/◌, ◌^◌, ◌≤◌, min, true, false, not, T, pos, sym, refl, ◌∙◌, ⊎_elim, arith}
use mathlib.Core.Bool.{false≢true}
use lib.Ieee.{Float, nan, inf, fin, binary32, up, down, of_bits, of_int, add, mul, lt, le, to_unsigned, is_nan}
use Rattle.lists.proofs.Bools.{is_T}
use Rattle.ieee.specs.F32.{◌⊗◌, f32, rounded, root_of, float}
use Rattle.ieee.specs.Root.{sqrt, halves}
use Rattle.ieee.specs.Whole.{round_even}
use Rattle.ieee.specs.Numbers.{half, three, five, root2}
use Rattle.ieee_laws.proofs.Order.{le_or_lt_float, le_number, lt_le, lt_le_trans, round_marked}
use Rattle.ieee_laws.proofs.Monotone.{nil, above_zero, to_unsigned_le}
use Rattle.ieee_laws.proofs.Bounds.{Bounds, bounds_point, bounds_above, add_bounds, mul_bounds, round_even_bounds, of_int_bounds, marked_nonneg}
use Rattle.ieee_laws.proofs.Cuts.{Cuts, cuts}
use Rattle.params.specs.Limits.{max_side, scale_low, scale_high}
use Rattle.params.specs.Table.{within}
use Rattle.params.proofs.Within.{scale_bounds}
use Rattle.picture.specs.declared.Size.{Size}
use Rattle.descriptor_patch.specs.Patch.{hist_width, reach_of, diagonal_of, radius_of}
use Rattle.descriptor_patch.specs.Place.{max_radius, Sides}

-- ---- the reach

abbrev reach : Float → Float
reach s = rounded (three ⊗ s ⊗ root2 ⊗ five ⊗ half)

reach_bounds : (s : Float) → within scale_low scale_high s ≡ true → Bounds (reach scale_low) (reach scale_high) (reach s)
unfolding of_bits mul le round_even
reach_bounds s h =
    let a = mul_bounds binary32 refl refl refl refl (bounds_point three refl) (scale_bounds s h) in
    let b = mul_bounds binary32 refl refl refl refl a (bounds_point root2 refl) in
    let c = mul_bounds binary32 refl refl refl refl b (bounds_point five refl) in
    let d = mul_bounds binary32 refl refl refl refl c (bounds_point half refl) in
    round_even_bounds binary32 refl refl d

farthest : to_unsigned 64 (reach scale_high) ≡ max_radius
unfolding of_bits mul round_even to_unsigned
farthest = refl

pub reach_cuts : (s : Float) → within scale_low scale_high s ≡ true → Cuts max_radius (reach s)
unfolding of_bits mul lt round_even
reach_cuts s h = cuts max_radius refl refl (omega (arith, farthest)) (reach_bounds s h)

pub reach_small : (s : Float) → within scale_low scale_high s ≡ true → reach_of s ≤ max_radius
unfolding reach_of hist_width
reach_small s h = (reach_cuts s h).size

-- ---- the diagonal

root_nonneg : (x : Float) → lt nil x ≡ true → le nil (root_of x) ≡ true
unfolding sqrt lt le
root_nonneg nan h = absurd (false≢true h)
root_nonneg (inf true) h = absurd (false≢true h)
root_nonneg (inf false) h = refl
root_nonneg (fin s zero e) h = absurd (omega (arith, (above_zero s zero e h).size))
root_nonneg (fin true (suc m) e) h = absurd (false≢true (sym (above_zero true (suc m) e h).sign))
root_nonneg (fin false (suc m) e) h = marked_nonneg (round_marked binary32 false (halves (suc m * up e * 4 ^ 149 / down e)) (2 * 2 ^ 149))

float_bounds : (n : ℕ) → 1 ≤ n → n ≤ max_side → Bounds (float 1) (float max_side) (float n)
unfolding of_int
float_bounds n a b = of_int_bounds binary32 1 max_side n refl refl a b

square_bounds : (n : ℕ) → 1 ≤ n → n ≤ max_side → Bounds (float 1 ⊗ float 1) (float max_side ⊗ float max_side) (float n ⊗ float n)
unfolding of_int mul le
square_bounds n a b = mul_bounds binary32 refl refl refl refl (float_bounds n a b) (float_bounds n a b)

diagonal_nonneg : (s : Size) → Sides s → le nil (diagonal_of s) ≡ true
unfolding diagonal_of of_int mul add lt
diagonal_nonneg s p =
    root_nonneg _
    (bounds_above (add_bounds binary32 refl refl (square_bounds s.width p.some_cols p.wide) (square_bounds s.height p.some_rows p.high)) refl)

abbrev far : Float
far = f32 0x4480_0000

far_number : T (not (is_nan far))
unfolding of_bits is_nan
far_number = tt

-- cut, so many cells
abbrev far_cells : ℕ
far_cells = 1024

far_cut : to_unsigned 64 far ≡ far_cells
unfolding of_bits to_unsigned
far_cut = refl

pub diagonal_cuts : (s : Size) → Sides s → lt (diagonal_of s) far ≡ true → Cuts far_cells (diagonal_of s)
unfolding of_bits lt le
diagonal_cuts s p k =
    record {
      above = is_T _ (lt_le_trans (fin true 1 (pos 0)) nil (diagonal_of s) refl (diagonal_nonneg s p));
      below = is_T _ (lt_le_trans (diagonal_of s) far (fin false 1 (pos 64)) k refl);
      size = omega (arith, to_unsigned_le 64 (diagonal_of s) far (lt_le (diagonal_of s) far k), far_cut);
    }

diagonal_far : (s : Size) (r : ℕ) → Sides s → r ≤ max_radius → lt (diagonal_of s) far ≡ false → r ≡ min r (to_unsigned 64 (diagonal_of s))
diagonal_far s r p k e =
    ⊎_elim
    (λ l. omega (arith, to_unsigned_le 64 far (diagonal_of s) l, far_cut))
    (λ l. absurd (false≢true (sym e ∙ l)))
    (le_or_lt_float far (diagonal_of s) far_number (le_number nil (diagonal_of s) (diagonal_nonneg s p)).1)

-- ---- the radius, of what the calls gave

-- k is the diagonal and r the reach: the smaller one is the radius
pub radius_near : (s : Size) (scale d : Float) (k r : ℕ) → k ≡ to_unsigned 64 d → d ≡ diagonal_of s → (r ≡ reach_of scale) × (r ≤ max_radius) → (min k r ≡ radius_of s scale) × (min k r ≤ max_radius)
unfolding radius_of
radius_near s scale d k r ek ed er = (rw (← er.0, ← ed, ← ek) (omega arith), omega (arith, er.1))

pub radius_far : (s : Size) (scale d : Float) (r : ℕ) → Sides s → lt d far ≡ false → d ≡ diagonal_of s → (r ≡ reach_of scale) × (r ≤ max_radius) → (r ≡ radius_of s scale) × (r ≤ max_radius)
unfolding radius_of
radius_far s scale d r p e ed er = (rw (← er.0) (diagonal_far s r p er.1 (rw ed at e)), er.1)
