-- Between the edges' bits lies what lies inside the region: the bits without the sign are in the order of the numbers. Assumes nothing.
use Prim.Native.Nat.{ℕ, ◌≤◌, ◌<◌}
use mathlib.Core.Path.{◌≡◌, refl, sym, ap, ◌∙◌}
use mathlib.Core.Bool.{true}
use mathlib.Core.List.{List}
use mathlib.Core.Logic.{⊎_elim}
use native.Mathlib.Omega.{arith}
use borrow.Author.Tests.{ltb-true, lt-ltb, leb-true, le-leb}
use lib.Dec.{leb, ltb}
use lib.IntN.{pos}
use lib.Ieee.{Float, binary32, of_int}
use lib.Ieee.Fits.{of_int-fits}
use lib.Ieee.Scale.{finite}
use lib.Ieee.Bits.{of_bits-to_bits, to_bits-lt}
use Rattle.lists.proofs.Bools.{both_ways}
use Rattle.lists.proofs.Naturals.{le_or_lt}
use Rattle.packing.proofs.Fields.{finite_no_nan}
use Rattle.ieee.specs.F32.{f32, float, bits_of, ◌<ᶠ◌, ◌≤ᶠ◌}
use Rattle.ieee_laws.proofs.Order.{le_or_lt_float, lt_not_le}
use Rattle.ieee_laws.proofs.Monotone.{of_int_le}
use Rattle.ieee_laws.proofs.Bounds.{bounds_finite, of_int_bounds}
use Rattle.params.specs.Limits.{max_side}
use Rattle.thin_order.specs.Place.{bare, Upward}
use Rattle.thin_order.proofs.Bare.{bare_rule}
use Rattle.thin_rule.specs.Rule.{points_in, word_at, between, inside}
use Rattle.thin_rule.specs.Strength.{edge_at, edges_of, amid, edged, Ordered, Sound}
use Rattle.thin_rule.specs.declared.Region.{Region}

-- ---- whole numbers

ends : (finite (float 0) ≡ true) × (finite (float max_side) ≡ true)
unfolding of_int
ends = (refl, refl)

edge_float : (n : ℕ) → f32 (bits_of (float n)) ≡ float n
edge_float n = of_bits-to_bits binary32 (float n) (of_int-fits binary32 (pos n))

pub edge_finite : (n : ℕ) → n ≤ max_side → finite (float n) ≡ true
edge_finite n h = bounds_finite (of_int_bounds binary32 0 max_side n ends.0 ends.1 (omega arith) h)

edge_upward : (n : ℕ) → n ≤ max_side → Upward (bits_of (float n))
edge_upward n h =
    record {
      word = to_bits-lt binary32 (float n) (of_int-fits binary32 (pos n));
      number = ap finite (edge_float n) ∙ edge_finite n h;
      above = ap (λ (x : Float). float 0 ≤ᶠ x) (edge_float n) ∙ of_int_le binary32 0 n (omega arith);
    }

-- ---- a number beside a whole one

module _ (w n : ℕ) (u : Upward w) (h : n ≤ max_side) where
  pub edge_less : (f32 w <ᶠ float n) ≡ ltb (bare w) (edge_at n)
  edge_less = ap (λ (x : Float). f32 w <ᶠ x) (sym (edge_float n)) ∙ bare_rule w (bits_of (float n)) u (edge_upward n h)

  edge_from : (float n ≤ᶠ f32 w) ≡ leb (edge_at n) (bare w)
  edge_from = both_ways (float n ≤ᶠ f32 w) (leb (edge_at n) (bare w)) there back
    where
      there : (float n ≤ᶠ f32 w) ≡ true → leb (edge_at n) (bare w) ≡ true
      there e =
          le-leb (edge_at n) (bare w)
          (⊎_elim (λ l. l) (λ l. absurd (lt_not_le (f32 w) (float n) (edge_less ∙ lt-ltb (bare w) (edge_at n) l) e)) (le_or_lt (edge_at n) (bare w)))

      back : leb (edge_at n) (bare w) ≡ true → (float n ≤ᶠ f32 w) ≡ true
      back e =
          ⊎_elim (λ l. l)
          (λ l. absurd (let a = ltb-true (bare w) (edge_at n) (sym edge_less ∙ l) in let b = leb-true (edge_at n) (bare w) e in omega arith))
          (le_or_lt_float (float n) (f32 w) (finite_no_nan (float n) (edge_finite n h)) (finite_no_nan (f32 w) u.number))

between_amid : (w a b : ℕ) → Upward w → a ≤ max_side → b ≤ max_side → between a b (f32 w) ≡ amid (edge_at a) (edge_at b) w
between_amid w a b u h l = rw (edge_from w a u h, edge_less w b u l)

pub inside_edged : (ws : List ℕ) (r : Region) (i : ℕ) → Sound ws → Ordered r → i < points_in ws → inside ws r i ≡ edged ws (edges_of r) i
unfolding inside edged
inside_edged ws r i s o h =
    rw (between_amid (word_at ws i 0) r.left r.right (s.x i h) (let z = o.across in let v = o.right in omega arith) o.right, between_amid (word_at ws i 1) r.top r.bottom (s.y i h) (let z = o.down in let v = o.bottom in omega arith) o.bottom)
