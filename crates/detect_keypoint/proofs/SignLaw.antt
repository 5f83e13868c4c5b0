-- With every sample negated, the tests of contrast and edge answer the same, and the keypoint is the same but for the sign of an offset xi that is zero. Assumes nothing.
use Rattle.std.proofs.Common.{◌≡◌, ℕ, ◌^◌, ◌≤◌, true, false, List, get_or, refl, ap, le_trans, arith}
use lib.Ieee.{Float, nan, binary32, of_bits}
use Rattle.ieee.specs.F32.{◌⊕◌, ◌⊗◌, narrowed, float}
use Rattle.ieee.specs.Numbers.{one, half}
use Rattle.ieee_laws.specs.Sign.{Opp, Same}
use Rattle.ieee_laws.proofs.Turned.{add_turned, mul_turned, le_turned, nonzero}
use Rattle.ieee_laws.proofs.TurnedOps.{same, zero_any, fma_turned, abs_turned, add_nonzero, add_beside}
use Rattle.ieee_laws.proofs.Bounds.{above_nonzero, of_int_above}
use Rattle.params.specs.Limits.{border}
use Rattle.picture.specs.declared.Shape.{Shape}
use Rattle.detect_fit.specs.Fit.{img_scale, patch_of}
use Rattle.detect_fit.specs.declared.Patch.{Patch}
use Rattle.detect_fit.specs.declared.Offset.{Offset}
use Rattle.detect_fit.proofs.SignLaw.{SameOffset, mul_sub_same, at_opp, gradient_opp, bend_opp}
use Rattle.detect_keypoint.specs.Keypoint.{contrast_of, dim, edgy, code_of, keypoint_with, keypoint_of}
use Rattle.detect_keypoint.specs.declared.Cell.{Cell}
use Rattle.detect_keypoint.specs.declared.Search.{Search}
use Rattle.detect_keypoint.specs.Sign.{SameKeypoint}

-- the cell is in the layers from 1 on and at least the border from the edges before it: so beside the place a zero offset's sign leaves no trace
abbrev pub Deep : Cell → Type 0
Deep k = (1 ≤ k.p) × (border ≤ k.r) × (border ≤ k.c)

-- ---- the fields: beside a whole number that is no zero, and beside 0.5, an offset that is the same gives the same sum

float_nonzero : (n : ℕ) → 1 ≤ n → nonzero (float n) ≡ true
float_nonzero n h = above_nonzero (float n) (of_int_above binary32 n h)

half_nonzero : nonzero half ≡ true
unfolding nonzero of_bits
half_nonzero = refl

place_same : (n : ℕ) {x y : Float} → 1 ≤ n → Same x y → float n ⊕ y ≡ float n ⊕ x
place_same n h s = add_nonzero binary32 (float n) (float_nonzero n h) s

code_same : {x y : Float} → Same x y → code_of y ≡ code_of x
unfolding code_of
code_same s = rw (add_beside binary32 half half_nonzero s)

-- ---- a stack and its negative

module _ (d e : List Float) (t : Shape) (s : Search) (o : (i : ℕ) → Opp (get_or d i nan) (get_or e i nan)) where
  module _ (k : Cell) where
    abbrev here : Patch
    here = patch_of d t k.p k.r k.c

    abbrev there : Patch
    there = patch_of e t k.p k.r k.c

    contrast_opp : {u v : Offset} → SameOffset u v → Opp (contrast_of here u) (contrast_of there v)
    unfolding contrast_of patch_of
    contrast_opp q =
        let g = gradient_opp d e t o k.p k.r k.c in
        fma_turned binary32 (at_opp d e t o k.p k.r k.c) (same img_scale)
        (mul_turned binary32 (fma_turned binary32 g.ds q.xi (fma_turned binary32 g.dy q.xr (mul_turned binary32 g.dx q.xc))) (same half))

    pub dim_same : {u v : Offset} → SameOffset u v → dim s.settings (contrast_of there v) ≡ dim s.settings (contrast_of here u)
    unfolding dim
    dim_same q = rw (abs_turned (contrast_opp q))

    pub edgy_same : edgy s.settings there ≡ edgy s.settings here
    unfolding edgy
    edgy_same =
        let b = bend_opp d e t o k.p k.r k.c in
        let det = mul_sub_same b.xx b.yy b.xy b.xy in
        let tr = add_turned binary32 b.xx b.yy in
        let et = narrowed s.settings.edge in
        rw (le_turned det (zero_any false), le_turned (mul_turned binary32 (same ((et ⊕ one) ⊗ (et ⊕ one))) det) (mul_turned binary32 (mul_turned binary32 tr tr) (same et)))

    pub keypoint_same : (moves : ℕ) {u v : Offset} → Deep k → SameOffset u v → SameKeypoint (keypoint_of s moves k here u) (keypoint_of s moves k there v)
    unfolding keypoint_of keypoint_with
    keypoint_same moves {u} {v} deep q =
        record {
          x = ap (λ (z : Float). z ⊗ float (2 ^ s.octave)) (place_same k.c (le_trans (omega arith) deep.2) q.xc);
          y = ap (λ (z : Float). z ⊗ float (2 ^ s.octave)) (place_same k.r (le_trans (omega arith) deep.1) q.xr);
          size = rw (place_same k.p deep.0 q.xi);
          response = abs_turned (contrast_opp q);
          octave = rw (code_same q.xi);
          layer = refl;
          xi = q.xi;
          cc = refl;
          rr = refl;
          moves = refl;
        }
