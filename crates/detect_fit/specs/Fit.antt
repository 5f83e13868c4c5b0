-- The quadratic fit about a cell, rules D5 to D7, operation by operation as `refine` of the source. Definitions only.
use Rattle.std.specs.Prelude.{ℕ, ◌+◌, ◌-◌, List, Float}
use Rattle.std.specs.Float.Ieee.{neg}
use Rattle.ieee.specs.F32.{◌⊕◌, ◌⊖◌, ◌⊗◌, ◌⊘◌, f32, fused}
use Rattle.ieee.specs.Numbers.{one, two}
use Rattle.picture.specs.Stack.{sample}
use Rattle.picture.specs.declared.Shape.{Shape}
use Rattle.detect_fit.specs.declared.Patch.{Patch}
use Rattle.detect_fit.specs.declared.Gradient.{Gradient}
use Rattle.detect_fit.specs.declared.Bend.{Bend}
use Rattle.detect_fit.specs.declared.Offset.{Offset}

-- IMG_SCALE = 1 / 255; DERIV is half, SECOND all and CROSS a quarter of it
abbrev pub img_scale : Float
img_scale = f32 0x3b80_8081

abbrev pub deriv : Float
deriv = f32 0x3b00_8081

abbrev pub second : Float
second = img_scale

abbrev pub cross : Float
cross = f32 0x3a80_8081

-- the samples about (p, r, c): i in its plane, p in the plane before, n in the plane after; left, right, up, down
unfoldable pub patch_of : List Float → Shape → ℕ → ℕ → ℕ → Patch
patch_of d t p r c =
    record {
      im = sample d t p r c;
      il = sample d t p r (c - 1);
      ir = sample d t p r (c + 1);
      iu = sample d t p (r - 1) c;
      id = sample d t p (r + 1) c;
      iul = sample d t p (r - 1) (c - 1);
      iur = sample d t p (r - 1) (c + 1);
      idl = sample d t p (r + 1) (c - 1);
      idr = sample d t p (r + 1) (c + 1);
      pm = sample d t (p - 1) r c;
      pl = sample d t (p - 1) r (c - 1);
      pr = sample d t (p - 1) r (c + 1);
      pu = sample d t (p - 1) (r - 1) c;
      pd = sample d t (p - 1) (r + 1) c;
      nm = sample d t (p + 1) r c;
      nl = sample d t (p + 1) r (c - 1);
      nr = sample d t (p + 1) r (c + 1);
      nu = sample d t (p + 1) (r - 1) c;
      nd = sample d t (p + 1) (r + 1) c;
    }

-- (a - b) / 510, (a + b - 2 mid) / 255, (a - b - c + d) / 1020
abbrev pub diff : Float → Float → Float
diff a b = (a ⊖ b) ⊗ deriv

abbrev pub curve : Float → Float → Float → Float
curve a b mid = (a ⊕ b ⊖ mid ⊗ two) ⊗ second

abbrev pub twist : Float → Float → Float → Float → Float
twist a b c d = (a ⊖ b ⊖ c ⊕ d) ⊗ cross

unfoldable pub gradient_of : Patch → Gradient
gradient_of patch = record { dx = diff patch.ir patch.il; dy = diff patch.id patch.iu; ds = diff patch.nm patch.pm }

unfoldable pub bend_of : Patch → Bend
bend_of patch =
    record {
      xx = curve patch.ir patch.il patch.im;
      yy = curve patch.id patch.iu patch.im;
      ss = curve patch.nm patch.pm patch.im;
      xy = twist patch.idr patch.idl patch.iur patch.iul;
      xs = twist patch.nr patch.nl patch.pr patch.pl;
      ys = twist patch.nd patch.nu patch.pd patch.pu;
    }

-- a * b - c * d: the second product is rounded, the first fused
unfoldable pub mul_sub : Float → Float → Float → Float → Float
mul_sub a b c d = fused a b (neg (c ⊗ d))

-- p0 * p1 - q0 * q1 + r0 * r1, two fused operations from left to right
unfoldable pub outer : Float → Float → Float → Float → Float → Float → Float
outer p0 p1 q0 q1 r0 r1 = fused r0 r1 (fused p0 p1 (neg (q0 ⊗ q1)))

unfoldable pub det_of : Bend → Float
det_of h =
    outer h.xx (mul_sub h.yy h.ss h.ys h.ys)
    h.xy (mul_sub h.xy h.ss h.xs h.ys)
    h.xs (mul_sub h.xy h.ys h.xs h.yy)

-- the offset, where the determinant is det
unfoldable pub offset_of : Gradient → Bend → Float → Offset
offset_of g h det =
    let d = one ⊘ det in
    let a = mul_sub g.dy h.ss h.ys g.ds in
    let b = mul_sub g.dy h.ys h.yy g.ds in
    let e = mul_sub h.xy g.ds g.dy h.xs in
    record {
      xi = neg (d ⊗ outer h.xx (neg b) h.xy e g.dx (mul_sub h.xy h.ys h.yy h.xs));
      xr = neg (d ⊗ outer h.xx a g.dx (mul_sub h.xy h.ss h.ys h.xs) h.xs e);
      xc = neg (d ⊗ outer g.dx (mul_sub h.yy h.ss h.ys h.ys) h.xy a h.xs b);
    }
