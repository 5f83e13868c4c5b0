-- With every sample negated, the fit's derivatives and its determinant change their sign, and the offset stays the same but for the sign of a zero. Assumes nothing.
use Prim.Native.Nat.{ℕ}
use mathlib.Core.Path.{◌≡◌}
use mathlib.Core.Bool.{false}
use mathlib.Core.List.{List}
use lib.ListN.{get_or}
use lib.Ieee.{Float, nan, binary32, eq}
use Rattle.ieee.specs.Numbers.{one, two, nought}
use Rattle.ieee_laws.specs.Sign.{Opp, Same}
use Rattle.ieee_laws.proofs.Turned.{neg_turned, add_turned, sub_turned, mul_turned, div_turned}
use Rattle.ieee_laws.proofs.TurnedOps.{same, fma_turned, nonzero_of}
use Rattle.picture.specs.Picture.{pixel}
use Rattle.picture.specs.Stack.{sample}
use Rattle.picture.specs.declared.Shape.{Shape}
use Rattle.detect_fit.specs.Fit.{deriv, second, cross, patch_of, diff, curve, twist, gradient_of, bend_of, mul_sub, outer, det_of, offset_of}
use Rattle.detect_fit.specs.declared.Gradient.{Gradient}
use Rattle.detect_fit.specs.declared.Bend.{Bend}
use Rattle.detect_fit.specs.declared.Offset.{Offset}

-- ---- arithmetic, by the turn of each part

-- both products are turned alike
pub mul_sub_same : {a b c d a' b' c' d' : Float} → Opp a a' → Opp b b' → Opp c c' → Opp d d' → Same (mul_sub a b c d) (mul_sub a' b' c' d')
unfolding mul_sub
mul_sub_same p q r s = fma_turned binary32 p q (neg_turned (mul_turned binary32 r s))

-- an entry times a cofactor
outer_opp : {a b c d e f a' b' c' d' e' f' : Float} → Opp a a' → Same b b' → Opp c c' → Same d d' → Opp e e' → Same f f' → Opp (outer a b c d e f) (outer a' b' c' d' e' f')
unfolding outer
outer_opp p q r s t u = fma_turned binary32 t u (fma_turned binary32 p q (neg_turned (mul_turned binary32 r s)))

pub record OppGradient (g k : Gradient) : Type 0 where
  pub dx : Opp g.dx k.dx
  pub dy : Opp g.dy k.dy
  pub ds : Opp g.ds k.ds

pub record OppBend (h k : Bend) : Type 0 where
  pub xx : Opp h.xx k.xx
  pub yy : Opp h.yy k.yy
  pub ss : Opp h.ss k.ss
  pub xy : Opp h.xy k.xy
  pub xs : Opp h.xs k.xs
  pub ys : Opp h.ys k.ys

pub record SameOffset (o q : Offset) : Type 0 where
  pub xi : Same o.xi q.xi
  pub xr : Same o.xr q.xr
  pub xc : Same o.xc q.xc

pub det_opp : {h k : Bend} → OppBend h k → Opp (det_of h) (det_of k)
unfolding det_of
det_opp b =
    outer_opp b.xx (mul_sub_same b.yy b.ss b.ys b.ys) b.xy (mul_sub_same b.xy b.ss b.xs b.ys)
    b.xs (mul_sub_same b.xy b.ys b.xs b.yy)

-- the reciprocal of the determinant is turned too, and may be infinite; at a zero determinant its sign would show
pub offset_same : {g k : Gradient} {h l : Bend} {x y : Float} → OppGradient g k → OppBend h l → Opp x y → eq x nought ≡ false → SameOffset (offset_of g h x) (offset_of k l y)
unfolding offset_of
offset_same {x = x} g h o n =
    let d = div_turned binary32 (same one) o (nonzero_of x n) in
    let a = mul_sub_same g.dy h.ss h.ys g.ds in
    let b = mul_sub_same g.dy h.ys h.yy g.ds in
    let e = mul_sub_same h.xy g.ds g.dy h.xs in
    record {
      xi = neg_turned (mul_turned binary32 d (outer_opp h.xx (neg_turned b) h.xy e g.dx (mul_sub_same h.xy h.ys h.yy h.xs)));
      xr = neg_turned (mul_turned binary32 d (outer_opp h.xx a g.dx (mul_sub_same h.xy h.ss h.ys h.xs) h.xs e));
      xc = neg_turned (mul_turned binary32 d (outer_opp g.dx (mul_sub_same h.yy h.ss h.ys h.ys) h.xy a h.xs b));
    }

diff_opp : {a b a' b' : Float} → Opp a a' → Opp b b' → Opp (diff a b) (diff a' b')
diff_opp p q = mul_turned binary32 (sub_turned binary32 p q) (same deriv)

curve_opp : {a b m a' b' m' : Float} → Opp a a' → Opp b b' → Opp m m' → Opp (curve a b m) (curve a' b' m')
curve_opp p q r = mul_turned binary32 (sub_turned binary32 (add_turned binary32 p q) (mul_turned binary32 r (same two))) (same second)

twist_opp : {a b c d a' b' c' d' : Float} → Opp a a' → Opp b b' → Opp c c' → Opp d d' → Opp (twist a b c d) (twist a' b' c' d')
twist_opp p q r s = mul_turned binary32 (add_turned binary32 (sub_turned binary32 (sub_turned binary32 p q) r) s) (same cross)

-- ---- a stack and its negative

module _ (d e : List Float) (t : Shape) (o : (i : ℕ) → Opp (get_or d i nan) (get_or e i nan)) where
  pub at_opp : (p r c : ℕ) → Opp (sample d t p r c) (sample e t p r c)
  unfolding sample pixel
  at_opp p r c = o _

  module _ (p r c : ℕ) where
    pub gradient_opp : OppGradient (gradient_of (patch_of d t p r c)) (gradient_of (patch_of e t p r c))
    unfolding gradient_of patch_of
    gradient_opp =
        record { dx = diff_opp (at_opp _ _ _) (at_opp _ _ _); dy = diff_opp (at_opp _ _ _) (at_opp _ _ _); ds = diff_opp (at_opp _ _ _) (at_opp _ _ _) }

    pub bend_opp : OppBend (bend_of (patch_of d t p r c)) (bend_of (patch_of e t p r c))
    unfolding bend_of patch_of
    bend_opp =
        record {
          xx = curve_opp (at_opp _ _ _) (at_opp _ _ _) (at_opp _ _ _);
          yy = curve_opp (at_opp _ _ _) (at_opp _ _ _) (at_opp _ _ _);
          ss = curve_opp (at_opp _ _ _) (at_opp _ _ _) (at_opp _ _ _);
          xy = twist_opp (at_opp _ _ _) (at_opp _ _ _) (at_opp _ _ _) (at_opp _ _ _);
          xs = twist_opp (at_opp _ _ _) (at_opp _ _ _) (at_opp _ _ _) (at_opp _ _ _);
          ys = twist_opp (at_opp _ _ _) (at_opp _ _ _) (at_opp _ _ _) (at_opp _ _ _);
        }
