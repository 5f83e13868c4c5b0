-- The contrast is finite where the samples are good. Assumes nothing.
use Rattle.std.proofs.Common.{◌≡◌, ◌+◌, ◌^◌, true, T, pos, refl, lit≤}
use lib.Ieee.{Float, nan, inf, fin, binary32, of_bits, neg, fits, le}
use lib.Ieee.Scale.{finite}
use Rattle.lists.proofs.Bools.{and_left, and_right}
use Rattle.ieee.specs.F32.{◌⊗◌, ◌⊖◌, ◌<ᶠ◌, fused, abs_of}
use Rattle.ieee.specs.Numbers.{half}
use Rattle.ieee.proofs.Held.{fma_fits}
use Rattle.params.specs.Table.{good_sample}
use Rattle.detect_fit.specs.Fit.{img_scale, deriv, diff, gradient_of}
use Rattle.detect_fit.specs.declared.Patch.{Patch}
use Rattle.detect_fit.specs.declared.Offset.{Offset}
use Rattle.detect_keypoint.specs.Offsets.{small}
use Rattle.detect_keypoint.specs.Keypoint.{contrast_of}
use Rattle.detect_keypoint.proofs.Offsets.{small_xi, small_xr, small_xc}
use Rattle.detect_keypoint.proofs.Sized.{Within, within_finite, limits_within, half_within, sub_within, mul_within, fma_within}

good_within : (x : Float) → good_sample x ≡ true → Within x (2 ^ 20)
unfolding of_bits neg
good_within x e = limits_within x 20 (and_left (le (fin true 1 (pos 20)) x) _ e) (and_right (le (fin true 1 (pos 20)) x) _ e)

small_within : (x : Float) → (abs_of x <ᶠ half) ≡ true → Within x 1
unfolding of_bits
small_within x e = half_within x e

-- the seven samples that the contrast reads
pub record Read (t : Patch) : Type 0 where
  pub im : good_sample t.im ≡ true
  pub il : good_sample t.il ≡ true
  pub ir : good_sample t.ir ≡ true
  pub iu : good_sample t.iu ≡ true
  pub id : good_sample t.id ≡ true
  pub pm : good_sample t.pm ≡ true
  pub nm : good_sample t.nm ≡ true

deriv_within : Within deriv 1
unfolding of_bits
deriv_within = lit≤ tt

scale_within : Within img_scale 1
unfolding of_bits
scale_within = lit≤ tt

half_one : Within half 1
unfolding of_bits
half_one = lit≤ tt

diff_within : (a b : Float) → good_sample a ≡ true → good_sample b ≡ true → Within (diff a b) (2 ^ 21)
diff_within a b p q = mul_within (a ⊖ b) deriv (2 ^ 21) 1 (lit≤ tt) (sub_within a b (2 ^ 20) (2 ^ 20) (lit≤ tt) (good_within a p) (good_within b q)) deriv_within

pub contrast_finite : (t : Patch) (o : Offset) → Read t → small o ≡ true → finite (contrast_of t o) ≡ true
unfolding contrast_of gradient_of
contrast_finite t o g s =
    let xi = small_within o.xi (small_xi o s) in
    let xr = small_within o.xr (small_xr o s) in
    let xc = small_within o.xc (small_xc o s) in
    let dx = diff_within t.ir t.il g.ir g.il in
    let dy = diff_within t.id t.iu g.id g.iu in
    let ds = diff_within t.nm t.pm g.nm g.pm in
    let x = diff t.ir t.il ⊗ o.xc in
    let y = fused (diff t.id t.iu) o.xr x in
    let z = fused (diff t.nm t.pm) o.xi y in
    let a = mul_within (diff t.ir t.il) o.xc (2 ^ 21) 1 (lit≤ tt) dx xc in
    let b = fma_within (diff t.id t.iu) o.xr x (2 ^ 21) 1 (2 ^ 21) (lit≤ tt) dy xr a in
    let c = fma_within (diff t.nm t.pm) o.xi y (2 ^ 21) 1 (2 ^ 22) (lit≤ tt) ds xi b in
    let h = mul_within z half (2 ^ 21 + 2 ^ 22) 1 (lit≤ tt) c half_one in
    within_finite (fused t.im img_scale (z ⊗ half)) (2 ^ 20 + (2 ^ 21 + 2 ^ 22))
    (fma_within t.im img_scale (z ⊗ half) (2 ^ 20) 1 (2 ^ 21 + 2 ^ 22) (lit≤ tt) (good_within t.im g.im) scale_within h)

pub abs_finite : (x : Float) → finite x ≡ true → finite (abs_of x) ≡ true
unfolding abs_of
abs_finite nan h = h
abs_finite (inf s) h = h
abs_finite (fin s m e) h = refl

pub contrast_fits : (t : Patch) (o : Offset) → T (fits binary32 (contrast_of t o))
unfolding contrast_of
contrast_fits t o = fma_fits binary32 t.im img_scale _

pub abs_twice : (x : Float) → abs_of (abs_of x) ≡ abs_of x
unfolding abs_of
abs_twice nan = refl
abs_twice (inf s) = refl
abs_twice (fin s m e) = refl

pub small_finite : (x : Float) → (abs_of x <ᶠ half) ≡ true → finite x ≡ true
small_finite x e = within_finite x 1 (small_within x e)
