-- After the records of a keypoint, by cases: nothing is made after a refusal, its layer has no plane, or it is turned on its layer's picture. Assumes nothing.
use Prim.Native.Nat.{ℕ, ◌+◌, ◌-◌, ◌*◌, ◌<◌, ◌≤◌}
use mathlib.Core.Path.{◌≡◌, ◌∙◌}
use mathlib.Core.Bool.{true, false, not}
use mathlib.Core.List.{List}
use native.Mathlib.Nat.{suc-mul, suc-le-suc_iff, mul-le-mul_right}
use native.Mathlib.Numerals.{add-one}
use native.Mathlib.Omega.{arith}
use borrow.Author.Tests.{le-leb, lt-leb, not-true, not-false}
use lib.ListN.{take, drop}
use lib.Ieee.{Float}
use Rattle.detect_keypoint.specs.declared.RawKeypoint.{RawKeypoint}
use Rattle.words.specs.Keypoint.{keypoint_in}
use Rattle.audit_compare.specs.Standing.{refused, Standing}
use Rattle.audit_keypoint.specs.Pictures.{plane_size, picture_in}
use Rattle.audit_keypoint.specs.Steps.{Given, turn_step, keypoint_step}

-- the plane of a layer lies among the planes
pub plane_inside : (layer planes size len : ℕ) → layer ≤ planes → len ≡ (planes + 1) * size → layer * size + size ≤ len
plane_inside layer planes size len h e = rw (e, add-one, ← suc-mul) (mul-le-mul_right size (suc-le-suc_iff.1 h))

module _ (gauss : List Float) (g : Given) (st : Standing) (kw : List ℕ) where
  pub keypoint_over : not st.good ≡ true → st ≡ keypoint_step gauss g st kw
  unfolding keypoint_step
  keypoint_over e = rw (not-true st.good e)

  module _ (good : not st.good ≡ false) (k : RawKeypoint) (read : k ≡ keypoint_in kw) where
    pub keypoint_above : g.shape.planes < k.layer → refused ≡ keypoint_step gauss g st kw
    unfolding keypoint_step
    keypoint_above h = rw (not-false st.good good, ← read, lt-leb k.layer g.shape.planes h)

    pub keypoint_turned : k.layer ≤ g.shape.planes → (r : Standing) →
        r ≡ turn_step g (take (k.layer * plane_size g.shape + plane_size g.shape - k.layer * plane_size g.shape) (drop (k.layer * plane_size g.shape) gauss)) st kw →
        r ≡ keypoint_step gauss g st kw
    unfolding keypoint_step picture_in
    keypoint_turned h r q =
        let m : k.layer * plane_size g.shape + plane_size g.shape - k.layer * plane_size g.shape ≡ plane_size g.shape = omega arith in
        q ∙ rw (m, not-false st.good good, ← read, le-leb k.layer g.shape.planes h)
