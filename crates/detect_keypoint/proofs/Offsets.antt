-- What three tests at once say of each part of an offset. Assumes nothing.
use Rattle.std.proofs.Common.{◌≡◌, true}
use Rattle.lists.proofs.Bools.{and_left, and_right}
use Rattle.ieee.specs.F32.{◌<ᶠ◌, abs_of}
use Rattle.ieee.specs.Numbers.{half}
use Rattle.detect_fit.specs.declared.Offset.{Offset}
use Rattle.detect_keypoint.specs.Offsets.{small}

pub small_xi : (o : Offset) → small o ≡ true → (abs_of o.xi <ᶠ half) ≡ true
unfolding small
small_xi o e = and_left (abs_of o.xi <ᶠ half) _ e

pub small_xr : (o : Offset) → small o ≡ true → (abs_of o.xr <ᶠ half) ≡ true
unfolding small
small_xr o e = and_left (abs_of o.xr <ᶠ half) _ (and_right (abs_of o.xi <ᶠ half) _ e)

pub small_xc : (o : Offset) → small o ≡ true → (abs_of o.xc <ᶠ half) ≡ true
unfolding small
small_xc o e = and_right (abs_of o.xr <ᶠ half) _ (and_right (abs_of o.xi <ᶠ half) _ e)
