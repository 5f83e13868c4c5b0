use Rattle.descriptor_patch.specs.Patch.{hist_width, cos_t, sin_t, patch_of}
use Rattle.std.proofs.Common.{rules}
use Rattle.descriptor_patch.proofs.patch_of.Goals as goal

pub returns : goal.returns
unfolding patch_of cos_t sin_t hist_width
returns c = (
  rw (c.cos.ensures, c.sin.ensures, c.radius_of.ensures.0),
  record { wide = search rules; high = search rules; col = search rules; row = search rules; reach = c.radius_of.ensures.1 },
)
