use Rattle.std.proofs.Common.{◌≡◌, Bool, true, false, ◌&&◌}
use lib.Ieee.{of_bits, neg}
use Rattle.descriptor_patch.proofs.in_grid.Goals as goal

both : (a b : Bool) → a ≡ true → b ≡ (a && b)
both a b e = rw e

neither : (a b : Bool) → a ≡ false → a ≡ (a && b)
neither a b e = rw e

pub returns-then-bin : goal.returns-then-bin
unfolding of_bits neg
returns-then-bin c = both _ _ c.if-bin.true

pub returns-else-bin : goal.returns-else-bin
unfolding of_bits neg
returns-else-bin c = neither _ _ c.if-bin.false
