use mathlib.Core.Path.{refl}
use native.Mathlib.Omega.{arith}
use Rattle.sheet_unpack.proofs.Taken.{part_set}
use Rattle.sheet_unpack.proofs.put_floats.Goals as goal

pub returns : goal.returns
returns c = part_set c.args.to _ c.args.out.now _ _ c.copy_from_slice.ensures.after (omega arith)
