use mathlib.Core.Path.{sym, subst}
use lib.Dec.{T}
use lib.Ieee.{binary32}
use Rattle.packing.proofs.Fields.{finite_no_nan}
use Rattle.packing.proofs.Split.{splits}
use Rattle.packing.proofs.unpack.Goals as goal

pub float_to_bits-v : goal.float_to_bits-v
float_to_bits-v c = finite_no_nan c.args.v c.requires

-- what owning a float tells: the format holds it
pub returns : goal.returns
returns c =
    let t = c.take_apart.ensures in
    splits binary32 c.args.v (subst T (sym c.well_formed.0.1) tt) c.requires _ c.from.ensures _ _ _ t.sign t.significand t.exponent
