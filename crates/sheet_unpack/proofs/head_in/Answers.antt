use native.Mathlib.Omega.{arith}
use Rattle.sheet.specs.Pack.{unpack}
use Rattle.sheet.specs.Layout.{head_size}
use Rattle.sheet.proofs.Cut.{value_fits}
use Rattle.sheet_edition.proofs.Layouts.{size_is}
use Rattle.sheet_unpack.proofs.head_in.Goals as goal

pub get-requires : goal.get-requires
get-requires c = omega (arith, size_is c.args.e)

pub cut_head-requires : goal.cut_head-requires
cut_head-requires c = rw c.get.ensures (value_fits c.args.bytes.now 0 head_size (λ i. (c.type_inv.bytes i).fits) (omega (arith, size_is c.args.e)))

pub returns-clause-bytes_value : goal.returns-clause-bytes_value
unfolding unpack
returns-clause-bytes_value c = rw c.get.ensures at c.cut_head.ensures.n_value

pub returns-clause-head_fits : goal.returns-clause-head_fits
unfolding unpack
returns-clause-head_fits c = c.cut_head.ensures.head_fits
