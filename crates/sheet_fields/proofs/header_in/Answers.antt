use Rattle.sheet.specs.Pack.{unpack}
use Rattle.sheet.specs.Sheet.{header_in}
use Rattle.sheet_fields.proofs.header_in.Goals as goal

pub returns-clause-sheet_value : goal.returns-clause-sheet_value
unfolding header_in unpack
returns-clause-sheet_value c = rw c.get.ensures at c.cut_header.ensures.n_value

pub returns-clause-header_fits : goal.returns-clause-header_fits
unfolding header_in unpack
returns-clause-header_fits c = c.cut_header.ensures.header_fits
