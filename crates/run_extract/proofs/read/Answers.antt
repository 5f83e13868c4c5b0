use Rattle.std.proofs.Common.{arith}
use Rattle.run_extract.proofs.Fits.{read_fit}
use Rattle.run_extract.proofs.read.Goals as goal

pub returns-in-Some : goal.returns-in-Some
returns-in-Some g c =
    let h = rw c.in-Some.is at c.in_ok-heading.ensures in
    omega (arith, c.requires, read_fit _ _ _ _ c.read_sheet.ensures.0 h)
