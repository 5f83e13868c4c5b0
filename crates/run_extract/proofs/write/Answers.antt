use Rattle.std.proofs.Common.{arith}
use Rattle.run_extract.proofs.Fits.{written_fits}
use Rattle.run_extract.proofs.write.Goals as goal

pub returns-in-Some : goal.returns-in-Some
returns-in-Some g c =
    let h = rw c.in-Some.is at c.in_ok-size.ensures in
    omega (arith, c.requires, written_fits _ _ _ _ _ _ c.write_sheet-answer.ensures.0 h)
