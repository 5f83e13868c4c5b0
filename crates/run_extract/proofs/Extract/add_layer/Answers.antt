use Rattle.std.proofs.Common.{arith}
use Rattle.run_extract.proofs.Fits.{found_fit}
use Rattle.run_extract.proofs.Extract.add_layer.Goals as goal

pub add_found-requires : goal.add_found-requires
add_found-requires g c =
    let h = rw c.in-Some.is at c.in_ok-count.ensures in
    omega (arith, found_fit _ _ _ _ _ _ _ _ c.find_extrema-answer.ensures.value h)
