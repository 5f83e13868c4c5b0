use Rattle.descriptor.specs.Place.{spot_wrong}
use Rattle.descriptor.proofs.Cells.{side_told}
use Rattle.descriptor.proofs.spot_wrong.Goals as goal

pub returns : goal.returns
unfolding spot_wrong
returns c =
    let r = c.round_to_i32-2 in
    let q = c.round_to_i32 in
    rw (side_told _ _ _ _ (record { sfits = r.type_inv }) r.ensures c.on_side-2.ensures, side_told _ _ _ _ (record { sfits = q.type_inv }) q.ensures c.on_side.ensures, c.is_finite-2.ensures, c.is_finite.ensures)
