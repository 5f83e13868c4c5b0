use Rattle.run_extract.proofs.Fits.{turned_fit}
use Rattle.run_extract.proofs.Extract.add_keypoint.Goals as goal

pub add_directions-requires : goal.add_directions-requires
add_directions-requires g c =
    let h = rw c.in-Some.is at c.in_ok-oriented.ensures in
    turned_fit _ _ _ _ _ _ c.assign_orientations-answer.ensures.value h
