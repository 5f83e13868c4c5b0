use Rattle.bounds.specs.Bounds.{greater_of, lesser_of}
use Rattle.detect_fit.specs.Place.{near_of}
use Rattle.detect_look.specs.Hints.{of_six, of_near, hint_at}
use Rattle.detect_look.proofs.may_be.Goals as goal

pub returns : goal.returns
unfolding near_of of_near of_six hint_at
returns c =
    let hi = c.of_six-hi.ensures greater_of (λ a b x e. e) in
    let lo = c.of_six-lo.ensures lesser_of (λ a b x e. e) in
    rw (hi, lo, c.near_at-near.ensures, c.at-before.ensures, c.at-after.ensures)
