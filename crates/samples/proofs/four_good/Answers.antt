use Rattle.picture.specs.Picture.{four_at}
use Rattle.samples.proofs.Runs.{four_good}
use Rattle.samples.proofs.four_good.Goals as goal

pub returns : goal.returns
unfolding four_at
returns c = rw (c.good_sample-down.ensures, c.pixel_at-4.ensures, c.good_sample-up.ensures, c.pixel_at-3.ensures, c.good_sample-left.ensures, c.pixel_at-2.ensures, c.good_sample-right.ensures, c.pixel_at.ensures)
    (four_good _ _ _ _)
