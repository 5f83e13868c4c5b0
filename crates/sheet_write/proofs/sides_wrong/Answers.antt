use Rattle.sheet.specs.Writes.{frame_of}
use Rattle.sheet_edition.specs.Edition.{layout_for}
use Rattle.sheet_write.proofs.Written.{sides_is}
use Rattle.sheet_write.proofs.sides_wrong.Goals as goal

pub returns : goal.returns
returns c layers =
    sides_is (layout_for c.args.e) (frame_of c.args.width c.args.height layers) _ _ c.shape_wrong.ensures c.args.e.sides_are
