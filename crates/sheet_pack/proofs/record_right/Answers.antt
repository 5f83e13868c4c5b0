use Rattle.sheet.specs.Writes.{frame_for}
use Rattle.sheet.proofs.Lawful.{lawful_edition, angled_edition}
use Rattle.sheet_edition.specs.Edition.{layout_for}
use Rattle.sheet_pack.proofs.Written.{plain, right_is}
use Rattle.sheet_pack.proofs.record_right.Goals as goal

pub head_of-requires : goal.head_of-requires
head_of-requires c =
    plain (layout_for c.args.e) c.args.words.now c.requires

pub floats_of-requires : goal.floats_of-requires
floats_of-requires c =
    plain (layout_for c.args.e) c.args.words.now c.requires

pub values_right-requires : goal.values_right-requires
values_right-requires c =
    plain (layout_for c.args.e) c.args.words.now c.requires

pub blank_right-requires : goal.blank_right-requires
blank_right-requires c =
    plain (layout_for c.args.e) c.args.words.now c.requires

pub returns : goal.returns
returns c =
    let l = layout_for c.args.e in
    let w = c.args.words.now in
    right_is l (lawful_edition c.args.e.number) (angled_edition c.args.e.number) w (plain l w c.requires) (frame_for c.args.frame) _ _ _ _ _ _
    c.head_right.ensures c.head_of.ensures c.floats_right.ensures c.floats_of.ensures c.values_right.ensures c.blank_right.ensures
