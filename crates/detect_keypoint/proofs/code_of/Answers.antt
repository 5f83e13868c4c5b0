use Rattle.detect_keypoint.proofs.Codes.{code_is}
use Rattle.detect_keypoint.proofs.code_of.Goals as goal

pub returns : goal.returns
returns c = code_is c.args.xi c.requires _ _ c.round_ties_even.ensures c.saturating_f32_to_u32.ensures
