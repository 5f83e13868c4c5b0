use Rattle.std.proofs.Common.{sym, ap, ◌∙◌}
use Rattle.ieee.specs.F32.{◌⊕◌, ◌⊗◌, ◌⊘◌, float}
use Rattle.ieee.specs.Numbers.{two}
use Rattle.hal.specs.Exp.{exp2_of}
use Rattle.detect_keypoint.specs.Keypoint.{octave_word, keypoint_with}
use Rattle.detect_keypoint.proofs.Codes.{word_is}
use Rattle.detect_keypoint.proofs.Offsets.{small_xi}
use Rattle.detect_keypoint.proofs.keypoint_of.Goals as goal

pub code_of-requires : goal.code_of-requires
code_of-requires c = small_xi _ c.requires.o_value

pub returns : goal.returns
unfolding keypoint_with
returns c =
    let a = c.args in
    let word = sym (word_is a.s.octave a.k.p c.code_of.result c.requires.octave_le_max_octave.0 c.requires.octave_le_max_octave.2 c.code_of.ensures.1) ∙ ap (octave_word a.s.octave a.k.p) c.code_of.ensures.0 in
    rw (c.scale_of-scale.ensures, c.exp2-power.ensures, c.narrow.ensures.value, word)
