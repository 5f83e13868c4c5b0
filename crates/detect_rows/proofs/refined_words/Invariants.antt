use Prim.Native.Nat.{◌*◌, ◌≤◌}
use lib.ListN.{take}
use Rattle.params.specs.Limits.{keypoint_words}
use Rattle.detect_rows.specs.Forms.{all_again}
use Rattle.detect_words.proofs.Words.{Filled}
use Rattle.detect_rows.proofs.refined_words.Given as goal

abbrev pub invariant-loop-word : goal.invariant-loop-word
invariant-loop-word l =
    (l.n ≤ keypoint_words * l.word-index) × Filled l.initial.out 0 (all_again l.dog l.t l.s (take l.word-index l.hold)) l.out l.n
