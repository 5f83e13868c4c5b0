-- Law: how many moves a keypoint tells. Definitions only.
use Rattle.std.specs.Prelude.{◌<◌, ◌≡◌, List, Some, Float}
use Rattle.params.specs.Limits.{max_moves}
use Rattle.picture.specs.declared.Shape.{Shape}
use Rattle.detect_keypoint.specs.declared.Cell.{Cell}
use Rattle.detect_keypoint.specs.declared.Search.{Search}
use Rattle.detect_keypoint.specs.declared.RawKeypoint.{RawKeypoint}
use Rattle.detect_refine.specs.Settle.{refine_of}

-- Rule D12, whatever the samples, the shape, the search and the cell: a keypoint settled after fewer moves than five, 0 to 4.
abbrev pub FewMoves : Type 0
FewMoves = (d : List Float) (t : Shape) (s : Search) (k : Cell) (found : RawKeypoint) → refine_of d t s k ≡ Some found → found.moves < max_moves
