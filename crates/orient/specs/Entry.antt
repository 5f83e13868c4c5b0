-- What `assign_orientations` answers and leaves in the lent words (rules A16 to A19, O11 and O12). Definitions only.
use Rattle.std.specs.Prelude.{ℕ, ◌*◌, not, List, [], ◌∷◌, map, length, Float}
use Rattle.params.specs.Table.{line, first_fault, shape_wrong, length_wrong}
use Rattle.params.specs.Answers.{Answer, answer_of, landed}
use Rattle.picture.specs.declared.Size.{Size}
use Rattle.detect_keypoint.specs.declared.RawKeypoint.{RawKeypoint}
use Rattle.orient_window.specs.Window.{window_of, cells_read}
use Rattle.orient_window.specs.Good.{window_good}
use Rattle.orient_tally.specs.Tally.{tally_of}
use Rattle.orient_window.specs.declared.Window.{Window}
use Rattle.orient_peaks.specs.Peaks.{angles_of}
use Rattle.orient_words.specs.Oriented.{oriented_of, oriented_words, words, OrientAnswer, answered_with}
use Rattle.orient_words.specs.declared.OrientedKeypoint.{OrientedKeypoint}
use Rattle.orient.specs.Keypoint.{keypoint_wrong, scale_of}

-- the window about a keypoint's cell
unfoldable pub window_at : Size → RawKeypoint → Window
window_at s k = window_of s k.rr k.cc (scale_of k)

-- the checks in the order of rule A3: of the samples only the four neighbours of each cell that is read (rule A13; `tested` in orient_window/specs/Rules.antt says that it is those)
unfoldable pub orient_fault : List Float → Size → RawKeypoint → ℕ
orient_fault img s k =
    first_fault
    (line 1 (shape_wrong s.width s.height)
    ∷ line 3 (length_wrong (length img) (s.height * s.width))
    ∷ line 5 (keypoint_wrong s k)
    ∷ line 6 (not (window_good img (window_at s k)))
    ∷ [])

-- the angles of a keypoint, one for each peak of the tally of its window
unfoldable pub angles_at : List Float → Size → RawKeypoint → List Float
angles_at img s k = angles_of (tally_of img (window_at s k)).bins

-- the oriented keypoints; none where there is no peak
unfoldable pub oriented_list : List Float → Size → RawKeypoint → List OrientedKeypoint
oriented_list img s k = map (oriented_of k) (angles_at img s k)

-- the number and the count, at `room` words lent: 7 counts oriented keypoints
unfoldable pub given_back : List Float → Size → RawKeypoint → ℕ → Answer
given_back img s k room =
    answer_of (orient_fault img s k) (length (oriented_list img s k)) (oriented_words * length (oriented_list img s k)) room

-- the answer, with the number of cells read
unfoldable pub orient_answer : List Float → Size → RawKeypoint → ℕ → OrientAnswer
orient_answer img s k room = answered_with (given_back img s k room) (cells_read (window_at s k))

-- the lent words afterwards
unfoldable pub orient_out : List Float → Size → RawKeypoint → List ℕ → List ℕ
orient_out img s k out = landed (given_back img s k (length out)) (words (oriented_list img s k)) out
