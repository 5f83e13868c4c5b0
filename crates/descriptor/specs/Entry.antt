-- What `compute_descriptor` answers and leaves in the lent words. Definitions only.
use Rattle.std.specs.Prelude.{ℕ, ◌*◌, not, ◌||◌, cond, List, [], ◌∷◌, eqb, length, Float, Result, Ok, Err}
use Rattle.params.specs.Limits.{value_count}
use Rattle.params.specs.Table.{line, first_fault, shape_wrong, length_wrong, all_good}
use Rattle.params.specs.Answers.{on_fault}
use Rattle.params.specs.declared.Refusal.{Refusal}
use Rattle.params.specs.declared.Refusal.TheVariants.{Shape, Layers, Length, Settings, Fields, Samples, Room, Sheet}
use Rattle.picture.specs.declared.Size.{Size}
use Rattle.descriptor_run.specs.Cells.{samples_of, reads_of}
use Rattle.descriptor_words.specs.Words.{turn_at, words_at}
use Rattle.picture.specs.declared.Spot.{Spot}
use Rattle.descriptor.specs.Place.{spot_wrong, turn_wrong}

-- What `compute_descriptor` answers: done, with the samples used; not 128 places lent; or refused, by its number (rule A2).
pub data Described : Type 0 where
  Done : ℕ → Described
  Short : Described
  Refused : ℕ → Described

-- the number, count and samples of an answer (rules A2, A17 and P18)
abbrev pub number_of : Described → ℕ
number_of (Done n) = 0
number_of Short = 7
number_of (Refused k) = k

abbrev pub count_of : Described → ℕ
count_of (Done n) = value_count
count_of Short = value_count
count_of (Refused k) = 0

abbrev pub used_of : Described → ℕ
used_of (Done n) = n
used_of Short = 0
used_of (Refused k) = 0

-- the checks in the order of the table (rule A3), before that of room; 2 and 4 have no argument here. Only the four neighbours of each sample are tested.
unfoldable pub fault_of : List Float → Size → Spot → ℕ
fault_of img s p =
    first_fault
    (line 1 (shape_wrong s.width s.height)
    ∷ line 3 (length_wrong (length img) (s.height * s.width))
    ∷ line 5 (spot_wrong s p || turn_wrong p)
    ∷ line 6 (not (all_good (reads_of img (turn_at s p))))
    ∷ [])

-- the answer, at `room` places lent: exactly 128 are wanted (rule A14)
unfoldable pub described_of : List Float → Size → Spot → ℕ → Described
described_of img s p room =
    on_fault (fault_of img s p)
    (cond (eqb room value_count) (Done (length (samples_of img (turn_at s p)))) Short)
    (Refused (fault_of img s p))

-- `new` where the answer is done, and on any refusal what stood there
abbrev pub landed : Described → List ℕ → List ℕ → List ℕ
landed (Done n) new old = new
landed Short new old = old
landed (Refused k) new old = old

-- the lent words afterwards
unfoldable pub described_out : List Float → Size → Spot → List ℕ → List ℕ
described_out img s p out =
    landed (described_of img s p (length out)) (words_at img s p) out

-- What a result of the code is in these words. No two are told alike, but for a lack of room, whose places the contract says besides.
abbrev pub refused_told : Refusal → Described
refused_told Shape = Refused 1
refused_told Layers = Refused 2
refused_told Length = Refused 3
refused_told Settings = Refused 4
refused_told Fields = Refused 5
refused_told Samples = Refused 6
refused_told (Room n) = Short
refused_told Sheet = Refused 8

abbrev pub described_told : Result ℕ Refusal → Described
described_told (Ok n) = Done n
described_told (Err r) = refused_told r
