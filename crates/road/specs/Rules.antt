-- Law: the stages fit, from the planes of a frame to a sheet that reads back. proofs/Rules.antt proves each. Definitions only.
use Rattle.std.specs.Prelude.{ℕ, ◌*◌, ◌<◌, ◌≤◌, ◌≡◌, Bool, true, cond, List, length, get_or, take, drop, Float}
use Rattle.params.specs.Limits.{keypoint_words}
use Rattle.params.specs.Table.{all_good}
use Rattle.params.specs.declared.Settings.{Settings}
use Rattle.detect_keypoint.specs.declared.RawKeypoint.{RawKeypoint}
use Rattle.detect_extrema.specs.Scan as Raw
use Rattle.orient_window.specs.Good.{window_good}
use Rattle.orient_words.specs.Oriented as Oriented
use Rattle.orient_words.specs.Oriented.{oriented_words}
use Rattle.orient_words.specs.declared.OrientedKeypoint.{OrientedKeypoint}
use Rattle.orient.specs.Entry.{window_at}
use Rattle.words.specs.Keypoint.{keypoint_in}
use Rattle.words.specs.Oriented.{oriented_in}
use Rattle.sheet.specs.Layout.{layout_of, known, max_count}
use Rattle.sheet.specs.Words.{read_words}
use Rattle.sheet.specs.Writes.{frame_of, words_right}
use Rattle.record.specs.Make.{make_number, make_left}
use Rattle.road.specs.Road.{Among, Octave, size_in, search_fault, found_in, turn_fault, directions_of, inputs_for, patch_fault, patch_reads, value_words_for, samples_for, picture_for, OfFrame, Smooth, sheet_records}
use Rattle.road.specs.Back.{Framed, taken, ReadsBack}

-- the number where no line but 6 can be given: 0 if all that is read is good, and else 6
abbrev pub six_unless : Bool → ℕ
six_unless good = cond good 0 6

-- `compute_descriptor` refuses the inputs of a direction only for a bad sample that it reads, and `descriptor_inputs` gives them
pub record Served (img : List Float) (q : Octave) (o : OrientedKeypoint) : Type 0 where
  pub taken : patch_fault img q o ≡ six_unless (all_good (patch_reads img q o))
  pub given : (inputs_for q o).number ≡ 0

-- on a picture, orientation refuses nothing of a keypoint, and the descriptor nothing of its directions
pub record Through (img : List Float) (q : Octave) (k : RawKeypoint) : Type 0 where
  pub oriented : turn_fault img q k ≡ 0
  pub described : (o : OrientedKeypoint) → Among o (directions_of img q k) → patch_fault img q o ≡ 0

-- the maker makes r of a keypoint, its direction and the descriptor's answer
pub record Making (q : Octave) (k : RawKeypoint) (o : OrientedKeypoint) (r : List ℕ) : Type 0 where
  pub accepted : make_number k o (value_words_for (picture_for q k) q o) (samples_for (picture_for q k) q o) read_words ≡ 0
  pub left : (out : List ℕ) → length out ≡ read_words → make_left k o (value_words_for (picture_for q k) q o) (samples_for (picture_for q k) q o) out ≡ r

pub record RoadRule : Type 0 where
  -- a keypoint of an accepted search, on a picture of that size with whatever samples: orientation can refuse it by 6 alone, and does exactly where a cell that it reads is bad
  pub oriented : (s : Settings) (q : Octave) (layer : ℕ) → search_fault s q layer ≡ 0 → (k : RawKeypoint) → Among k (found_in s q layer)
      → (img : List Float) → length img ≡ q.shape.height * q.shape.width
      → turn_fault img q k ≡ six_unless (window_good img (window_at (size_in q) k))
  -- so it is with the descriptor and each direction that orientation gave
  pub described : (s : Settings) (q : Octave) (layer : ℕ) → search_fault s q layer ≡ 0 → (k : RawKeypoint) → Among k (found_in s q layer)
      → (img : List Float) → length img ≡ q.shape.height * q.shape.width
      → turn_fault img q k ≡ 0 → (o : OrientedKeypoint) → Among o (directions_of img q k) → Served img q o
  -- on a picture of good samples neither refuses anything
  pub through : (s : Settings) (q : Octave) (layer : ℕ) → search_fault s q layer ≡ 0 → (k : RawKeypoint) → Among k (found_in s q layer)
      → (img : List Float) → length img ≡ q.shape.height * q.shape.width → all_good img ≡ true → Through img q k
  -- what C passes on is what is spoken of here: ten words of what detection wrote, from the place 10 × i on, read back as the keypoint i
  pub keypoint_words_lem : (s : Settings) (q : Octave) (layer : ℕ) → search_fault s q layer ≡ 0 → (past : RawKeypoint) (i : ℕ) → i < length (found_in s q layer)
      → keypoint_in (take keypoint_words (drop (keypoint_words * i) (Raw.words (found_in s q layer)))) ≡ get_or (found_in s q layer) i past
  -- and six words of what orientation wrote, from the place 6 × i on, as the direction i
  pub direction_words : (s : Settings) (q : Octave) (layer : ℕ) → search_fault s q layer ≡ 0 → (k : RawKeypoint) → Among k (found_in s q layer)
      → (img : List Float) → turn_fault img q k ≡ 0 → (past : OrientedKeypoint) (i : ℕ) → i < length (directions_of img q k)
      → oriented_in (take oriented_words (drop (oriented_words * i) (Oriented.words (directions_of img q k)))) ≡ get_or (directions_of img q k) i past
  -- of a direction that the descriptor accepts the maker makes the frame's record, and refuses nothing: handed the keypoint, the direction, the values by their bits and the samples
  pub made : (wide high : ℕ) (s : Settings) (r : List ℕ) (f : OfFrame wide high s r) → Making f.octave f.keypoint f.direction r
  -- and each record of the frame keeps the sheet's rules, in each edition
  pub recorded : (wide high : ℕ) (s : Settings) (r : List ℕ) → OfFrame wide high s r
      → (edition : ℕ) → known edition ≡ true → words_right (layout_of edition) (frame_of wide high s.layers) (taken edition r) ≡ true
  -- so any list of records of the frame, in any order and any selection, goes on a sheet and reads back, if it is no longer than a sheet holds
  pub back : (edition : ℕ) → known edition ≡ true → (wide high : ℕ) (s : Settings) (rs : List (List ℕ)) → Framed wide high s.layers → ((r : List ℕ) → Among r rs → OfFrame wide high s r)
      → length rs ≤ max_count → ReadsBack edition wide high s.layers rs
  -- and the list in the order of a sheet is one of these
  pub ordered : (wide high : ℕ) (s : Settings) (qs : List Octave) → ((q : Octave) → Among q qs → Smooth wide high s q)
      → (r : List ℕ) → Among r (sheet_records s qs) → OfFrame wide high s r
  -- so a frame whose planes and pictures are accepted goes the whole way: its records, in the order of a sheet, are written and read back
  pub whole : (edition : ℕ) → known edition ≡ true → (wide high : ℕ) (s : Settings) (qs : List Octave) → Framed wide high s.layers → ((q : Octave) → Among q qs → Smooth wide high s q)
      → length (sheet_records s qs) ≤ max_count → ReadsBack edition wide high s.layers (sheet_records s qs)
