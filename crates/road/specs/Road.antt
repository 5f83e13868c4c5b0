-- Law: the road from an octave's planes to the records of a frame, and the order that a sheet has them in. Definitions only.
use Rattle.std.specs.Prelude.{ℕ, ◌+◌, ◌*◌, ◌≤◌, ◌≡◌, true, pos, length, Float}
use mathlib.Core.List.{List, map, flat_map, Memᴰ}
use Rattle.lists.specs.Ranges.{joined}
use Rattle.params.specs.Table.{all_good}
use Rattle.params.specs.declared.Settings.{Settings}
use Rattle.picture.specs.declared.Shape.{Shape}
use Rattle.picture.specs.declared.Size.{Size}
use Rattle.detect_keypoint.specs.declared.RawKeypoint.{RawKeypoint}
use Rattle.detect.specs.Entry as Detection
use Rattle.orient_words.specs.declared.OrientedKeypoint.{OrientedKeypoint}
use Rattle.orient.specs.Entry.{orient_fault, oriented_list}
use Rattle.descriptor_inputs.specs.Inputs.{inputs_of, Inputs}
use Rattle.descriptor_run.specs.Cells.{samples_of, reads_of}
use Rattle.descriptor_words.specs.Words.{turn_at, values_at, words_at}
use Rattle.picture.specs.declared.Spot.{Spot}
use Rattle.descriptor.specs.Entry as Descriptor
use Rattle.record.specs.Record.{record_of}

-- x stands in a list, at some place
abbrev pub Among : {A : Type 0} → A → List A → Type 0
Among x xs = Memᴰ x xs

-- ---- the stages, one after the other

-- an octave of a frame: its difference planes, and for each layer the picture on which a keypoint that settled there is turned and described
pub record Octave : Type 0 where
  pub number : ℕ
  pub shape : Shape
  pub stack : List Float
  pub picture : ℕ → List Float

-- the size of its pictures
abbrev pub size_in : Octave → Size
size_in q = record { width = q.shape.width; height = q.shape.height }

-- detection on a layer: the number that it answers, and the keypoints that it finds
abbrev pub search_fault : Settings → Octave → ℕ → ℕ
search_fault s q layer = Detection.fault_of q.stack q.shape layer q.number s

abbrev pub found_in : Settings → Octave → ℕ → List RawKeypoint
found_in s q layer = Detection.list_of q.stack q.shape layer q.number s

-- orientation of a keypoint on a picture of the octave: its number, and the directions
abbrev pub turn_fault : List Float → Octave → RawKeypoint → ℕ
turn_fault img q k = orient_fault img (size_in q) k

abbrev pub directions_of : List Float → Octave → RawKeypoint → List OrientedKeypoint
directions_of img q k = oriented_list img (size_in q) k

-- the inputs that an oriented keypoint gives, as the descriptor takes them
abbrev pub spot_of : Inputs → Spot
spot_of i = record { x = i.x; y = i.y; scale = i.scale; angle = i.angle }

-- the descriptor of a direction: what it is asked with, its number, what it reads, and the 128 values, also by their bits, and the samples
abbrev pub inputs_for : Octave → OrientedKeypoint → Inputs
inputs_for q o = inputs_of o (pos q.number)

abbrev pub spot_for : Octave → OrientedKeypoint → Spot
spot_for q o = spot_of (inputs_for q o)

abbrev pub patch_fault : List Float → Octave → OrientedKeypoint → ℕ
patch_fault img q o = Descriptor.fault_of img (size_in q) (spot_for q o)

abbrev pub patch_reads : List Float → Octave → OrientedKeypoint → List Float
patch_reads img q o = reads_of img (turn_at (size_in q) (spot_for q o))

abbrev pub values_for : List Float → Octave → OrientedKeypoint → List Float
values_for img q o = values_at img (size_in q) (spot_for q o)

abbrev pub value_words_for : List Float → Octave → OrientedKeypoint → List ℕ
value_words_for img q o = words_at img (size_in q) (spot_for q o)

abbrev pub samples_for : List Float → Octave → OrientedKeypoint → ℕ
samples_for img q o = length (samples_of img (turn_at (size_in q) (spot_for q o)))

-- a keypoint's picture is that of the layer where it settled, which may be another than the one searched
abbrev pub picture_for : Octave → RawKeypoint → List Float
picture_for q k = q.picture k.layer

-- the record of a keypoint's direction
abbrev pub record_for : Octave → RawKeypoint → OrientedKeypoint → List ℕ
record_for q k o = record_of k o (value_words_for (picture_for q k) q o) (samples_for (picture_for q k) q o)

-- ---- the records of a frame

-- the pictures of all layers have the octave's size, whatever their samples, and the frame is no smaller
pub record Sized (wide high : ℕ) (s : Settings) (q : Octave) : Type 0 where
  pub picture : (layer : ℕ) → 1 ≤ layer → layer ≤ s.layers → length (q.picture layer) ≡ q.shape.height * q.shape.width
  pub across : q.shape.width ≤ wide
  pub down : q.shape.height ≤ high

-- r is a record of the frame: that of some direction of some keypoint that was found in some layer of some octave, no stage refusing
pub record OfFrame (wide high : ℕ) (s : Settings) (r : List ℕ) : Type 0 where
  pub octave : Octave
  pub layer : ℕ
  pub keypoint : RawKeypoint
  pub direction : OrientedKeypoint
  pub sized : Sized wide high s octave
  pub searched : search_fault s octave layer ≡ 0
  pub found : Among keypoint (found_in s octave layer)
  pub oriented : turn_fault (picture_for octave keypoint) octave keypoint ≡ 0
  pub given : Among direction (directions_of (picture_for octave keypoint) octave keypoint)
  pub described : patch_fault (picture_for octave keypoint) octave direction ≡ 0
  pub is : r ≡ record_for octave keypoint direction

-- ---- the order of a sheet

-- of a keypoint, direction by direction; of a layer searched, keypoint by keypoint as detection lists them
unfoldable pub records_for : Octave → RawKeypoint → List (List ℕ)
records_for q k = map (record_for q k) (directions_of (picture_for q k) q k)

unfoldable pub records_in : Settings → Octave → ℕ → List (List ℕ)
records_in s q layer = flat_map (records_for q) (found_in s q layer)

-- of an octave, by the layer searched from 1 on; of a frame, octave by octave
unfoldable pub octave_records : Settings → Octave → List (List ℕ)
octave_records s q = joined 1 (s.layers + 1) (records_in s q)

unfoldable pub sheet_records : Settings → List Octave → List (List ℕ)
sheet_records s qs = flat_map (octave_records s) qs

-- no stage can refuse: detection accepts every layer, and the pictures have the octave's size and good samples only
pub record Smooth (wide high : ℕ) (s : Settings) (q : Octave) : Type 0 where
  pub sized : Sized wide high s q
  pub searched : (layer : ℕ) → 1 ≤ layer → layer ≤ s.layers → search_fault s q layer ≡ 0
  pub good : (layer : ℕ) → 1 ≤ layer → layer ≤ s.layers → all_good (q.picture layer) ≡ true
