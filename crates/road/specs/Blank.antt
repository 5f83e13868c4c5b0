-- Law: blank means that no cell was read (rule S8), end to end: from a picture and a spot, through the descriptor, the maker of records and the writer, to a bit of the sheet.
-- proofs/Blank.antt proves it. Definitions only.
use Rattle.std.specs.Prelude.{ℕ, ◌+◌, ◌*◌, ◌/◌, ◌%◌, ◌<◌, ◌≤◌, ◌≡◌, true, false, List, [], ◌∷◌, ◌++◌, length, get_or, take, drop, Float}
use Rattle.std.specs.Float.Ieee.{is_nan}
use Rattle.params.specs.Limits.{value_count}
use Rattle.params.specs.Answers.{Done}
use Rattle.picture.specs.declared.Size.{Size}
use Rattle.detect_keypoint.specs.declared.RawKeypoint.{RawKeypoint}
use Rattle.orient_words.specs.declared.OrientedKeypoint.{OrientedKeypoint}
use Rattle.picture.specs.declared.Spot.{Spot}
use Rattle.descriptor.specs.Entry.{fault_of}
use Rattle.descriptor.specs.Nothing.{Level, read, samples, left}
use Rattle.record.specs.Record.{head_of, floats_of}
use Rattle.record.specs.Make.{alike, widest, make_number, make_left}
use Rattle.sheet.specs.Pack.{sound}
use Rattle.sheet.specs.Layout.{edition2, header_size, record_size, head_slots, float_slots}
use Rattle.sheet.specs.Words.{read_words}
use Rattle.sheet.specs.Writes.{frame_of, count_in, write_answer, write_out}

-- the blank bit of the record i of a sheet of edition 2: the third bit of its sixth byte
abbrev pub blank_bit : ℕ → List ℕ → ℕ
blank_bit i sheet = get_or sheet (header_size + record_size edition2 * i + 5) 0 / 32 % 2

-- what the bit says of what the descriptor read
pub record Tells (bit : ℕ) (seen : List Float) : Type 0 where
  -- set where no cell was read, and nowhere else
  pub nothing : seen ≡ [] → bit ≡ 1
  pub only : bit ≡ 1 → seen ≡ []
  -- a patch that was read, whatever it shows, is not blank: a level one is none, though its values are all 0
  pub something : (seen ≡ [] → ⊥) → bit ≡ 0
  pub level : (seen ≡ [] → ⊥) → Level seen → bit ≡ 0

-- two keypoints of which a record can be made, whatever was read: they are the same, and their whole numbers, beside either blank bit, and their floats keep the rules that need no frame
pub record Makeable (k : RawKeypoint) (o : OrientedKeypoint) : Type 0 where
  pub number : is_nan k.xi ≡ false
  pub same : alike k o ≡ true
  pub head : (blank : ℕ) → blank ≤ 1 → sound (head_slots edition2 widest) (head_of k ++ (blank ∷ 0 ∷ [])) ≡ true
  pub floats : sound (float_slots edition2) (floats_of o) ≡ true

pub record BlankRule : Type 0 where
  -- What the descriptor answers for a picture and a spot that it accepts is never a reason to refuse: of two such keypoints the maker makes a record with it.
  pub made : (img : List Float) (s : Size) (p : Spot) (values : List ℕ) → fault_of img s p ≡ 0 → length values ≡ value_count
      → (k : RawKeypoint) (o : OrientedKeypoint) → Makeable k o → make_number k o (left img s p values) (samples img s p values) read_words ≡ 0
  -- For every picture and spot that the descriptor accepts, and the values that it leaves in 128 lent places; any two keypoints of which the maker then makes a record, in the
  -- 139 words lent to it; and any words that the writer of edition 2 writes, whose record i are these: the blank bit of the record i on the sheet.
  pub told : (img : List Float) (s : Size) (p : Spot) (values : List ℕ) → fault_of img s p ≡ 0 → length values ≡ value_count
      → (k : RawKeypoint) (o : OrientedKeypoint) (made : List ℕ) → make_number k o (left img s p values) (samples img s p values) (length made) ≡ 0
      → (width height layers : ℕ) (words out : List ℕ) (n i : ℕ) → write_answer 2 (frame_of width height layers) words (length out) ≡ Done n
      → i < count_in edition2 words → take read_words (drop (read_words * i) words) ≡ make_left k o (left img s p values) (samples img s p values) made
      → Tells (blank_bit i (write_out 2 (frame_of width height layers) words out)) (read img s p values)
