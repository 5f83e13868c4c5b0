-- Law: what is proved of the maker of records. proofs/Rules.antt proves each. Definitions only.
use Rattle.std.specs.Prelude.{◌≡◌, ℕ, ◌<◌, ◌≤◌, true, List, length, ◌≢◌, slice_index}
use Rattle.ieee.specs.F32.{◌=ᶠ◌, f32, bits_of, float}
use Rattle.detect_keypoint.specs.declared.RawKeypoint.{RawKeypoint}
use Rattle.orient_words.specs.declared.OrientedKeypoint.{OrientedKeypoint}
use Rattle.sheet.specs.Layout.{Frame, edition2}
use Rattle.sheet.specs.Words.{read_words, plain_words}
use Rattle.sheet.specs.Writes.{words_right}
use Rattle.record.specs.Record.{byte_of}
use Rattle.record.specs.Make.{make_number, make_left}

-- whatever two keypoints, values, samples and lent words the maker accepts
module _ (k : RawKeypoint) (o : OrientedKeypoint) (values : List ℕ) (samples : ℕ) (out : List ℕ) where
  abbrev pub left : List ℕ
  left = make_left k o values samples out

  pub record Made : Type 0 where
    -- a record's words are left
    pub whole : length left ≡ read_words
    -- its blank word is 1 where no sample was used, and 0 everywhere else
    pub nothing : samples ≡ 0 → slice_index left plain_words ≡ 1
    pub something : (samples ≢ 0) → slice_index left plain_words ≡ 0
    -- and the writer of edition 2 refuses it for its frame alone
    pub kept : (f : Frame) → k.rr < f.height → k.cc < f.width → slice_index left 3 ≤ f.layers → words_right edition2 f left ≡ true

pub record MakerRule : Type 0 where
  pub made : (k : RawKeypoint) (o : OrientedKeypoint) (values : List ℕ) (samples : ℕ) (out : List ℕ) → make_number k o values samples (length out) ≡ 0 → Made k o values samples out
  -- a value that is taken is the whole number that it is taken for, and each from 0 to 255 is taken
  pub taken : (bits : ℕ) → byte_of bits ≤ 255 → (float (byte_of bits) =ᶠ f32 bits) ≡ true
  pub each : (n : ℕ) → n ≤ 255 → byte_of (bits_of (float n)) ≡ n
