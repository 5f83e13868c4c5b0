-- Law: Nothing and zero (rule P18). A descriptor can be 128 zeros for two reasons: no cell of its patch lay where it can be read, or all that was read is level. The number of samples
-- beside the values always says which: 0 for nothing read, above 0 for anything else. This is said of what `compute_descriptor` answers and leaves in the lent words,
-- for every call that is accepted. proofs/Nothing.antt proves it. Definitions only.
use Rattle.std.specs.Prelude.{ℕ, ◌*◌, ◌<◌, ◌≡◌, true, List, [], length, get_or, replicate, Float}
use Rattle.std.specs.Float.{nan}
use Rattle.ieee.specs.F32.{◌=ᶠ◌}
use Rattle.params.specs.Limits.{value_count}
use Rattle.picture.specs.declared.Size.{Size}
use Rattle.descriptor_run.specs.Cells.{reads_of}
use Rattle.descriptor_words.specs.Words.{turn_at}
use Rattle.picture.specs.declared.Spot.{Spot}
use Rattle.descriptor.specs.Entry.{fault_of, used_of, described_of, described_out}

-- all samples of a list are equal as numbers: +0 beside −0 is level too
abbrev pub Level : List Float → Type 0
Level l = (i j : ℕ) → i < length l → j < length l → (get_or l i nan =ᶠ get_or l j nan) ≡ true

-- 128 times the bits of +0
abbrev pub zeros : List ℕ
zeros = replicate value_count 0

-- a call, and the words lent for it
module _ (img : List Float) (s : Size) (p : Spot) (out : List ℕ) where
  -- what is read of the picture: the four neighbours of each sample of the patch
  abbrev pub read : List Float
  read = reads_of img (turn_at s p)

  -- the number of samples that is answered
  abbrev pub samples : ℕ
  samples = used_of (described_of img s p (length out))

  -- the lent words afterwards
  abbrev pub left : List ℕ
  left = described_out img s p out

  pub record Told : Type 0 where
    -- where nothing is read: no sample, and zeros
    pub nothing : read ≡ [] → (samples ≡ 0) × (left ≡ zeros)
    -- no sample is answered only there: a patch that was read never answers 0 samples
    pub only : samples ≡ 0 → read ≡ []
    -- a patch that is read and level: samples, and zeros
    pub level : (read ≡ [] → ⊥) → Level read → (0 < samples) × (left ≡ zeros)
    -- four neighbours are read for each sample
    pub four : length read ≡ 4 * samples

pub record NothingRule : Type 0 where
  -- for every call that is accepted, with the 128 places that it asks for
  pub told : (img : List Float) (s : Size) (p : Spot) (out : List ℕ) → fault_of img s p ≡ 0 → length out ≡ value_count → Told img s p out
