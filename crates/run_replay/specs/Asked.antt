-- What asking for a list's next word does to what is counted and, where they are known, to the bytes that are left. Definitions only.
use Rattle.std.specs.Prelude.{◌≡◌, ℕ, ◌+◌, ◌%◌, ◌^◌, ◌⊎◌, List, length, Option}
use Rattle.std.specs.Int.{w32, from_le_bytes}
use Rattle.std.specs.Io.KnownBytes.{Consumes, IsAtEnd}
use Rattle.run_replay.specs.declared.Counts.{Counts}

-- four bytes are taken, which are the word's, the least significant first, and nothing is counted
pub record Reads (old new : Counts) (before after : Option (List ℕ)) (word : ℕ) : Type 0 where
  pub counts : new ≡ old
  pub bytes : (bs : List ℕ) × (length bs ≡ 4) × (word ≡ from_le_bytes w32 bs) × Consumes before after bs

-- the bytes end before them, which is counted, and the word is 0
pub record Misses (old new : Counts) (after : Option (List ℕ)) (word : ℕ) : Type 0 where
  pub counts : new ≡ record old { missing = (old.missing + 1) % 2 ^ 64 }
  pub ended : IsAtEnd after
  pub nought : word ≡ 0

abbrev pub Asked : Counts → Counts → Option (List ℕ) → Option (List ℕ) → ℕ → Type 0
Asked old new before after word = Reads old new before after word ⊎ Misses old new after word
