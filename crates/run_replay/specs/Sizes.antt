-- Inner: how much a case of a list may ask for. Definitions only.
use Rattle.std.specs.Prelude.{ℕ}

-- the samples that are read for it, and the words that a HeldCase is lent
abbrev pub most_samples : ℕ
most_samples = 65536

abbrev pub most_room : ℕ
most_room = 4096
