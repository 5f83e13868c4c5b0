-- Inner: a cell's sample as a list, and what the code asks of a patch. No part of what a caller is promised. Definitions only.
use Rattle.std.specs.Prelude.{ℕ, ◌*◌, ◌≡◌, true, List, [], ◌∷◌, Float}
use Rattle.hal_turn.specs.Turn.{in_turn}
use Rattle.descriptor_patch.specs.Patch.{sample_at}
use Rattle.descriptor_patch.specs.Place.{Lies}
use Rattle.descriptor_patch.specs.declared.Patch.{Patch}
use Rattle.descriptor_patch.specs.declared.Sample.{Sample}

abbrev pub sample_in : List Float → Patch → ℕ → ℕ → List Sample
sample_in img t r c = sample_at img t r c ∷ []

-- a patch on a picture whose list is `len` long, turned by an angle that sine and cosine take
pub record Patched (len : ℕ) (t : Patch) : Type 0 where
  pub whole : len ≡ t.size.height * t.size.width
  pub lies : Lies t
  pub turn : in_turn t.angle ≡ true
