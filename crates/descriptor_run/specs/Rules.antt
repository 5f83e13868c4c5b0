-- Law: what is proved of the used cells of a patch and of their samples: proofs/Rules.antt proves each. Definitions only.
use Rattle.std.specs.Prelude.{ℕ, ◌<◌, ◌≤◌, ◌≡◌, true, List, Float}
use Rattle.params.specs.Table.{all_good}
use Rattle.lists.specs.Each.{Each}
use Rattle.picture.specs.Picture.{four_at, first_in, past_in}
use Rattle.descriptor_patch.specs.Rules.{Fair}
use Rattle.descriptor_patch.specs.declared.Patch.{Patch}
use Rattle.descriptor_run.specs.Cells.{used_at, samples_of, reads_of}

-- (r, c) is a cell of the window, and used
pub record Used (t : Patch) (r c : ℕ) : Type 0 where
  pub top : first_in t.py t.radius ≤ r
  pub bottom : r < past_in t.py t.radius t.size.height
  pub left : first_in t.px t.radius ≤ c
  pub right : c < past_in t.px t.radius t.size.width
  pub used : used_at t r c ≡ true

pub record UsedRule : Type 0 where
  -- where all that is read is good, so are the neighbours of each used cell
  pub reads : (img : List Float) (t : Patch) → all_good (reads_of img t) ≡ true → (r c : ℕ) → Used t r c → all_good (four_at img t.size.width r c) ≡ true
  -- and each sample is fair
  pub samples : (img : List Float) (t : Patch) → all_good (reads_of img t) ≡ true → Each Fair (samples_of img t)
