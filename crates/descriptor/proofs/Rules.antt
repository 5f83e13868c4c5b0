-- The laws of the descriptor that specs/Rules.antt states. Assumes nothing.
use Prim.Native.Nat.{ℕ, ◌<◌}
use mathlib.Core.Path.{◌≡◌}
use mathlib.Core.Bool.{true, false, ◌||◌}
use mathlib.Core.List.{List}
use lib.ListN.{get_or}
use lib.Ieee.{Float, nan}
use Rattle.lists.proofs.Each.{each_weaker}
use Rattle.ieee.specs.Numbers.{nought, whole_turn}
use Rattle.params.specs.Limits.{value_count, scale_low, scale_high}
use Rattle.params.specs.Table.{within}
use Rattle.picture.specs.declared.Size.{Size}
use Rattle.hal_turn.specs.Turn.{in_turn}
use Rattle.descriptor_run.specs.Cells.{samples_of}
use Rattle.descriptor_patch.specs.Rules.{Fair}
use Rattle.descriptor_run.proofs.Rules.{used_rule}
use Rattle.descriptor_patch.specs.declared.Sample.{Sample}
use Rattle.descriptor_patch.specs.declared.Patch.{Patch}
use Rattle.descriptor_grid.specs.Grid.{gathered}
use Rattle.descriptor_laws.specs.GridRules.{Counts}
use Rattle.descriptor_laws.proofs.GridRules.{grid_rule}
use Rattle.descriptor_laws.specs.ValuesRules.{Byte}
use Rattle.descriptor_laws.proofs.ValuesRules.{value_rule}
use Rattle.descriptor_words.specs.Words.{turn_at, values_at}
use Rattle.descriptor_words.specs.Accepted.{Ready}
use Rattle.picture.specs.declared.Spot.{Spot}
use Rattle.descriptor_words.proofs.Filled.{in_turn_lem}
use Rattle.descriptor.specs.Place.{spot_wrong, turn_wrong}
use Rattle.descriptor.specs.Entry.{fault_of}
use Rattle.descriptor.specs.Rules.{Inside, DescriptorRule}
use Rattle.descriptor.proofs.Checks.{fault_fine}

accepted : (s : Size) (p : Spot) → Inside s p → within scale_low scale_high p.scale ≡ true → within nought whole_turn p.angle ≡ true → (spot_wrong s p || turn_wrong p) ≡ false
unfolding spot_wrong turn_wrong
accepted s p i scale angle = rw (i.x_ends, i.y_ends, i.column, i.row, scale, angle)

-- ---- each sample counts
pub counts_of : (angle : Float) (s : Sample) → in_turn angle ≡ true → Fair s → Counts angle s
counts_of angle s t f = record { lands = record { row = f.row; col = f.col; turn = t; slopes = f.slopes }; fall = f.fall }

module _ (img : List Float) (s : Size) (p : Spot) (fine : fault_of img s p ≡ 0) where
  abbrev t : Patch
  t = turn_at s p

  known : Ready img s p
  known = fault_fine s p img fine

  turns : in_turn p.angle ≡ true
  turns = in_turn_lem p.angle known.aimed.angled

  whole : (n : ℕ) → n < value_count → Byte (get_or (values_at img s p) n nan)
  unfolding values_at
  whole n l =
      value_rule.whole (gathered p.angle (samples_of img t))
      (grid_rule.held p.angle (samples_of img t) (each_weaker (λ a f. counts_of p.angle a turns f) (used_rule.samples img t known.good))) n l

pub descriptor_rule : DescriptorRule
descriptor_rule = record { whole = whole; accepted = accepted }
