-- Nothing and zero, as specs/Nothing.antt states it. Assumes nothing.
use Prim.Native.Nat.{ℕ, zero, suc, ◌*◌, ◌<◌}
use mathlib.Core.Path.{◌≡◌, refl, sym, ap, ◌∙◌}
use mathlib.Core.Bool.{true}
use mathlib.Core.List.{List, [], ◌∷◌, map}
use native.Mathlib.Omega.{arith}
use lib.ListN.{length, replicate}
use lib.Ieee.{Float, of_bits, to_bits}
use Rattle.ieee.specs.F32.{bits_of}
use Rattle.ieee.specs.Numbers.{nought}
use Rattle.hal_turn.specs.Turn.{in_turn}
use Rattle.picture.specs.declared.Size.{Size}
use Rattle.lists.specs.Each.{Each}
use Rattle.params.specs.Limits.{value_count}
use Rattle.descriptor_patch.specs.Patch.{sample_at}
use Rattle.descriptor_run.specs.Cells.{samples_of, reads_of}
use Rattle.descriptor_run.specs.Rules.{Used}
use Rattle.descriptor_patch.proofs.Rules.{fair}
use Rattle.descriptor_run.proofs.Rules.{each, used_rule}
use Rattle.descriptor_patch.specs.declared.Patch.{Patch}
use Rattle.descriptor_grid.specs.Grid.{gathered_in, gathered}
use Rattle.descriptor_laws.specs.GridRules.{Flat}
use Rattle.descriptor_laws.proofs.GridRules.{grid_rule}
use Rattle.descriptor_laws.proofs.ValuesRules.{value_rule}
use Rattle.descriptor_words.specs.Words.{turn_at, values_at, words_at}
use Rattle.descriptor_words.specs.Accepted.{Ready}
use Rattle.picture.specs.declared.Spot.{Spot}
use Rattle.descriptor_words.proofs.Filled.{in_turn_lem}
use Rattle.descriptor.specs.Entry.{fault_of, used_of, described_of, described_out}
use Rattle.descriptor.specs.Nothing.{Level, zeros, Told, NothingRule}
use Rattle.descriptor.proofs.Checks.{fault_fine}
use Rattle.descriptor.proofs.Answers.{answer_done, out_done}
use Rattle.descriptor.proofs.Flat.{used_grid, no_slope, read}
use Rattle.descriptor.proofs.Rules.{counts_of}

nil_of : {A : Type 0} (l : List A) → length l ≡ 0 → l ≡ []
nil_of [] e = refl
nil_of (x ∷ l) e = absurd (omega arith)

above_of : (n : ℕ) → (n ≡ 0 → ⊥) → 0 < n
above_of zero f = absurd (f refl)
above_of (suc n) f = omega arith

map_replicate : {A B : Type 0} (f : A → B) (n : ℕ) (v : A) → map f (replicate n v) ≡ replicate n (f v)
map_replicate f zero v = refl
map_replicate f (suc n) v = ap (λ l. f v ∷ l) (map_replicate f n v)

no_bits : bits_of nought ≡ 0
unfolding of_bits to_bits
no_bits = refl

module _ (img : List Float) (s : Size) (p : Spot) where
  abbrev t : Patch
  t = turn_at s p

  zero_words : values_at img s p ≡ replicate value_count nought → words_at img s p ≡ zeros
  unfolding words_at
  zero_words e = rw (e, map_replicate bits_of value_count nought, no_bits)

  -- ---- no sample
  pub none_zeros : length (samples_of img t) ≡ 0 → values_at img s p ≡ replicate value_count nought
  unfolding values_at gathered gathered_in
  none_zeros e = rw (nil_of (samples_of img t) e) value_rule.zeros

  module _ (fine : fault_of img s p ≡ 0) where
    known : Ready img s p
    known = fault_fine s p img fine

    turns : in_turn p.angle ≡ true
    turns = in_turn_lem p.angle known.aimed.angled

    -- ---- a level patch
    module _ (level : Level (reads_of img t)) where
      flat_at : (r c : ℕ) → Used t r c → Flat p.angle (sample_at img t r c)
      flat_at r c u =
          let four = used_rule.reads img t known.good r c u in
          let z = no_slope img t level r c u four in
          record { counts = counts_of p.angle (sample_at img t r c) turns (fair img t r c (used_grid t r c u.used) four); dx = z.0; dy = z.1 }

      flats : Each (Flat p.angle) (samples_of img t)
      flats = each (Flat p.angle) img t flat_at

      level_zeros : values_at img s p ≡ replicate value_count nought
      unfolding values_at
      level_zeros = rw (grid_rule.flat p.angle (samples_of img t) flats) value_rule.zeros

    -- ---- what is answered and left
    module _ (out : List ℕ) (room : length out ≡ value_count) where
      pub samples_are : used_of (described_of img s p (length out)) ≡ length (samples_of img t)
      samples_are = ap used_of (sym (answer_done img s p fine (length (samples_of img t)) (length out) refl room))

      pub left_is : described_out img s p out ≡ words_at img s p
      left_is = sym (out_done img s p fine (length (samples_of img t)) out (words_at img s p) refl room refl)

      four : length (reads_of img t) ≡ 4 * used_of (described_of img s p (length out))
      four = rw samples_are (read img t)

      only : used_of (described_of img s p (length out)) ≡ 0 → reads_of img t ≡ []
      only z = nil_of (reads_of img t) (omega (arith, four))

      told : Told img s p out
      told =
          record {
            nothing =
                λ e.
                let z : used_of (described_of img s p (length out)) ≡ 0 = omega (arith, four, ap length e) in
                (z, left_is ∙ zero_words (none_zeros (sym samples_are ∙ z)));
            only = only;
            level = λ some l. (above_of _ (λ z. some (only z)), left_is ∙ zero_words (level_zeros l));
            four = four;
          }

pub nothing_rule : NothingRule
nothing_rule = record { told = λ img s p out fine room. told img s p fine out room }
