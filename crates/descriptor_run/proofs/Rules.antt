-- The laws of the used cells and their samples that specs/Rules.antt states. Assumes nothing.
use Prim.Native.Nat.{ℕ, zero, suc, ◌<◌, ◌≤◌}
use mathlib.Core.Path.{◌≡◌, sym, ap, ◌∙◌}
use mathlib.Core.Bool.{true, ◌&&◌}
use mathlib.Core.List.{List}
use mathlib.Core.Logic.{⊎_elim}
use native.Mathlib.Nat.{eq-or-lt_of_le, le_of_suc-le-suc}
use native.Mathlib.Numerals.{add-one}
use native.Mathlib.Omega.{arith}
use lib.IntN.{pos, ◌-ℤ◌}
use lib.Ieee.{Float}
use Rattle.lists.proofs.Bools.{and_both}
use Rattle.lists.specs.Ranges.{joined}
use Rattle.lists.proofs.Ranges.{joined_more}
use Rattle.lists.specs.Each.{Each}
use Rattle.lists.proofs.Each.{each_one, each_when, each_joined}
use Rattle.params.specs.Table.{all_good}
use Rattle.picture.specs.Picture.{four_at}
use Rattle.samples.proofs.Runs.{good_append}
use Rattle.descriptor_patch.specs.Patch.{grid_at, sample_at}
use Rattle.descriptor_patch.specs.Rules.{Fair}
use Rattle.descriptor_patch.specs.declared.Patch.{Patch}
use Rattle.descriptor_patch.specs.declared.Sample.{Sample}
use Rattle.descriptor_patch.proofs.Rules.{fair}
use Rattle.descriptor_run.specs.Cells.{in_run, ends_of, used_at, samples_of, reads_of, over_cells}
use Rattle.descriptor_run.specs.Rules.{Used, UsedRule}

-- what is shown of the sample of each used cell holds of all samples
pub each : (P : Sample → Type 0) (img : List Float) (t : Patch) → ((r c : ℕ) → Used t r c → P (sample_at img t r c)) → Each P (samples_of img t)
unfolding samples_of over_cells
each P img t k =
    each_joined _ _ _
    (λ r a b. each_joined _ _ _ (λ c d e. each_when (used_at t r c) _ (λ u. each_one (k r c (record { top = a; bottom = b; left = d; right = e; used = u })))))

-- ---- what is read

pub good_part : (lo hi i : ℕ) (f : ℕ → List Float) → all_good (joined lo hi f) ≡ true → lo ≤ i → i < hi → all_good (f i) ≡ true
good_part lo zero i f g a b = absurd (omega arith)
good_part lo (suc hi) i f g a b =
    let l : lo ≤ hi = omega arith in
    let e : (all_good (joined lo hi f) && all_good (f hi)) ≡ true = sym (good_append (joined lo hi f) (f hi)) ∙ ap all_good (sym (joined_more lo hi f l)) ∙ rw (add-one hi) g in
    let p = and_both (all_good (joined lo hi f)) (all_good (f hi)) e in
    ⊎_elim (λ q. rw q p.1) (λ m. good_part lo hi i f p.0 a m) (eq-or-lt_of_le (le_of_suc-le-suc b))

reads : (img : List Float) (t : Patch) → all_good (reads_of img t) ≡ true → (r c : ℕ) → Used t r c → all_good (four_at img t.size.width r c) ≡ true
unfolding reads_of over_cells
reads img t g r c u =
    let a = good_part _ _ r _ g u.top u.bottom in
    let b = good_part _ _ c _ a u.left u.right in
    rw u.used at b

samples : (img : List Float) (t : Patch) → all_good (reads_of img t) ≡ true → Each Fair (samples_of img t)
unfolding used_at
samples img t g =
    each Fair img t
    (λ r c u. fair img t r c (and_both (in_run (ends_of t r) (pos c -ℤ pos t.px)) (grid_at t r c) u.used).1 (reads img t g r c u))

pub used_rule : UsedRule
used_rule = record { reads = reads; samples = samples }
