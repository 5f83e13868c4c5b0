-- Where all that is read is level, each sample has no slope; and four neighbours are read for each sample. Assumes nothing.
use Prim.Native.Nat.{ℕ, zero, suc, ◌+◌, ◌-◌, ◌*◌, ◌<◌, ◌≤◌}
use mathlib.Core.Path.{◌≡◌, refl, sym, ap, ◌∙◌, subst}
use mathlib.Core.Bool.{Bool, true, cond}
use mathlib.Core.Logic.{⊎_elim}
use mathlib.Core.List.{List, [], ◌∷◌, ◌++◌}
use native.Mathlib.Nat.{eq-or-lt_of_le, le_of_suc-le-suc}
use native.Mathlib.Numerals.{add-one}
use native.Mathlib.Omega.{arith}
use lib.ListN.{length, length-append, get_or-append}
use lib.Seq.{get_or-append-add}
use lib.IntN.{pos, ◌-ℤ◌}
use lib.Ieee.{Float, binary32, nan, of_bits, neg, le}
use lib.Ieee.Scale.{finite}
use Rattle.lists.proofs.Bools.{and_both}
use Rattle.ieee.specs.F32.{◌=ᶠ◌}
use Rattle.ieee.specs.Numbers.{nought}
use Rattle.ieee_laws.proofs.Monotone.{nil}
use Rattle.ieee_laws.proofs.Level.{sub_level}
use Rattle.ieee_laws.proofs.Bounds.{bounds_finite}
use Rattle.lists.specs.Ranges.{joined}
use Rattle.lists.proofs.Ranges.{joined_more}
use Rattle.lists.proofs.Both.{both_when, both_joined}
use Rattle.params.specs.Limits.{sample_limit}
use Rattle.params.specs.Table.{good_sample, all_good}
use Rattle.picture.specs.Picture.{pixel, slope_at, four_at, first_in, past_in}
use Rattle.descriptor_patch.specs.Patch.{grid_at, sample_at}
use Rattle.descriptor_run.specs.Cells.{ends_of, in_run, used_at, over_cells, samples_of, reads_of}
use Rattle.descriptor_run.specs.Rules.{Used}
use Rattle.descriptor_patch.specs.declared.Patch.{Patch}
use Rattle.descriptor.specs.Nothing.{Level}

-- ---- a part of what is level is level
level_front : (a b : List Float) → Level (a ++ b) → Level a
level_front a b s i j h k =
    rw (get_or-append a b nan i h, get_or-append a b nan j k) at (s i j (rw length-append (omega arith)) (rw length-append (omega arith)))

level_back : (a b : List Float) → Level (a ++ b) → Level b
level_back a b s i j h k =
    rw (get_or-append-add a b i nan, get_or-append-add a b j nan) at (s (length a + i) (length a + j) (rw length-append (omega arith)) (rw length-append (omega arith)))

level_part : (lo hi i : ℕ) (f : ℕ → List Float) → lo ≤ i → i < hi → Level (joined lo hi f) → Level (f i)
level_part lo zero i f a b s = absurd (omega arith)
level_part lo (suc hi) i f a b s =
    let l : lo ≤ hi = omega arith in
    let t : Level (joined lo hi f ++ f hi) = subst Level (ap (λ (n : ℕ). joined lo n f) (sym (add-one hi)) ∙ joined_more lo hi f l) s in
    ⊎_elim
    (λ e. subst (λ (n : ℕ). Level (f n)) (sym e) (level_back (joined lo hi f) (f hi) t))
    (λ m. level_part lo hi i f a m (level_front (joined lo hi f) (f hi) t))
    (eq-or-lt_of_le (le_of_suc-le-suc b))

pub used_grid : (t : Patch) (r c : ℕ) → used_at t r c ≡ true → grid_at t r c ≡ true
unfolding used_at
used_grid t r c e = (and_both (in_run (ends_of t r) (pos c -ℤ pos t.px)) (grid_at t r c) e).1

-- ---- no slope
nought_is : nought ≡ nil
unfolding of_bits
nought_is = refl

limits : (finite (neg sample_limit) ≡ true) × (finite sample_limit ≡ true)
unfolding of_bits neg
limits = (refl, refl)

good_finite : (v : Float) → good_sample v ≡ true → finite v ≡ true
good_finite v g =
    let b = and_both (le (neg sample_limit) v) (le v sample_limit) g in
    bounds_finite (record { from = limits.0; to = limits.1; low = b.0; high = b.1 })

module _ (img : List Float) (t : Patch) where
  level_used : Level (reads_of img t) → (r c : ℕ) → Used t r c → Level (four_at img t.size.width r c)
  unfolding reads_of over_cells
  level_used s r c u =
      let row : Level (joined (first_in t.px t.radius) (past_in t.px t.radius t.size.width) (λ c. cond (used_at t r c) (four_at img t.size.width r c) [])) =
      level_part (first_in t.py t.radius) (past_in t.py t.radius t.size.height) r _ u.top u.bottom s in
      let cell : Level (cond (used_at t r c) (four_at img t.size.width r c) []) =
      level_part (first_in t.px t.radius) (past_in t.px t.radius t.size.width) c (λ c. cond (used_at t r c) (four_at img t.size.width r c) []) u.left u.right row in
      subst (λ (b : Bool). Level (cond b (four_at img t.size.width r c) [])) u.used cell

  -- about a used cell of a level patch: the differences of its neighbours are zeros
  pub no_slope : Level (reads_of img t) → (r c : ℕ) → Used t r c → all_good (four_at img t.size.width r c) ≡ true
      → (((sample_at img t r c).dx =ᶠ nought) ≡ true) × (((sample_at img t r c).dy =ᶠ nought) ≡ true)
  unfolding four_at all_good sample_at slope_at
  no_slope s r c u g =
      let w = t.size.width in
      let f = level_used s r c u in
      let a = and_both (good_sample (pixel img w r (c + 1))) _ g in
      let b = and_both (good_sample (pixel img w r (c - 1))) _ a.1 in
      let d = and_both (good_sample (pixel img w (r - 1) c)) _ b.1 in
      (rw nought_is (sub_level binary32 (pixel img w r (c + 1)) (pixel img w r (c - 1)) (good_finite _ a.0) (f 0 1 (omega arith) (omega arith))), rw nought_is (sub_level binary32 (pixel img w (r - 1) c) (pixel img w (r + 1) c) (good_finite _ d.0) (f 2 3 (omega arith) (omega arith))))

-- ---- four for one
-- two lists of which the first is four times as long
module _ {A B : Type 0} where
  abbrev FourFor : List A → List B → Type 0
  FourFor x y = length x ≡ 4 * length y

  four_append : (a a' : List A) (b b' : List B) → FourFor a b → FourFor a' b' → FourFor (a ++ a') (b ++ b')
  four_append a a' b b' p q = simp length-append (omega (arith, p, q))

pub read : (img : List Float) (t : Patch) → length (reads_of img t) ≡ 4 * length (samples_of img t)
unfolding reads_of samples_of over_cells four_at
read img t =
    both_joined FourFor refl four_append _ _ _ _
    (λ r _ _. both_joined FourFor refl four_append _ _ _ _ (λ c _ _. both_when FourFor refl (used_at t r c) (four_at img t.size.width r c) (sample_at img t r c ∷ []) (λ _. refl)))
