-- The layouts of the editions, and what an edition's value says of its layout. Assumes nothing.
use mathlib.Core.Path.{◌≡◌, refl, sym, ap, ◌∙◌, subst}
use Prim.Native.Nat.{ℕ, ◌+◌, ◌-◌, ◌*◌, ◌^◌, ◌≤◌, ◌<◌}
use native.Mathlib.Omega.{arith}
use borrow.Author.Tests.{ne_eqb}
use lib.Pow.{pow_pos, pow_mono}
use Rattle.sheet.specs.Layout.{edition1, edition2, layout_of, mark_bits, record_size}
use Rattle.sheet.specs.Writes.{frame_of}
use Rattle.sheet.proofs.Lawful.{by_edition, lawful_edition, angled_edition}
use Rattle.sheet.proofs.Runs.{sized}
use Rattle.sheet_edition.specs.Edition.{layout_for}
use Rattle.sheet_edition.specs.declared.Edition.{Edition}

pub layout_two : layout_of 2 ≡ edition2
unfolding layout_of
layout_two = refl

pub layout_other : (n : ℕ) → (n ≡ 2 → ⊥) → layout_of n ≡ edition1
unfolding layout_of
layout_other n h = rw (ne_eqb n 2 h)

-- the layout of a layout's number is that layout
own : (n : ℕ) → layout_of (layout_of n).edition ≡ layout_of n
own = by_edition (λ l. layout_of l.edition ≡ l) own_one own_two
  where
    own_one : layout_of 1 ≡ edition1
    own_one = layout_other 1 (λ e. omega (arith, e))

    own_two : layout_of 2 ≡ edition2
    own_two = layout_two

-- so an edition that was chosen by a number has that number's layout
pub layout_is : (n : ℕ) (e : Edition) → e.number ≡ (layout_of n).edition → layout_for e ≡ layout_of n
layout_is n e h = ap layout_of h ∙ own n

-- the bytes of a record, in each edition
pub size_is : (e : Edition) → record_size (layout_for e) ≡ 154
size_is e = sized (layout_for e) (lawful_edition e.number) (angled_edition e.number) (frame_of 1 1 1)

-- a power of two is not 0
module _ (e : Edition) where
  pub sides_pos : 0 < e.sides
  sides_pos = subst (λ (n : ℕ). 0 < n) (sym e.sides_are) (pow_pos (layout_for e).side)

  pub marks_pos : 0 < e.marks
  marks_pos = subst (λ (n : ℕ). 0 < n) (sym e.marks_are) (pow_pos (mark_bits (layout_for e)))

  pub spare_pos : 0 < e.spare
  spare_pos = subst (λ (n : ℕ). 0 < n) (sym e.spare_is) (pow_pos (32 - (2 * (layout_for e).side + mark_bits (layout_for e))))

  pub spare_low : e.spare ≤ 2 ^ 32
  spare_low = subst (λ (n : ℕ). n ≤ 2 ^ 32) (sym e.spare_is) (pow_mono (le_sub (2 * (layout_for e).side + mark_bits (layout_for e)))) where
    le_sub : (x : ℕ) → 32 - x ≤ 32
    le_sub x = omega arith
