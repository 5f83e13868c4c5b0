-- The field in which a header that keeps the rules differs from that of a frame. Assumes nothing.
use Prim.Native.Nat.{ℕ, ◌-◌}
use native.Mathlib.Omega.{arith}
use mathlib.Core.Path.{◌≡◌, refl}
use mathlib.Core.Bool.{true}
use borrow.Author.Tests.{eq-eqb, ne_eqb}
use lib.Dec.{lit<}
use Rattle.sheet.specs.Pack.{slot, sound}
use Rattle.sheet.specs.Layout.{Layout, header_slots, header_values}
use Rattle.sheet.specs.Writes.{frame_of}
use Rattle.sheet.proofs.Packed.{sound_at}
use Rattle.sheet_fields.specs.Fields.{header_list}
use Rattle.sheet_fields.specs.declared.Header.{Header}
use Rattle.audit_compare.specs.Difference.{differs_from, first_difference}

module _ (l : Layout) (h : Header) (width height layers : ℕ) (right : sound (header_slots l) (header_list h) ≡ true) where
  abbrev difference : ℕ
  difference = first_difference (header_values l (frame_of width height layers) h.count) (header_list h)

  -- the fields that a rule fixes
  edition : l.edition ≡ h.edition
  edition = let a = sound_at (header_slots l) (header_list h) (slot 0 0 0) right 0 (lit< tt) in omega arith

  rule : 0 ≡ h.rule
  rule = let a = sound_at (header_slots l) (header_list h) (slot 0 0 0) right 5 (lit< tt) in omega arith

  zero : 0 ≡ h.zero
  zero = let a = sound_at (header_slots l) (header_list h) (slot 0 0 0) right 6 (lit< tt) in omega arith

  pub in_width : (width - 1 ≡ h.width → ⊥) → 2 ≡ difference
  unfolding differs_from
  in_width n = rw (eq-eqb l.edition h.edition edition, ne_eqb (width - 1) h.width n)

  module _ (wide : width - 1 ≡ h.width) where
    pub in_height : (height - 1 ≡ h.height → ⊥) → 3 ≡ difference
    unfolding differs_from
    in_height n = rw (eq-eqb l.edition h.edition edition, eq-eqb (width - 1) h.width wide, ne_eqb (height - 1) h.height n)

    module _ (high : height - 1 ≡ h.height) where
      pub in_layers : (layers ≡ h.layers → ⊥) → 4 ≡ difference
      unfolding differs_from
      in_layers n = rw (eq-eqb l.edition h.edition edition, eq-eqb (width - 1) h.width wide, eq-eqb (height - 1) h.height high, ne_eqb layers h.layers n)

      pub nowhere : layers ≡ h.layers → 0 ≡ difference
      unfolding differs_from
      nowhere deep =
          rw (
            eq-eqb l.edition h.edition edition,
            eq-eqb (width - 1) h.width wide,
            eq-eqb (height - 1) h.height high,
            eq-eqb layers h.layers deep,
            eq-eqb h.count h.count refl,
            eq-eqb 0 h.rule rule,
            eq-eqb 0 h.zero zero,
          )
