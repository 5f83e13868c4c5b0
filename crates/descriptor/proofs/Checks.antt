-- What the checks leave known, and the first fault step by step. Assumes nothing.
use Prim.Native.Nat.{ℕ, ◌*◌, ◌≤◌}
use mathlib.Core.Path.{◌≡◌, refl}
use mathlib.Core.Bool.{Bool, true, false, not, ◌||◌}
use mathlib.Core.List.{List, [], ◌∷◌}
use native.Mathlib.Nat.{mul-le-mul}
use native.Mathlib.Omega.{arith}
use borrow.Author.Tests.{not-false, eq-eqb, eqb-true, ne_eqb}
use lib.Dec.{eqb}
use lib.ListN.{length}
use lib.Ieee.{Float}
use lib.Ieee.Scale.{finite}
use Rattle.lists.proofs.Bools.{and_both}
use Rattle.ieee.specs.Numbers.{nought, whole_turn}
use Rattle.params.specs.Limits.{max_side, scale_low, scale_high}
use Rattle.params.specs.Table.{within, line, first_fault, side_wrong, shape_wrong, length_wrong, all_good}
use Rattle.params.proofs.Bools.{or_neither, in_range}
use Rattle.picture.specs.declared.Size.{Size}
use Rattle.descriptor_patch.specs.Patch.{cell_of}
use Rattle.descriptor_run.specs.Cells.{reads_of}
use Rattle.descriptor_patch.specs.Place.{Sides}
use Rattle.descriptor_words.specs.Words.{turn_at}
use Rattle.descriptor_words.specs.Accepted.{Aimed, Ready}
use Rattle.picture.specs.declared.Spot.{Spot}
use Rattle.descriptor.specs.Place.{on_side, spot_wrong, turn_wrong}
use Rattle.descriptor.specs.Entry.{fault_of}
use Rattle.descriptor.proofs.Cells.{side_cell}

pub sides : (s : Size) → shape_wrong s.width s.height ≡ false → Sides s
unfolding shape_wrong
sides s e =
    let p = or_neither (side_wrong s.width) (side_wrong s.height) e in
    let a = in_range s.width max_side p.0 in
    let b = in_range s.height max_side p.1 in
    record { some_cols = a.0; some_rows = b.0; wide = a.1; high = b.1 }

module _ (s : Size) (p : Spot) where
  abbrev wrong_spot : Bool
  wrong_spot = spot_wrong s p

  abbrev wrong_turn : Bool
  wrong_turn = turn_wrong p

  pub aimed : shape_wrong s.width s.height ≡ false → wrong_spot ≡ false → wrong_turn ≡ false → Aimed s p
  unfolding spot_wrong turn_wrong
  aimed e f g =
      let a = and_both (finite p.x) _ (not-false _ f) in
      let b = and_both (finite p.y) _ a.1 in
      let c = and_both (on_side s.width (cell_of p.x)) (on_side s.height (cell_of p.y)) b.1 in
      let d = and_both (within scale_low scale_high p.scale) (within nought whole_turn p.angle) (not-false _ g) in
      record {
        sides = sides s e;
        column = side_cell s.width (cell_of p.x) c.0;
        row = side_cell s.height (cell_of p.y) c.1;
        sized = d.0;
        angled = d.1;
      }

  -- of what the two tests gave
  pub either_wrong : {a b : Bool} → a ≡ wrong_spot → b ≡ wrong_turn → (a || b) ≡ true → (wrong_spot || wrong_turn) ≡ true
  either_wrong g h e = rw (g, h) at e

  pub neither_wrong : {a b : Bool} → a ≡ wrong_spot → b ≡ wrong_turn → (a || b) ≡ false → (wrong_spot ≡ false) × (wrong_turn ≡ false)
  neither_wrong g h e = or_neither wrong_spot wrong_turn (rw (g, h) at e)

  module _ (img : List Float) where
    abbrev fault : ℕ
    fault = fault_of img s p

    abbrev good : Bool
    good = all_good (reads_of img (turn_at s p))

    pub fault_shape : shape_wrong s.width s.height ≡ true → 1 ≡ fault
    unfolding fault_of first_fault
    fault_shape e = rw e

    module _ (shape : shape_wrong s.width s.height ≡ false) where
      pub size_small : s.height * s.width ≤ max_side * max_side
      size_small = let z = sides s shape in mul-le-mul {n₁ = s.height} {m₁ = s.width} {n₂ = max_side} {m₂ = max_side} z.high z.wide

      pub fault_length : (length img ≡ s.height * s.width → ⊥) → 3 ≡ fault
      unfolding fault_of first_fault length_wrong
      fault_length e = rw (shape, ne_eqb (length img) (s.height * s.width) e)

      module _ (whole : length img ≡ s.height * s.width) where
        pub fault_fields : (wrong_spot || wrong_turn) ≡ true → 5 ≡ fault
        unfolding fault_of first_fault length_wrong
        fault_fields e = rw (shape, eq-eqb (length img) (s.height * s.width) whole, e)

        module _ (lies : wrong_spot ≡ false) where
          module _ (turns : wrong_turn ≡ false) where
            pub fault_sample : good ≡ false → 6 ≡ fault
            unfolding fault_of first_fault length_wrong
            fault_sample e = rw (shape, eq-eqb (length img) (s.height * s.width) whole, lies, turns, e)

            pub fault_none : good ≡ true → 0 ≡ fault
            unfolding fault_of first_fault length_wrong
            fault_none e = rw (shape, eq-eqb (length img) (s.height * s.width) whole, lies, turns, e)

            pub ready : good ≡ true → Ready img s p
            ready e = record { whole = whole; aimed = aimed shape lies turns; good = e }

    -- what a fault of 0 says
    pub fault_fine : fault ≡ 0 → Ready img s p
    unfolding fault_of first_fault length_wrong
    fault_fine e = go (shape_wrong s.width s.height) (eqb (length img) (s.height * s.width)) (wrong_spot || wrong_turn) good refl refl refl refl e
      where
        go : (a b c d : Bool) → shape_wrong s.width s.height ≡ a → eqb (length img) (s.height * s.width) ≡ b → (wrong_spot || wrong_turn) ≡ c → good ≡ d
            → first_fault (line 1 a ∷ line 3 (not b) ∷ line 5 c ∷ line 6 (not d) ∷ []) ≡ 0 → Ready img s p
        go false true false true e f g o z = let k = or_neither wrong_spot wrong_turn g in ready e (eqb-true (length img) (s.height * s.width) f) k.0 k.1 o
        go true b c d e f g o z = absurd (omega arith)
        go false false c d e f g o z = absurd (omega arith)
        go false true true d e f g o z = absurd (omega arith)
        go false true false false e f g o z = absurd (omega arith)
