-- What the descriptor answers to what orientation made of a sound keypoint, on a picture of its octave's size. Assumes nothing.
use Prim.Native.Nat.{ℕ, zero, suc, ◌+◌, ◌*◌, ◌<◌, ◌≤◌}
use native.Mathlib.Omega.{arith}
use mathlib.Core.Path.{◌≡◌, refl, sym, ap, ◌∙◌, subst}
use mathlib.Core.Bool.{Bool, true, false, cond}
use mathlib.Core.List.{List, [], ◌++◌}
use borrow.Author.Tests.{leb-true}
use lib.Dec.{leb}
use lib.IntN.{pos}
use lib.ListN.{length, get_or}
use lib.Ieee.{Float, nan}
use lib.Ieee.Scale.{finite}
use Rattle.ieee_laws.proofs.Order.{lt_le}
use Rattle.ieee.specs.F32.{◌⊗◌}
use Rattle.ieee.specs.Numbers.{nought, whole_turn}
use Rattle.lists.specs.Ranges.{joined}
use Rattle.params.specs.Limits.{max_side, max_octave}
use Rattle.params.specs.Table.{all_good, within}
use Rattle.params.specs.declared.Settings.{Settings}
use Rattle.params.proofs.Bools.{or_neither}
use Rattle.picture.specs.Picture.{four_at, first_in, past_in}
use Rattle.picture.specs.declared.Size.{Size}
use Rattle.samples.proofs.Runs.{good_append, good_four}
use Rattle.detect_keypoint.specs.Sound.{Sound}
use Rattle.detect_keypoint.specs.declared.RawKeypoint.{RawKeypoint}
use Rattle.orient_words.specs.Oriented.{oriented_of}
use Rattle.orient_words.specs.declared.OrientedKeypoint.{OrientedKeypoint}
use Rattle.orient.specs.Entry.{oriented_list}
use Rattle.orient.specs.Rules.{Passed}
use Rattle.orient.proofs.Rules.{orient_rule}
use Rattle.orient_laws.specs.Rules.{Turn}
use Rattle.descriptor_inputs.specs.Inputs.{shrink_of, given_of, inputs_of, Inputs}
use Rattle.descriptor_inputs.specs.Rules.{Taken}
use Rattle.descriptor_inputs.proofs.Rules.{input_rule}
use Rattle.descriptor_patch.specs.Patch.{cell_of}
use Rattle.descriptor_run.specs.Cells.{used_at, over_cells, reads_of}
use Rattle.descriptor_patch.specs.declared.Patch.{Patch}
use Rattle.descriptor_words.specs.Words.{turn_at}
use Rattle.picture.specs.declared.Spot.{Spot}
use Rattle.descriptor.specs.Place.{on_side, spot_wrong, turn_wrong}
use Rattle.descriptor.specs.Entry.{fault_of}
use Rattle.descriptor.specs.Rules.{Inside}
use Rattle.descriptor.proofs.Checks.{fault_sample, fault_none}
use Rattle.descriptor.proofs.Rules.{descriptor_rule}
use Rattle.road.specs.Road.{spot_of}
use Rattle.road.specs.Rules.{six_unless}
use Rattle.road.proofs.Record.{above}
use Rattle.road.proofs.Oriented.{sides_right}
use Rattle.road.proofs.Position.{position_finite, position_on}

-- ---- what is read is good

good_joined : (lo hi : ℕ) (f : ℕ → List Float) → ((i : ℕ) → lo ≤ i → i < hi → all_good (f i) ≡ true) → all_good (joined lo hi f) ≡ true
unfolding joined all_good
good_joined lo zero f h = refl
good_joined lo (suc hi) f h =
    go (leb lo hi) refl (good_joined lo hi f (λ i a b. h i a (omega (arith, b))))
  where
    go : (b : Bool) → leb lo hi ≡ b → all_good (joined lo hi f) ≡ true → all_good (cond b (joined lo hi f ++ f hi) []) ≡ true
    go false e g = refl
    go true e g = good_append (joined lo hi f) (f hi) ∙ rw (g, h hi (leb-true lo hi e) (omega arith))

good_cond : (b : Bool) (xs : List Float) → all_good xs ≡ true → all_good (cond b xs []) ≡ true
unfolding all_good
good_cond true xs h = h
good_cond false xs h = refl

from_first : (at radius r : ℕ) → first_in at radius ≤ r → 1 ≤ r
from_first at radius r l = omega (arith, l)

before_past : (at radius side r : ℕ) → r < past_in at radius side → r + 1 < side
before_past at radius side r l = omega (arith, l)

module _ (img : List Float) (good : all_good img ≡ true) where
  pub reads_good : (t : Patch) → length img ≡ t.size.height * t.size.width → all_good (reads_of img t) ≡ true
  unfolding reads_of over_cells
  reads_good t whole =
      good_joined (first_in t.py t.radius) (past_in t.py t.radius t.size.height) _ (λ r a b.
      good_joined (first_in t.px t.radius) (past_in t.px t.radius t.size.width) _ (λ c d e.
      good_cond (used_at t r c) (four_at img t.size.width r c)
      (good_four img t.size r c good (record {
        whole = whole;
        up = from_first t.py t.radius r a;
        down = before_past t.py t.radius t.size.height r b;
        left = from_first t.px t.radius c d;
        right = before_past t.px t.radius t.size.width c e;
      }))))

-- ---- an oriented keypoint of a sound one

pub passed_is : (k : RawKeypoint) (o : OrientedKeypoint) → Passed k o → o ≡ oriented_of k o.angle
passed_is k o p = rw (← p.x, ← p.y, ← p.size, ← p.response, ← p.octave) refl

module _ (img : List Float) (z : Size) (octave : ℕ) (s : Settings) (k : RawKeypoint) (wide : z.width ≤ max_side) (high : z.height ≤ max_side) (low : octave ≤ max_octave) (good : Sound z.width z.height s octave k) (i : ℕ) (l : i < length (oriented_list img z k)) where
  abbrev given : OrientedKeypoint
  given = get_or (oriented_list img z k) i (oriented_of k nan)

  passed : Passed k given
  passed = orient_rule.passed img z k i l

  module _ (turn : Turn given.angle) where
    turn_in : within nought whole_turn given.angle ≡ true
    turn_in = rw (turn.least, lt_le given.angle whole_turn turn.below)

    taken : Taken given octave
    taken = subst (λ (o : OrientedKeypoint). Taken o octave) (sym (passed_is k given passed)) (input_rule.taken z octave s k given.angle low good turn_in)

    abbrev inputs : Inputs
    inputs = inputs_of given (pos octave)

    pub number_given : inputs.number ≡ 0
    unfolding given_of
    number_given = ap (λ (z : Inputs). z.number) taken.given

    x_is : inputs.x ≡ k.x ⊗ shrink_of octave
    unfolding given_of
    x_is = ap (λ (z : Inputs). z.x) taken.given ∙ ap (λ (z : Float). z ⊗ shrink_of octave) passed.x

    y_is : inputs.y ≡ k.y ⊗ shrink_of octave
    unfolding given_of
    y_is = ap (λ (z : Inputs). z.y) taken.given ∙ ap (λ (z : Float). z ⊗ shrink_of octave) passed.y

    inside : Inside z (spot_of inputs)
    inside = record {
      x_ends = ap finite x_is ∙ position_finite k.cc octave z.width k.x good.left good.right wide low good.x_near good.x_number.ends (above k.x good.x_above);
      y_ends = ap finite y_is ∙ position_finite k.rr octave z.height k.y good.top good.bottom high low good.y_near good.y_number.ends (above k.y good.y_above);
      column = ap (λ (v : Float). on_side z.width (cell_of v)) x_is ∙ position_on k.cc octave z.width k.x good.left good.right wide low good.x_near good.x_number.ends (above k.x good.x_above);
      row = ap (λ (v : Float). on_side z.height (cell_of v)) y_is ∙ position_on k.rr octave z.height k.y good.top good.bottom high low good.y_near good.y_number.ends (above k.y good.y_above);
    }

    abbrev spot : Spot
    spot = spot_of inputs

    abbrev reads : List Float
    reads = reads_of img (turn_at z spot)

    -- only a bad sample that is read is refused
    pub describe_answers : length img ≡ z.height * z.width → fault_of img z spot ≡ six_unless (all_good reads)
    describe_answers whole = go (all_good reads) refl
      where
        apart : (spot_wrong z spot ≡ false) × (turn_wrong spot ≡ false)
        apart = or_neither (spot_wrong z spot) (turn_wrong spot) (descriptor_rule.accepted z spot inside taken.scale taken.angle)

        go : (b : Bool) → all_good reads ≡ b → fault_of img z spot ≡ six_unless b
        go true e = sym (fault_none z spot img (sides_right z.width z.height octave s k wide high good) whole apart.0 apart.1 e)
        go false e = sym (fault_sample z spot img (sides_right z.width z.height octave s k wide high good) whole apart.0 apart.1 e)
