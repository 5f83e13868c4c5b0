-- The laws of a spread and of the histogram that specs/GridRules.antt states. Assumes nothing.
use Prim.Native.Nat.{ℕ, ◌+◌}
use mathlib.Core.Path.{◌≡◌, refl, sym, ◌∙◌, subst}
use mathlib.Core.Bool.{true}
use mathlib.Core.List.{List}
use native.Mathlib.Omega.{arith}
use lib.Dec.{T}
use lib.ListN.{length, replicate, length-replicate}
use lib.Ieee.{Float, binary32, of_bits, sub, mul, le}
use lib.Ieee.Bits.{is_true}
use lib.Ieee.Scale.{finite}
use Rattle.ieee.specs.F32.{◌⊖◌, ◌=ᶠ◌, float_z}
use Rattle.ieee.specs.Numbers.{nought, one}
use Rattle.ieee_laws.proofs.Order.{lt_le}
use Rattle.ieee_laws.proofs.Monotone.{nil}
use Rattle.ieee_laws.proofs.Bounds.{Bounds, bounds_point, sub_bounds}
use Rattle.hal_reach.specs.Reach.{in_angle}
use Rattle.hal.specs.Exp.{in_down, exp_of}
use Rattle.hal_magnitude.specs.Magnitude.{magnitude_of}
use Rattle.hal.specs.Rules.{In}
use Rattle.hal.proofs.Rules.{exp_rule}
use Rattle.hal_magnitude.proofs.Rules.{magnitude_rule}
use Rattle.lists.specs.Each.{Each}
use Rattle.descriptor_patch.specs.declared.Sample.{Sample}
use Rattle.descriptor_values.specs.Places.{places}
use Rattle.descriptor_laws.specs.ValuesRules.{Held}
use Rattle.descriptor_shares.specs.Sharing.{spread_of}
use Rattle.descriptor_grid.specs.Grid.{gathered}
use Rattle.descriptor_shares.specs.Reach.{Lands}
use Rattle.descriptor_shares.specs.declared.Shares.{Shares}
use Rattle.descriptor_shares.specs.declared.Spread.{Spread}
use Rattle.descriptor_shares.proofs.Steps.{lowered, step}
use Rattle.descriptor_shares.proofs.Floors.{Floored}
use Rattle.descriptor_shares.proofs.Spreads.{turn_of, row, col, slot, is_spread, spread_inside}
use Rattle.descriptor_laws.specs.GridRules.{most_share, Eight, Counts, Flat, GridRule}
use Rattle.descriptor_laws.proofs.Parts.{Part, Top, split_product, shares_in}
use Rattle.descriptor_laws.proofs.Sums.{held_add, held_none, none_add}
use Rattle.descriptor_laws.proofs.Places.{Places, gathered_kept, places_of, places_same, gathered_length}

-- ---- how far a number lies past its floor: 0 to 1

one_ended : finite one ≡ true
unfolding of_bits
one_ended = refl

past_bounds : (v : Float) (k : ℕ) → Floored v k → Bounds nil one (v ⊖ float_z (lowered k))
unfolding of_bits
past_bounds v k f =
    let t = f.top in
    let s = step k (omega arith) in
    let u = step (k + 1) (omega arith) in
    let x = float_z (lowered k) in
    let y = float_z (lowered (k + 1)) in
    let b : Bounds x y v = record { from = s.ended; to = u.ended; low = f.low; high = lt_le v y f.high } in
    rw (s.flat, s.gap) at (sub_bounds binary32 (rw s.flat) (rw s.gap one_ended) b (bounds_point x s.ended))

-- ---- the weight and the magnitude

weight_bounds : (x : Float) → in_down x ≡ true → Bounds nil one (exp_of x)
unfolding of_bits
weight_bounds x h =
    let w = exp_rule.within x (subst T (sym h) tt) in
    record { from = refl; to = refl; low = is_true (le nil (exp_of x)) w.least; high = is_true (le (exp_of x) one) w.most }

magnitude_part : (dx dy : Float) → in_angle dx dy ≡ true → Part most_share (magnitude_of dx dy)
unfolding of_bits
magnitude_part dx dy h =
    let w = magnitude_rule.within dx dy (subst T (sym h) tt) in
    record {
      bounds = record { from = refl; to = refl; low = is_true (le nil (magnitude_of dx dy)) w.least; high = is_true (le (magnitude_of dx dy) most_share) w.most };
      held = magnitude_rule.held dx dy;
    }

full_top : Top most_share
unfolding of_bits mul sub le
full_top = record { ended = refl; product = (refl, refl); rest = (refl, (refl, refl)) }

empty_top : Top nil
unfolding of_bits mul sub le
empty_top = record { ended = refl; product = (refl, refl); rest = (refl, (refl, refl)) }

flat_magnitude : (dx dy : Float) → in_angle dx dy ≡ true → (dx =ᶠ nought) ≡ true → (dy =ᶠ nought) ≡ true → magnitude_of dx dy ≡ nil
unfolding of_bits
flat_magnitude dx dy h p q = magnitude_rule.none dx dy (subst T (sym h) tt) (subst T (sym p) tt) (subst T (sym q) tt)

empty_part : (dx dy : Float) → in_angle dx dy ≡ true → (dx =ᶠ nought) ≡ true → (dy =ᶠ nought) ≡ true → Part nil (magnitude_of dx dy)
empty_part dx dy h p q = record { bounds = rw (flat_magnitude dx dy h p q) (bounds_point nil refl); held = magnitude_rule.held dx dy }

-- ---- a sample's shares

spread_parts : (angle : Float) (s : Sample) (l : Lands angle s) {top : Float} → Top top → Part top (magnitude_of s.dx s.dy) → in_down s.fall ≡ true → Eight (Part top) (spread_of angle s).shares
spread_parts angle s l {top} t p h =
    let r = row angle s l in
    let c = col angle s l in
    let o = slot angle s l in
    subst (λ (q : Spread). Eight (Part top) q.shares) (is_spread angle s l)
    (shares_in t (split_product t p (weight_bounds s.fall h)) (past_bounds s.rbin r.at r.is) (past_bounds s.cbin c.at c.is) (past_bounds (turn_of angle s) o.at o.is))

eight_to : {P Q : Float → Type 0} {p : Shares} → ((x : Float) → P x → Q x) → Eight P p → Eight Q p
eight_to {p = p} f e =
    record {
      v000 = f p.v000 e.v000;
      v001 = f p.v001 e.v001;
      v010 = f p.v010 e.v010;
      v011 = f p.v011 e.v011;
      v100 = f p.v100 e.v100;
      v101 = f p.v101 e.v101;
      v110 = f p.v110 e.v110;
      v111 = f p.v111 e.v111;
    }

part_in : (x : Float) → Part most_share x → In nought most_share x
unfolding of_bits
part_in x p = record { least = subst T (sym p.bounds.low) tt; most = subst T (sym p.bounds.high) tt }

counted_parts : (angle : Float) (s : Sample) → Counts angle s → Eight (Part most_share) (spread_of angle s).shares
counted_parts angle s c = spread_parts angle s c.lands full_top (magnitude_part s.dx s.dy c.lands.slopes) c.fall

-- ---- the histogram

held_places : (angle : Float) (ss : List Sample) → Each (Counts angle) ss → Places Held (gathered angle ss)
unfolding gathered
held_places angle ss e =
    gathered_kept angle (λ s c. (spread_inside angle s c.lands, eight_to (λ a p. record { kept = λ x h. held_add x a p.bounds h }) (counted_parts angle s c))) e (places_of held_none)

flat_places : (angle : Float) (ss : List Sample) → Each (Flat angle) ss → Places (λ x. x ≡ nought) (gathered angle ss)
unfolding gathered
flat_places angle ss e =
    gathered_kept angle
    (λ s c.
    (spread_inside angle s c.counts.lands, eight_to (λ a p. record { kept = λ x h. none_add x a p.bounds h }) (spread_parts angle s c.counts.lands empty_top (empty_part s.dx s.dy c.counts.lands.slopes c.dx c.dy) c.counts.fall)))
    e (places_of refl)

gathered_count : (angle : Float) (ss : List Sample) → length (gathered angle ss) ≡ places
unfolding gathered
gathered_count angle ss = gathered_length angle (replicate places nought) ss ∙ length-replicate places nought

pub grid_rule : GridRule
grid_rule =
    record {
      inside = spread_inside;
      shares = λ angle s c. eight_to part_in (counted_parts angle s c);
      count = gathered_count;
      held = λ angle ss e. (held_places angle ss e).each;
      flat = λ angle ss e. places_same (flat_places angle ss e);
    }
