-- What holds of each place of a histogram, and is kept by each share, is kept by a sample and by all samples. Assumes nothing.
use Prim.Native.Nat.{ℕ, ◌+◌, ◌<◌}
use mathlib.Core.Path.{◌≡◌, refl, sym, ap, ◌∙◌, subst}
use mathlib.Core.Bool.{Bool, true, false, ◌&&◌}
use mathlib.Core.List.{List, [], ◌∷◌}
use native.Mathlib.Omega.{arith}
use borrow.Author.Tests.{eqb-true, eqb-false}
use lib.Dec.{eqb}
use lib.ListN.{length, get_or, replicate, length-set, length-replicate, get_or-replicate}
use lib.Seq.{get_or-set_same, get_or-set_other, ext_get_or}
use lib.Ieee.{Float, nan}
use Rattle.ieee.specs.F32.{◌⊕◌}
use Rattle.ieee.specs.Numbers.{nought}
use Rattle.descriptor_patch.specs.declared.Sample.{Sample}
use Rattle.descriptor_values.specs.Places.{places, place}
use Rattle.descriptor_shares.specs.Sharing.{spread_of}
use Rattle.descriptor_grid.specs.Grid.{add_at, pair_at, when, live, scattered, gathered_in}
use Rattle.descriptor_shares.specs.Reach.{Inside}
use Rattle.descriptor_shares.specs.declared.Spread.{Spread}
use Rattle.lists.specs.Each.{Each, none, more}
use Rattle.descriptor_laws.specs.GridRules.{Eight}

-- P of each place
pub record Places (P : Float → Type 0) (h : List Float) : Type 0 where
  pub count : length h ≡ places
  pub each : (i : ℕ) → i < places → P (get_or h i nan)

-- a share that keeps P
pub record Adds (P : Float → Type 0) (a : Float) : Type 0 where
  pub kept : (x : Float) → P x → P (x ⊕ a)

module _ {P : Float → Type 0} where
  add_at_lem : {h : List Float} (i : ℕ) {a : Float} → i < places → Adds P a → Places P h → Places P (add_at h i a)
  add_at_lem {h} i {a} l f p =
      record { count = length-set h i (get_or h i nan ⊕ a) ∙ p.count; each = λ j m. go j m (eqb j i) refl }
    where
      go : (j : ℕ) → j < places → (b : Bool) → eqb j i ≡ b → P (get_or (add_at h i a) j nan)
      go j m true e =
          subst P
          (sym (ap (λ (k : ℕ). get_or (add_at h i a) k nan) (eqb-true j i e) ∙ get_or-set_same h i (get_or h i nan ⊕ a) nan (rw p.count l)))
          (f.kept (get_or h i nan) (p.each i l))
      go j m false e = subst P (sym (get_or-set_other h i j (get_or h i nan ⊕ a) nan (eqb-false j i e))) (p.each j m)

  pair_at_lem : {h : List Float} (i : ℕ) {a b : Float} → i + 1 < places → Adds P a → Adds P b → Places P h → Places P (pair_at h i a b)
  unfolding pair_at
  pair_at_lem i l f g p = add_at_lem (i + 1) l g (add_at_lem i (omega arith) f p)

  when_kept : (t : Bool) {h : List Float} (i : ℕ) {a b : Float} → i + 1 < places → Adds P a → Adds P b → Places P h → Places P (when t h i a b)
  unfolding when
  when_kept true i l f g p = pair_at_lem i l f g p
  when_kept false i l f g p = p

  pub scattered_kept : {h : List Float} (p : Spread) → Inside p → Eight (Adds P) p.shares → Places P h → Places P (scattered h p)
  unfolding scattered
  scattered_kept p i s q =
      let a = i.row in
      let b = i.col in
      let c = i.slot in
      when_kept (live (p.row + 1) && live (p.col + 1)) (place (p.row + 1) (p.col + 1) p.slot) (omega arith) s.v110 s.v111
      (when_kept (live (p.row + 1) && live p.col) (place (p.row + 1) p.col p.slot) (omega arith) s.v100 s.v101
      (when_kept (live p.row && live (p.col + 1)) (place p.row (p.col + 1) p.slot) (omega arith) s.v010 s.v011
      (when_kept (live p.row && live p.col) (place p.row p.col p.slot) (omega arith) s.v000 s.v001 q)))

  -- sample by sample
  pub gathered_kept : {Q : Sample → Type 0} (angle : Float) {h : List Float} {ss : List Sample}
      → ((s : Sample) → Q s → Inside (spread_of angle s) × Eight (Adds P) (spread_of angle s).shares) → Each Q ss → Places P h → Places P (gathered_in angle h ss)
  unfolding gathered_in
  gathered_kept angle f none p = p
  gathered_kept angle {h = h} f (more {x = s} q qs) p =
      let g = f s q in gathered_kept angle {h = scattered h (spread_of angle s)} f qs (scattered_kept (spread_of angle s) g.0 g.1 p)

pub places_of : {P : Float → Type 0} → P nought → Places P (replicate places nought)
places_of {P} p =
    record { count = length-replicate places nought; each = λ i l. subst P (sym (get_or-replicate places i nought nan l)) p }

pub places_same : {h : List Float} → Places (λ x. x ≡ nought) h → h ≡ replicate places nought
places_same {h} p =
    ext_get_or nan h (replicate places nought) (p.count ∙ sym (length-replicate places nought))
    (λ i l. let m : i < places = rw (← p.count) l in p.each i m ∙ sym (get_or-replicate places i nought nan m))

-- ---- the number of places

pair_length : (h : List Float) (i : ℕ) (a b : Float) → length (pair_at h i a b) ≡ length h
unfolding pair_at
pair_length h i a b = simp length-set

when_length : (t : Bool) (h : List Float) (i : ℕ) (a b : Float) → length (when t h i a b) ≡ length h
unfolding when
when_length true h i a b = pair_length h i a b
when_length false h i a b = refl

scattered_length : (h : List Float) (p : Spread) → length (scattered h p) ≡ length h
unfolding scattered
scattered_length h p = simp when_length

pub gathered_length : (angle : Float) (h : List Float) (ss : List Sample) → length (gathered_in angle h ss) ≡ length h
unfolding gathered_in
gathered_length angle h [] = refl
gathered_length angle h (s ∷ ss) = gathered_length angle (scattered h (spread_of angle s)) ss ∙ scattered_length h (spread_of angle s)
