-- A loud cell is above the threshold where it is positive, and else below the threshold's negative. Assumes nothing.
use Prim.Native.Nat.{ℕ, ◌*◌, ◌<◌}
use mathlib.Core.Path.{◌≡◌, refl, sym, subst, ◌∙◌}
use mathlib.Core.Bool.{Bool, true, false, ◌&&◌, not}
use mathlib.Core.Logic.{⊎_elim}
use native.Mathlib.Nat.{eq-zero-or-pos, mul-pos, zero-mul}
use native.Mathlib.Omega.{arith}
use borrow.Author.Tests.{ltb-false}
use lib.Dec.{T, ltb}
use lib.IntN.{ℤ}
use lib.Ieee.{Float, nan, inf, fin, up, down, neg, lt, of_bits}
use lib.Ieee.Fits.{up_pos}
use Rattle.ieee.specs.F32.{◌<ᶠ◌, abs_of}
use Rattle.ieee.specs.Numbers.{nought}
use Rattle.ieee_laws.specs.Sign.{turned, Opp, of_nan, of_inf, of_fin}
use Rattle.ieee_laws.specs.Sign as sign
use Rattle.ieee_laws.proofs.Turned.{zero_left, lt_turned, neg_opp}
use Rattle.lists.proofs.Bools.{or_true}
use Rattle.detect_extrema.specs.Neighbours.{loud}
use Rattle.detect_look.specs.Hints.{beyond}

pub clash : {A : Type 0} → false ≡ true → A
clash e = absurd (subst T (sym e) tt)

after_zero : (s : Bool) (m : ℕ) (e : ℤ) → (nought <ᶠ fin s m e) ≡ (not s && ltb 0 (m * up e * 1))
unfolding lt of_bits
after_zero s m e = zero_left false s (0 * down e) (m * up e * 1) (zero-mul (down e))

-- what is positive is its own magnitude
abs_above : (v : Float) → (nought <ᶠ v) ≡ true → abs_of v ≡ v
unfolding abs_of lt of_bits
abs_above nan h = refl
abs_above (inf true) h = clash h
abs_above (inf false) h = refl
abs_above (fin true m e) h = clash (sym (after_zero true m e) ∙ h)
abs_above (fin false m e) h = refl

-- and what is not is its magnitude's negative
abs_under : (v : Float) → (nought <ᶠ v) ≡ false → Opp (abs_of v) v
unfolding abs_of lt of_bits
abs_under nan h = of_nan
abs_under (inf true) h = of_inf refl
abs_under (inf false) h = clash (sym h)
abs_under (fin true m e) h = of_fin (turned refl)
abs_under (fin false m e) h =
    ⊎_elim
    (λ z. of_fin (sign.no_sign z))
    (λ p. let l = ltb-false 0 (m * up e * 1) (sym (after_zero false m e) ∙ h) in
    let g : 0 < m * up e * 1 = mul-pos (mul-pos p (up_pos e)) (omega arith) in absurd (omega arith))
    (eq-zero-or-pos m)

module _ (threshold v : Float) (l : loud threshold v ≡ true) where
  pub loud_above : (nought <ᶠ v) ≡ true → (threshold <ᶠ v) ≡ true
  unfolding loud
  loud_above e = rw (abs_above v e) at l

  pub loud_under : (nought <ᶠ v) ≡ false → (v <ᶠ neg threshold) ≡ true
  unfolding loud
  loud_under e = lt_turned (abs_under v e) (neg_opp threshold) ∙ l

-- what is not beyond the threshold is not loud
pub loud_beyond : (threshold v : Float) → beyond threshold v ≡ false → loud threshold v ≡ false
loud_beyond threshold v e = go (loud threshold v) refl (nought <ᶠ v) refl
  where
    go : (l : Bool) → loud threshold v ≡ l → (u : Bool) → (nought <ᶠ v) ≡ u → l ≡ false
    go false p u q = refl
    go true p true q = rw (loud_above threshold v p q) at e
    go true p false q = rw (loud_under threshold v p q, or_true) at e
