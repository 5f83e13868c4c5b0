-- A float gone to a whole number, and that as a signed integer, of a value m * 2 ^ x / 2 ^ 149. Assumes nothing.
use mathlib.Core.Path.{◌≡◌, refl, sym, ap, ◌∙◌}
use Prim.Native.Nat.{ℕ, ◌+◌, ◌-◌, ◌*◌, ◌/◌, ◌^◌, ◌≤◌, ◌<◌}
use native.Mathlib.Nat.{le_of_lt, lt_of_lt_of_le, zero-lt-suc, div-one, mul-one, mul_right_comm, eq_of_mul-eq-mul_right}
use native.Mathlib.Omega.{arith}
use mathlib.Core.Bool.{Bool, true, false}
use lib.Pow.{pow_pos, pow_mono, shl_lt}
use lib.Ieee.{Float, nan, inf, fin, binary32, up, down, round, fits, to_signed}
use lib.Dec.{T}
use lib.Ieee.Fits.{down_pos, round-fits}
use lib.Ieee.Exact.{HasValue, round_exact}
use lib.Ieee.Back.{round_whole, whole_unique}
use lib.Ieee.Nearest.{div_same}
use lib.Ieee.Scale.{finite}
use mathlib.Core.Logic.{inl, inr}
use Rattle.lists.proofs.Naturals.{le_or_lt}
use Rattle.ieee_whole.specs.declared.Way.{Way}
use Rattle.ieee_whole.specs.declared.Way.TheVariants.{Zero}
use Rattle.ieee.specs.Whole.{saturate}
use Rattle.ieee_whole.specs.Parts.{whole_size, whole}
use Rattle.packing.specs.Parts.{Splits}
use Rattle.ieee_whole.proofs.Wholes.{whole_is, whole_other, size_up, size_down, up_cross}
use Rattle.ieee_whole.proofs.Flat.{size_le}
use Rattle.ieee.proofs.Doubled.{Split, split32}

-- `to_signed` is the size cut to a whole number, and then `saturate`
signed_is : (h : ℕ) (v : Float) (s : Bool) (a b : ℕ) → 0 < b → HasValue v s a b → to_signed h v ≡ saturate h s (a / b)
unfolding to_signed
signed_is h nan s a b B e = absurd e
signed_is h (inf t) s a b B e = absurd e
signed_is h (fin t m e) s a b B z = ap (λ (u : Bool). saturate h u (m * up e / down e)) z.0 ∙ ap (λ (k : ℕ). saturate h s k) (div_same (m * up e) (down e) a b (down_pos e) B z.1)

signed_whole : (h : ℕ) (s : Bool) (k : ℕ) → HasValue (round binary32 s k 1) s k 1 → to_signed h (round binary32 s k 1) ≡ saturate h s k
signed_whole h s k e = signed_is h (round binary32 s k 1) s k 1 (zero-lt-suc 0) e ∙ ap (λ (x : ℕ). saturate h s x) (div-one k)

-- ---- from 2 ^ 23 on
in_range : (x : ℕ) → x ≤ 253 → 24 + x ≤ 277
in_range x l = omega arith

module _ (v : Float) (s : Bool) (m x : ℕ) (p : Splits 149 24 253 v s m x) where
  exact : 149 ≤ x → HasValue (round binary32 s (m * 2 ^ (x - 149)) 1) s (m * 2 ^ (x - 149)) 1
  exact l =
      round_exact binary32 s (m * 2 ^ (x - 149)) 1 m x (zero-lt-suc 0) p.digits
      (lt_of_lt_of_le (shl_lt 24 x p.digits) (pow_mono {i = 24 + x} {j = 277} (in_range x p.place)))
      (sym (up_cross m x l))

  value : (v : Float) → HasValue v s (m * 2 ^ x) (2 ^ 149) → 149 ≤ x → HasValue v s (m * 2 ^ (x - 149)) 1
  value nan h l = h
  value (inf t) h l = h
  value (fin t n e) h l = (
    h.0,
    eq_of_mul-eq-mul_right (2 ^ 149) (pow_pos 149) (n * up e * 1) (m * 2 ^ (x - 149) * down e)
        (ap (λ (y : ℕ). y * 2 ^ 149) (mul-one (n * up e))
        ∙ h.1
        ∙ ap (λ (y : ℕ). y * down e) (sym (mul-one (m * 2 ^ x)) ∙ up_cross m x l)
        ∙ mul_right_comm (m * 2 ^ (x - 149)) (2 ^ 149) (down e)),
  )

  itself : T (fits binary32 v) → 149 ≤ x → round binary32 s (m * 2 ^ (x - 149)) 1 ≡ v
  itself h l = whole_unique binary32 (round binary32 s (m * 2 ^ (x - 149)) 1) v s (m * 2 ^ (x - 149)) (round-fits binary32 s (m * 2 ^ (x - 149)) 1) h (exact l) (value v p.value l)

  module _ (w : Way) where
    whole_up : 149 ≤ x → whole w binary32 v ≡ round binary32 s (m * 2 ^ (x - 149)) 1
    whole_up l = whole_is w v s (m * 2 ^ x) p.value ∙ ap (λ (k : ℕ). round binary32 s k 1) (size_up m x w s l)

    -- a float from there on is whole, so that it stays
    pub whole_large : T (fits binary32 v) → 149 ≤ x → v ≡ whole w binary32 v
    whole_large h l = sym (whole_up l ∙ itself h l)

    pub whole_small : x ≤ 149 → round binary32 s (whole_size w s m (2 ^ (149 - x))) 1 ≡ whole w binary32 v
    whole_small l = sym (whole_is w v s (m * 2 ^ x) p.value ∙ ap (λ (k : ℕ). round binary32 s k 1) (size_down m x w s l))

    module _ (h : ℕ) where
      pub cast_large : 149 ≤ x → saturate h s (m * 2 ^ (x - 149)) ≡ to_signed h (whole w binary32 v)
      cast_large l = sym (ap (to_signed h) (whole_up l) ∙ signed_whole h s (m * 2 ^ (x - 149)) (exact l))

      pub cast_small : x ≤ 149 → saturate h s (whole_size w s m (2 ^ (149 - x))) ≡ to_signed h (whole w binary32 v)
      cast_small l = sym (ap (to_signed h) (sym (whole_small l)) ∙ signed_whole h s (whole_size w s m (2 ^ (149 - x))) (round_whole binary32 s (whole_size w s m (2 ^ (149 - x))) (size_le w s m (149 - x) p.digits)))

-- ---- a cast goes toward zero by itself
pub cast_cuts : (h : ℕ) (v : Float) → T (fits binary32 v) → to_signed h (whole Zero binary32 v) ≡ to_signed h v
cast_cuts h v f = go (finite v) refl
  where
    cut : Split v → to_signed h (whole Zero binary32 v) ≡ to_signed h v
    cut k =
        let m = k.m in
        let x = k.x in
        let s = k.s in
        let e : to_signed h v ≡ saturate h s (m * 2 ^ x / 2 ^ 149) = signed_is h v s (m * 2 ^ x) (2 ^ 149) (pow_pos 149) k.parts.value in
        elim (le_or_lt 149 x) [
          | inl l ↦ sym (cast_large v s m x k.parts Zero h l) ∙ ap (saturate h s) (sym (size_up m x Zero s l)) ∙ sym e
          | inr l ↦ sym (cast_small v s m x k.parts Zero h (le_of_lt l)) ∙ ap (saturate h s) (sym (size_down m x Zero s (le_of_lt l))) ∙ sym e
        ]

    go : (b : Bool) → finite v ≡ b → to_signed h (whole Zero binary32 v) ≡ to_signed h v
    go true n = cut (split32 v f n)
    go false n = ap (to_signed h) (sym (whole_other Zero v n))
