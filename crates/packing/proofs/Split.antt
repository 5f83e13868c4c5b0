-- What stands in a finite float's pattern is a sign, a significand and an exponent of its value. Assumes nothing.
use mathlib.Core.Path.{◌≡◌, refl, sym, subst}
use mathlib.Core.Bool.{Bool, true, cond}
use Prim.Native.Nat.{ℕ, zero, suc, ◌+◌, ◌-◌, ◌/◌, ◌%◌, ◌^◌, ◌≤◌, ◌<◌}
use native.Mathlib.Nat.{mod-lt, div-lt_iff_lt-mul, mul_comm}
use native.Mathlib.Omega.{arith}
use lib.Dec.{T, leb, eqb, eqb-suc-zero, lit<}
use lib.Pow.{pow_pos}
use lib.Ieee.{Float, Format, binary32, binary64, prec, low, to_bits, fits, hid, ones, top}
use lib.Ieee.Scale.{finite}
use Rattle.packing.specs.Parts.{Splits}
use Rattle.packing.proofs.Fields.{value_low, value_normal, field_ne}

-- the leading digit is the highest of the format's
doubled : (f : Format) (m : ℕ) → m < hid f + hid f → m < 2 ^ prec f
doubled binary32 m h = h
doubled binary64 m h = h

some : (f : Format) → 2 ≤ ones f
some binary32 = omega arith
some binary64 = omega arith

top_pos : (f : Format) → 0 < top f
top_pos binary32 = lit< tt
top_pos binary64 = lit< tt

module _ (f : Format) (v : Float) (h : T (fits f v)) (n : finite v ≡ true) where
  abbrev b : ℕ
  b = to_bits f v

  digits_in : b % hid f < hid f
  digits_in = mod-lt b (pow_pos (prec f - 1))

  field_in : b % top f / hid f < suc (ones f)
  field_in = (div-lt_iff_lt-mul (pow_pos (prec f - 1))).1 (subst (λ (x : ℕ). b % top f < x) (mul_comm (hid f) (suc (ones f))) (mod-lt b (top_pos f)))

  abbrev held : ℕ → ℕ → Type 0
  held m x = Splits (low f) (prec f) (ones f - 2) v (leb (top f) b) m x

  at : (k : ℕ) → b % top f / hid f ≡ k → held (cond (eqb k 0) (b % hid f) (hid f + b % hid f)) (k - 1)
  at zero e = record { value = value_low f v h n e; digits = doubled f (b % hid f) (omega (arith, digits_in)); place = omega arith }
  at (suc k) e =
      let r : held (hid f + b % hid f) k =
      record { value = value_normal f v h n k e; digits = doubled f (hid f + b % hid f) (omega (arith, digits_in)); place = omega (arith, field_in, field_ne f v h n k e, e, some f) } in
      let l : k ≡ suc k - 1 = omega arith in
      subst (λ (t : Bool). held (cond t (b % hid f) (hid f + b % hid f)) (suc k - 1)) (sym (eqb-suc-zero k)) (subst (held (hid f + b % hid f)) l r)

  -- what the code reads off the pattern a
  abbrev Told : ℕ → Type 0
  Told a = (s : Bool) (m x : ℕ)
      → s ≡ leb (top f) a → m ≡ cond (eqb (a % top f / hid f) 0) (a % hid f) (hid f + a % hid f) → x ≡ a % top f / hid f - 1
      → Splits (low f) (prec f) (ones f - 2) v s m x

  told : Told b
  told s m x p q r =
      let e = b % top f / hid f in
      let d = cond (eqb e 0) (b % hid f) (hid f + b % hid f) in
      let signed : Splits (low f) (prec f) (ones f - 2) v s d (e - 1) = subst (λ (y : Bool). Splits (low f) (prec f) (ones f - 2) v y d (e - 1)) (sym p) (at e refl) in
      subst (λ (y : ℕ). Splits (low f) (prec f) (ones f - 2) v s y x) (sym q) (subst (Splits (low f) (prec f) (ones f - 2) v s d) (sym r) signed)

  pub splits : (a : ℕ) → a ≡ b → Told a
  splits a i = subst Told (sym i) told
