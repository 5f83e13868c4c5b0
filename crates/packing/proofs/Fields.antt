-- What the fields of a bit pattern say of the value, and what tells a finite float. Assumes nothing.
use mathlib.Core.Path.{◌≡◌, refl, sym, ap, ◌∙◌, subst}
use Prim.Native.Nat.{ℕ, suc, ◌+◌, ◌*◌, ◌/◌, ◌%◌, ◌^◌}
use mathlib.Core.Bool.{Bool, true, false, not, cond, false≢true}
use lib.Dec.{T, leb, eqb}
use lib.Ieee.{Float, nan, inf, fin, Format, prec, low, odd, of_fields, of_bits, to_bits, fits, is_nan, hid, ones, top}
use lib.Ieee.Exact.{HasValue, odd_sign}
use lib.Ieee.Scale.{finite}
use lib.Ieee.Fits.{eq→eqb}
use lib.Ieee.Bits.{of_bits-to_bits, is_true}
use Rattle.std.specs.Float.{float_is_finite}

pub of_bits_is : (f : Format) (b : ℕ) → of_bits f b ≡ of_fields f (leb (top f) b) (b % top f / hid f) (b % hid f)
unfolding of_bits
of_bits_is f b = refl

-- by the tests that `of_fields` makes
split : (f : Format) (s : Bool) (t : ℕ) (v : Float) (a b : Bool) → finite (cond a (cond b (inf s) nan) v) ≡ true → a ≡ false
split f s t v true true h = absurd (false≢true h)
split f s t v true false h = absurd (false≢true h)
split f s t v false b h = refl

-- a finite value has a field below the highest
field_lt : (f : Format) (s : Bool) (x t : ℕ) → finite (of_fields f s (suc x) t) ≡ true → eqb (suc x) (ones f) ≡ false
unfolding of_fields
field_lt f s x t h = split f s t (odd (prec f) s (hid f + t) x (low f)) (eqb (suc x) (ones f)) (eqb t 0) h

pub normal_is : (f : Format) (s : Bool) (x t : ℕ) → eqb (suc x) (ones f) ≡ false → of_fields f s (suc x) t ≡ odd (prec f) s (hid f + t) x (low f)
unfolding of_fields
normal_is f s x t h = ap (λ (b : Bool). cond b (cond (eqb t 0) (inf s) nan) (odd (prec f) s (hid f + t) x (low f))) h

low_is : (f : Format) (s : Bool) (t : ℕ) → of_fields f s 0 t ≡ odd (prec f) s t 0 (low f)
unfolding of_fields
low_is f s t = refl

-- ---- the value of a pattern, by its exponent's field
module _ (f : Format) (v : Float) (h : T (fits f v)) (n : finite v ≡ true) where
  value : of_fields f (leb (top f) (to_bits f v)) (to_bits f v % top f / hid f) (to_bits f v % hid f) ≡ v
  value = sym (of_bits_is f (to_bits f v)) ∙ of_bits-to_bits f v h

  pub value_low : to_bits f v % top f / hid f ≡ 0 → HasValue v (leb (top f) (to_bits f v)) (to_bits f v % hid f * 2 ^ 0) (2 ^ low f)
  value_low e =
      subst (λ (x : Float). HasValue x (leb (top f) (to_bits f v)) (to_bits f v % hid f * 2 ^ 0) (2 ^ low f))
      (sym (low_is f (leb (top f) (to_bits f v)) (to_bits f v % hid f)) ∙ ap (λ (x : ℕ). of_fields f (leb (top f) (to_bits f v)) x (to_bits f v % hid f)) (sym e) ∙ value)
      (odd_sign (prec f) (leb (top f) (to_bits f v)) (to_bits f v % hid f) 0 (low f))

  at_suc : (x : ℕ) → to_bits f v % top f / hid f ≡ suc x → eqb (suc x) (ones f) ≡ false
  at_suc x e = field_lt f (leb (top f) (to_bits f v)) x (to_bits f v % hid f) (ap finite (ap (λ (y : ℕ). of_fields f (leb (top f) (to_bits f v)) y (to_bits f v % hid f)) (sym e) ∙ value) ∙ n)

  pub value_normal : (x : ℕ) → to_bits f v % top f / hid f ≡ suc x → HasValue v (leb (top f) (to_bits f v)) ((hid f + to_bits f v % hid f) * 2 ^ x) (2 ^ low f)
  value_normal x e =
      subst (λ (y : Float). HasValue y (leb (top f) (to_bits f v)) ((hid f + to_bits f v % hid f) * 2 ^ x) (2 ^ low f))
      (sym (normal_is f (leb (top f) (to_bits f v)) x (to_bits f v % hid f) (at_suc x e)) ∙ ap (λ (y : ℕ). of_fields f (leb (top f) (to_bits f v)) y (to_bits f v % hid f)) (sym e) ∙ value)
      (odd_sign (prec f) (leb (top f) (to_bits f v)) (hid f + to_bits f v % hid f) x (low f))

pub finite_no_nan : (v : Float) → finite v ≡ true → T (not (is_nan v))
unfolding is_nan
finite_no_nan nan h = absurd (false≢true h)
finite_no_nan (inf s) h = tt
finite_no_nan (fin s m e) h = tt

-- what the library's test tells
pub finite_is : (v : Float) → float_is_finite v ≡ finite v
unfolding float_is_finite
finite_is nan = refl
finite_is (inf s) = refl
finite_is (fin s m e) = refl

pub field_ne : (f : Format) (v : Float) → T (fits f v) → finite v ≡ true → (x : ℕ) → to_bits f v % top f / hid f ≡ suc x → suc x ≡ ones f → ⊥
field_ne f v h n x e z = false≢true (sym (at_suc f v h n x e) ∙ is_true (eqb (suc x) (ones f)) (eq→eqb z))
