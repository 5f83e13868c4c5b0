-- The floats that fit a format are its numbers: each finite one has its significand, and each number is a float of either sign. Assumes nothing.
use mathlib.Core.Path.{◌≡◌, sym, ap, ◌∙◌, subst}
use mathlib.Core.Logic.{inl, inr}
use mathlib.Core.Bool.{Bool, false}
use Prim.Native.Nat.{ℕ, suc, ◌+◌, ◌-◌, ◌*◌, ◌^◌, ◌≤◌, ◌<◌}
use native.Mathlib.Nat.{le_trans, le_of_eq, le_of_lt, lt_of_lt_of_le, mul_comm, mul_assoc, pow-suc, eq_of_mul-eq-mul_right, mul-le-mul_left, mul-le-mul_right, mul-lt-mul_of_pos_right}
use native.Mathlib.Omega.{arith}
use lib.Dec.{T}
use lib.IntN.{ℤ}
use lib.Pow.{pow_pos, pow_mono}
use lib.Ieee.{Float, nan, inf, fin, Format, prec, emax, low, up, down, odd, fits}
use lib.Ieee.Fits.{two, down_pos, odd-fits}
use lib.Ieee.Exact.{odd_sign}
use Rattle.lists.proofs.Naturals.{le_or_lt}
use Rattle.ieee.specs.Rounding.{threshold, Number, Significand, Size, Signed, RoundTiesToEven}
use Rattle.ieee.proofs.Meaning.{round_held}
use Rattle.ieee.proofs.Ties.{half}
use Rattle.ieee.proofs.Rounded.{round_ties, last, top_is, size_of, sign_of}

-- ---- the significand of a float: a float that fits is its own rounding
pub record Stored (f : Format) (r : Float) : Type 0 where
  pub c : ℕ
  pub k : ℕ
  pub significand : Significand f c k
  pub size : Size f r (c * 2 ^ k)

pub stored : (f : Format) (s : Bool) (m : ℕ) (e : ℤ) → T (fits f (fin s m e)) → Stored f (fin s m e)
stored f s m e h =
    let r = subst (λ (x : Float). RoundTiesToEven f s (m * up e) (down e) x) (round_held f s m e h) (round_ties f s (m * up e) (down e) (down_pos e)) in
    elim (le_or_lt (threshold f * down e) (m * up e * 2 ^ prec f)) [
      | inl g ↦ absurd (no_inf (r.beyond g))
      | inr g ↦ let w = r.within g in record { c = w.c; k = w.k; significand = w.significand; size = w.size }
    ]
  where
    no_inf : fin s m e ≡ inf s → ⊥
    no_inf e = let z : ◌≡◌ {A = ℕ} 0 1 = cc in omega arith

-- ---- the float of a number
pub record Float_of (f : Format) (s : Bool) (a : ℕ) : Type 0 where
  pub r : Float
  pub held : T (fits f r)
  pub sign : Signed r s
  pub size : Size f r a

pub number_under : (f : Format) (c k : ℕ) → Number f c k → c * 2 ^ k < 2 ^ (low f + suc (emax f))
number_under f c k u =
    let l : k ≤ 2 * emax f - 1 = fewer k (2 * emax f) u.place in
    lt_of_lt_of_le (mul-lt-mul_of_pos_right u.digits (pow_pos k)) (le_trans (mul-le-mul_left (2 ^ prec f) (pow_mono {i = k} {j = last f} l)) (le_of_eq (sym (top_is f))))
  where
    fewer : (k m : ℕ) → k < m → k ≤ m - 1
    fewer k m h = omega arith

pub float_of : (f : Format) (s : Bool) (c k : ℕ) → Number f c k → Float_of f s (c * 2 ^ k)
float_of f s c k u =
    let r = odd (suc (prec f)) s c k (low f) in
    let v = odd_sign (suc (prec f)) s c k (low f) in
    record {
      r = r;
      held = odd-fits f (suc (prec f)) s c k (lt_of_lt_of_le u.digits (pow_mono {i = prec f} {j = suc (prec f)} (omega arith))) (le_of_lt u.digits) (number_under f c k u);
      sign = sign_of r s (c * 2 ^ k) (2 ^ low f) v;
      size = size_of f r s (c * 2 ^ k) v;
    }

-- ---- the significand of a number
pub canonical : (f : Format) (y j : ℕ) → Number f y j → (c : ℕ) × (k : ℕ) × Significand f c k × (c * 2 ^ k ≡ y * 2 ^ j)
canonical f y j u = let w = float_of f false y j u in go w.r w.held w.size
  where
    go : (r : Float) → T (fits f r) → Size f r (y * 2 ^ j) → (c : ℕ) × (k : ℕ) × Significand f c k × (c * 2 ^ k ≡ y * 2 ^ j)
    go nan h z = absurd z
    go (inf t) h z = absurd z
    go (fin t m e) h z = let v = stored f t m e h in (v.c, v.k, v.significand, eq_of_mul-eq-mul_right (down e) (down_pos e) (v.c * 2 ^ v.k) (y * 2 ^ j) (sym v.size ∙ z))

-- ---- the smaller of two numbers has no larger exponent
pub places : (f : Format) (c k y j : ℕ) → Significand f c k → Number f y j → c * 2 ^ k < y * 2 ^ j → k ≤ j
places f c k y j u v h = elim (le_or_lt k j) [
  | inl l ↦ l
  | inr l ↦ elim u.full [
    | inl z ↦ absurd (omega arith)
    | inr g ↦
        (let a : y * 2 ^ j ≤ 2 ^ prec f * 2 ^ j = mul-le-mul_right (2 ^ j) (le_of_lt v.digits) in
        let e : 2 ^ prec f * 2 ^ j ≡ 2 ^ (prec f - 1) * 2 ^ suc j = ap (λ (x : ℕ). x * 2 ^ j) (half (prec f) (two f)) ∙ mul_assoc (2 ^ (prec f - 1)) 2 (2 ^ j) ∙ ap (λ (x : ℕ). 2 ^ (prec f - 1) * x) (mul_comm 2 (2 ^ j) ∙ sym (pow-suc 2 j)) in
        let b : 2 ^ (prec f - 1) * 2 ^ suc j ≤ c * 2 ^ k = le_trans (mul-le-mul_left (2 ^ (prec f - 1)) (pow_mono {i = suc j} {j = k} l)) (mul-le-mul_right (2 ^ k) g) in
        absurd (omega arith))
  ]
]
