-- The bit pattern of q * 2 ^ k units of an f32 is k * 2 ^ 23 + q, also where q has been rounded up to 2 ^ 24. Assumes nothing.
use mathlib.Core.Path.{◌≡◌, refl, sym, ap, ◌∙◌, subst}
use mathlib.Core.Logic.{◌⊎◌, inl, inr}
use Prim.Native.Nat.{ℕ, zero, suc, ◌+◌, ◌-◌, ◌*◌, ◌/◌, ◌^◌, ◌≤◌, ◌<◌}
use native.Mathlib.Nat.{le_refl, le_trans, le_of_eq, le_antisymm, le_of_suc-le-suc, le_of_mul-le-mul_right, mul-le-mul_left, lt_irrefl, lt_of_le_of_lt, zero-lt-suc, add_assoc, mul-one, mul-le-mul_right, mul-div_cancel, eq-or-lt_of_le}
use native.Mathlib.Omega.{arith}
use mathlib.Core.Bool.{Bool, true, false, cond}
use lib.IntN.{ℤ, pos}
use lib.Dec.{T, ltb, lt→ltb, lit<}
use lib.Arith.{le→nltb}
use lib.Count.{count_trailing_zeros}
use lib.Pow.{pow-add, pow_pos, pow_mono, pow-lt, shl_lt}
use lib.Ieee.{inf, fin, Format, binary32, prec, low, up, down, minus, size, odd, units, to_bits, of_bits, top, hid}
use lib.Ieee.Digits.{Equals, odd_val, size-le}
use lib.Ieee.Fits.{down_pos, odd-fits}
use lib.Ieee.Bits.{of_bits-to_bits, cond_no}
use Rattle.lists.proofs.Naturals.{le_or_lt}
use Rattle.packing.proofs.Size.{size_exact}

pub cond_yes : {X : Type 0} (b : Bool) (x y : X) → T b → cond b x y ≡ x
cond_yes true x y t = refl
cond_yes false x y t = absurd t

to_bits_is : (f : Format) (s : Bool) (m : ℕ) (e : ℤ) (n : ℕ) → m * up e * 2 ^ low f / down e ≡ n
    → to_bits f (fin s m e) ≡ cond s (top f) 0 + (size n - prec f) * hid f + n / 2 ^ (size n - prec f)
unfolding to_bits
to_bits_is f s m e n p = ap (λ (x : ℕ). cond s (top f) 0 + (size x - prec f) * hid f + x / 2 ^ (size x - prec f)) p

to_bits_val : (f : Format) (s : Bool) (m : ℕ) (e : ℤ) (a : ℕ) → Equals (fin s m e) a (2 ^ low f) → to_bits f (fin s m e) ≡ cond s (top f) 0 + (size a - prec f) * hid f + a / 2 ^ (size a - prec f)
to_bits_val f s m e a h = to_bits_is f s m e a (ap (λ (x : ℕ). x / down e) h ∙ mul-div_cancel a (down_pos e))

to_bits_odd : (f : Format) (d : ℕ) (s : Bool) (q k : ℕ) → to_bits f (odd d s q k (low f)) ≡ cond s (top f) 0 + (size (q * 2 ^ k) - prec f) * hid f + q * 2 ^ k / 2 ^ (size (q * 2 ^ k) - prec f)
unfolding odd
to_bits_odd f d s zero k = to_bits_val f s 0 (pos 0) (0 * 2 ^ k) (odd_val d s zero k (low f))
to_bits_odd f d s (suc q) k = to_bits_val f s (suc q / 2 ^ count_trailing_zeros d (suc q)) (minus (k + count_trailing_zeros d (suc q)) (low f)) (suc q * 2 ^ k) (odd_val d s (suc q) k (low f))

-- ---- the field and the digits, by where q stands
-- q * 2 ^ k has `24 + k` digits, so k of them are dropped
mid : (q k : ℕ) → 2 ^ 23 ≤ q → q < 2 ^ 24 → size (q * 2 ^ k) - 24 ≡ k
mid q k lo hi =
    let e : size (q * 2 ^ k) ≡ suc (23 + k) = size_exact (23 + k) (q * 2 ^ k) (le_trans (le_of_eq (pow-add 2 23 k)) (mul-le-mul_right (2 ^ k) lo)) (subst (λ (x : ℕ). q * 2 ^ k < 2 ^ x) (omega arith) (shl_lt 24 k hi)) in
    omega arith

full : (k : ℕ) → size (2 ^ 24 * 2 ^ k) - 24 ≡ suc k
full k =
    let e : size (2 ^ 24 * 2 ^ k) ≡ suc (24 + k) = size_exact (24 + k) (2 ^ 24 * 2 ^ k) (le_of_eq (pow-add 2 24 k)) (subst (λ (x : ℕ). x < 2 ^ suc (24 + k)) (pow-add 2 24 k) (pow-lt (le_refl (suc (24 + k))))) in
    omega arith

abbrev written : ℕ → ℕ → ℕ → ℕ
written c n k = c + k * 2 ^ 23 + n / 2 ^ k

at_mid : (c q k : ℕ) → written c (q * 2 ^ k) k ≡ c + (k * 2 ^ 23 + q)
at_mid c q k = ap (λ (x : ℕ). c + k * 2 ^ 23 + x) (mul-div_cancel q (pow_pos k)) ∙ add_assoc c (k * 2 ^ 23) q

at_full : (c k : ℕ) → written c (2 ^ 24 * 2 ^ k) (suc k) ≡ c + (k * 2 ^ 23 + 2 ^ 24)
at_full c k =
    let e : 2 ^ 24 * 2 ^ k ≡ 2 ^ 23 * 2 ^ suc k = sym (pow-add 2 24 k) ∙ ap (λ (x : ℕ). 2 ^ x) (omega arith) ∙ pow-add 2 23 (suc k) in
    let d : 2 ^ 24 * 2 ^ k / 2 ^ suc k ≡ 2 ^ 23 = ap (λ (x : ℕ). x / 2 ^ suc k) e ∙ mul-div_cancel (2 ^ 23) (pow_pos (suc k)) in
    omega arith

at_low : (c q : ℕ) → written c (q * 2 ^ 0) 0 ≡ c + (0 * 2 ^ 23 + q)
at_low c q =
    let d : q * 2 ^ 0 / 2 ^ 0 ≡ q = mul-div_cancel q (zero-lt-suc 0) in
    omega arith

low_size : (q : ℕ) → q < 2 ^ 23 → size (q * 2 ^ 0) - 24 ≡ 0
low_size q h =
    let e : size (q * 2 ^ 0) ≤ 23 = size-le (q * 2 ^ 0) 23 (subst (λ (x : ℕ). x < 2 ^ 23) (sym (mul-one q)) h) in
    omega arith

pub odd_bits : (s : Bool) (q k : ℕ) → q ≤ 2 ^ 24 → (k ≡ 0) ⊎ (2 ^ 23 ≤ q) → to_bits binary32 (odd 25 s q k 149) ≡ cond s (top binary32) 0 + (k * 2 ^ 23 + q)
odd_bits s q k hi lo = to_bits_odd binary32 25 s q k ∙ go (le_or_lt (2 ^ 23) q) (eq-or-lt_of_le hi) lo
  where
    go : (2 ^ 23 ≤ q) ⊎ (q < 2 ^ 23) → (q ≡ 2 ^ 24) ⊎ (q < 2 ^ 24) → (k ≡ 0) ⊎ (2 ^ 23 ≤ q) → written (cond s (top binary32) 0) (q * 2 ^ k) (size (q * 2 ^ k) - 24) ≡ cond s (top binary32) 0 + (k * 2 ^ 23 + q)
    go (inl a) (inl b) l =
        subst (λ (y : ℕ). written (cond s (top binary32) 0) (y * 2 ^ k) (size (y * 2 ^ k) - 24) ≡ cond s (top binary32) 0 + (k * 2 ^ 23 + y)) (sym b)
        (ap (written (cond s (top binary32) 0) (2 ^ 24 * 2 ^ k)) (full k) ∙ at_full (cond s (top binary32) 0) k)
    go (inl a) (inr b) l = ap (written (cond s (top binary32) 0) (q * 2 ^ k)) (mid q k a b) ∙ at_mid (cond s (top binary32) 0) q k
    go (inr a) b (inl z) =
        subst (λ (y : ℕ). written (cond s (top binary32) 0) (q * 2 ^ y) (size (q * 2 ^ y) - 24) ≡ cond s (top binary32) 0 + (y * 2 ^ 23 + q)) (sym z)
        (ap (written (cond s (top binary32) 0) (q * 2 ^ 0)) (low_size q a) ∙ at_low (cond s (top binary32) 0) q)
    go (inr a) b (inr l) = absurd (omega arith)

-- ---- `units`
units_fin : (s : Bool) (q k : ℕ) → q * 2 ^ k < 2 ^ 277 → units binary32 s q k ≡ odd 25 s q k 149
unfolding units
units_fin s q k h = cond_yes (ltb (q * 2 ^ k) (2 ^ 277)) (odd 25 s q k 149) (inf s) (lt→ltb (q * 2 ^ k) (2 ^ 277) h)

pub units_inf : (s : Bool) (q k : ℕ) → 2 ^ 277 ≤ q * 2 ^ k → units binary32 s q k ≡ inf s
unfolding units
units_inf s q k h = cond_no (ltb (q * 2 ^ k) (2 ^ 277)) (odd 25 s q k 149) (inf s) (le→nltb (q * 2 ^ k) (2 ^ 277) h)

pub inf_bits : (s : Bool) → of_bits binary32 (cond s (top binary32) 0 + 2139095040) ≡ inf s
unfolding of_bits
inf_bits true = refl
inf_bits false = refl

pub zero_bits : (s : Bool) → of_bits binary32 (cond s (top binary32) 0 + 0) ≡ fin s 0 (pos 0)
unfolding of_bits
zero_bits true = refl
zero_bits false = refl

fin_bits : (s : Bool) (q k : ℕ) → q ≤ 2 ^ 24 → (k ≡ 0) ⊎ (2 ^ 23 ≤ q) → q * 2 ^ k < 2 ^ 277 → of_bits binary32 (cond s (top binary32) 0 + (k * 2 ^ 23 + q)) ≡ units binary32 s q k
fin_bits s q k hi lo h =
    ap (of_bits binary32) (sym (odd_bits s q k hi lo))
    ∙ of_bits-to_bits binary32 (odd 25 s q k 149) (odd-fits binary32 25 s q k (lt_of_le_of_lt hi (lit< tt)) hi h)
    ∙ sym (units_fin s q k h)

-- q and k are the largest where the result is an infinity
over_q : (q k : ℕ) → q ≤ 2 ^ 24 → k < 254 → 2 ^ 277 ≤ q * 2 ^ k → q ≡ 2 ^ 24
over_q q k hi h g =
    let a : 2 ^ 24 * 2 ^ 253 ≤ q * 2 ^ 253 = le_trans g (mul-le-mul_left q (pow_mono (le_of_suc-le-suc h))) in
    le_antisymm hi (le_of_mul-le-mul_right a (pow_pos 253))

over_k : (k : ℕ) → k < 254 → 2 ^ 277 ≤ 2 ^ 24 * 2 ^ k → k ≡ 253
over_k k h g =
    let a : 2 ^ 277 ≤ 2 ^ (24 + k) = le_trans g (le_of_eq (sym (pow-add 2 24 k))) in
    elim (le_or_lt 253 k) [
      | inl l ↦ omega arith
      | inr l ↦ absurd (lt_irrefl (2 ^ 277) (lt_of_le_of_lt a (pow-lt {i = 24 + k} {j = 277} (omega arith))))
    ]

over : (s : Bool) (q k : ℕ) → q ≡ 2 ^ 24 → k ≡ 253 → 2 ^ 277 ≤ q * 2 ^ k → of_bits binary32 (cond s (top binary32) 0 + (k * 2 ^ 23 + q)) ≡ units binary32 s q k
over s q k a b g =
    let e : k * 2 ^ 23 + q ≡ 2139095040 = omega arith in
    ap (λ (x : ℕ). of_bits binary32 (cond s (top binary32) 0 + x)) e ∙ inf_bits s ∙ sym (units_inf s q k g)

pub units_bits : (s : Bool) (q k : ℕ) → q ≤ 2 ^ 24 → (k ≡ 0) ⊎ (2 ^ 23 ≤ q) → k < 254 → of_bits binary32 (cond s (top binary32) 0 + (k * 2 ^ 23 + q)) ≡ units binary32 s q k
units_bits s q k hi lo h = elim (le_or_lt (2 ^ 277) (q * 2 ^ k)) [
  | inr g ↦ fin_bits s q k hi lo g
  | inl g ↦
      let a : q ≡ 2 ^ 24 = over_q q k hi h g in
      over s q k a (over_k k h (subst (λ (x : ℕ). 2 ^ 277 ≤ x * 2 ^ k) a g)) g
]
