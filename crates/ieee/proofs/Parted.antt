-- A part of an f32, 2 ^ -k of it, is exact where it stays normal, and of a zero: so adding to it rounds once. Assumes nothing.
use mathlib.Core.Path.{◌≡◌, refl, sym, ap, ◌∙◌, subst}
use mathlib.Core.Logic.{◌⊎◌, inl, inr}
use mathlib.Core.Bool.{Bool, true, false, not, ◌&&◌, ◌||◌, false≢true}
use Prim.Native.Nat.{ℕ, zero, suc, ◌+◌, ◌-◌, ◌*◌, ◌^◌, ◌≤◌, ◌<◌, suc-le-suc}
use native.Mathlib.Nat.{le_trans, le_of_eq, lt_of_lt_of_le, not-le_of_lt, mul-one, mul-pos, zero-lt-suc, zero-mul, mul_assoc, mul_comm, mul_left_comm, mul-lt-mul_of_pos_right, mul-le-mul_left, le_of_mul-le-mul_right}
use native.Mathlib.Omega.{arith}
use lib.Dec.{T, leb, eqb, leb→le, eqb→eq}
use lib.Pow.{pow-add, pow_pos, pow_mono, shl_lt}
use lib.IntN.{pos, negsuc}
use lib.Ieee.{Float, nan, inf, fin, binary32, mul, add, le, eq, fits, of_bits}
use lib.Ieee.Digits.{back}
use lib.Ieee.Exact.{HasValue}
use lib.Ieee.Fits.{and_l, and_r}
use lib.Ieee.Positive.{positive, above, above_of_le, values_of_le, le_trans_positive}
use lib.Ieee.Scale.{finite}
use Rattle.lists.proofs.Naturals.{le_or_lt}
use Rattle.ieee.specs.Fused.{fma}
use Rattle.ieee.proofs.Product.{fma_left}
use Rattle.ieee.proofs.Exactly.{fused_digits}
use Rattle.ieee.proofs.Equal.{zero_of, power_of_lem}
use Rattle.ieee.proofs.Doubled.{Split, split32}

either : (p q : Bool) → (p || q) ≡ true → (p ≡ true) ⊎ (q ≡ true)
either true q h = inl refl
either false q h = inr h

-- ---- from 2 ^ -122 on, of which a sixteenth is the least normal number, the exponent is 4 at least
unfoldable pub least : Float
least = fin false 1 (negsuc 121)

least_value : HasValue least false 1 (2 ^ 122)
unfolding least
least_value = (refl, refl)

least_positive_lem : T (positive least)
unfolding least
least_positive_lem = tt

above_positive : (a : Float) → finite a ≡ true → T (above a) → T (positive a)
above_positive nan f h = absurd h
above_positive (inf s) f h = absurd (false≢true f)
above_positive (fin true m e) f h = h
above_positive (fin false m e) f h = h

plain : (a : Float) (s : Bool) (n d : ℕ) → T (positive a) → HasValue a s n d → HasValue a false n d
plain nan s n d p v = absurd p
plain (inf t) s n d p v = absurd p
plain (fin true m e) s n d p v = absurd p
plain (fin false m e) s n d p v = (refl, v.1)

from_least : (m x : ℕ) → m < 2 ^ 24 → 2 ^ 149 ≤ m * 2 ^ x * 2 ^ 122 → 4 ≤ x
from_least m x h l = elim (le_or_lt 4 x) [
  | inl g ↦ g
  | inr g ↦
      (let b : 2 ^ 27 ≤ m * 2 ^ x = le_of_mul-le-mul_right (le_trans (le_of_eq (sym (pow-add 2 27 122))) l) (pow_pos 122) in
      absurd (not-le_of_lt (lt_of_lt_of_le (mul-lt-mul_of_pos_right h (pow_pos x)) (mul-le-mul_left (2 ^ 24) (pow_mono {i = x} {j = 3} (omega arith)))) b))
]

none_left : (m x : ℕ) → 0 ≡ m * 2 ^ x * 1 → m ≡ 0
none_left zero x h = refl
none_left (suc m) x h = absurd (none (suc m * 2 ^ x) (mul-pos (zero-lt-suc m) (pow_pos x)) (sym (mul-one (suc m * 2 ^ x)) ∙ sym h))
  where
    none : (a : ℕ) → 0 < a → a ≡ 0 → ⊥
    none a p e = omega arith

-- ---- a is a zero, or from some bound on that is 2 ^ -122 at least
pub record Bound (b : Float) : Type 0 where
  pub number : T (positive b)
  pub enough : T (le least b)

module _ (a w c b : Float) (held : T (fits binary32 a)) (B : Bound b) (k : ℕ) (K : k ≤ 4) (W : HasValue w false 1 (2 ^ k)) (test : (le b a || eq a (of_bits binary32 0)) ≡ true) where
  module _ (A : Split a) (f : finite a ≡ true) where
    room : (k ≤ A.x) ⊎ (A.m ≡ 0)
    room = elim (either (le b a) (eq a (of_bits binary32 0)) test) [
      | inl h ↦
          (let l : T (le b a) = subst T (sym h) tt in
          let p = above_positive a f (above_of_le b a B.number l) in
          let v = plain a A.s (A.m * 2 ^ A.x) (2 ^ 149) p A.parts.value in
          inl (le_trans K (from_least A.m A.x A.parts.digits (values_of_le least a 1 (2 ^ 122) (A.m * 2 ^ A.x) (2 ^ 149) least_positive_lem p least_value v (le_trans_positive least b a least_positive_lem B.number p B.enough l)))))
      | inr h ↦ (let z = zero_of a held h in inr (none_left A.m A.x (subst (λ (v : Float). HasValue v A.s (A.m * 2 ^ A.x) (2 ^ 149)) z.1 A.parts.value).1))
    ]

    moved : (k ≤ A.x) ⊎ (A.m ≡ 0) → A.m * 2 ^ A.x * 1 * 2 ^ 149 ≡ A.m * 2 ^ (A.x - k) * (2 ^ 149 * 2 ^ k)
    moved (inl l) =
        ap (λ (z : ℕ). z * 2 ^ 149) (mul-one (A.m * 2 ^ A.x))
        ∙ ap (λ (z : ℕ). A.m * z * 2 ^ 149) (ap (λ (z : ℕ). 2 ^ z) (sym (back A.x k l)) ∙ pow-add 2 (A.x - k) k)
        ∙ regroup A.m (2 ^ (A.x - k)) (2 ^ k) (2 ^ 149)
      where
        regroup : (a b c d : ℕ) → a * (b * c) * d ≡ a * b * (d * c)
        regroup a b c d = simp (mul_assoc, mul_comm, mul_left_comm)
    moved (inr z) =
        ap (λ (m : ℕ). m * 2 ^ A.x * 1 * 2 ^ 149) z ∙ ap (λ (m : ℕ). m * 1 * 2 ^ 149) (zero-mul (2 ^ A.x))
        ∙ sym (ap (λ (m : ℕ). m * 2 ^ (A.x - k) * (2 ^ 149 * 2 ^ k)) z ∙ ap (λ (m : ℕ). m * (2 ^ 149 * 2 ^ k)) (zero-mul (2 ^ (A.x - k))) ∙ zero-mul (2 ^ 149 * 2 ^ k))

    at_number : add binary32 (mul binary32 a w) c ≡ fma binary32 a w c
    at_number =
        fused_digits binary32 a w c A.s false (A.m * 2 ^ A.x) (2 ^ 149) 1 (2 ^ k) A.m (A.x - k) (pow_pos 149) (pow_pos k) A.parts.value W A.parts.digits
        (lt_of_lt_of_le (shl_lt 24 (A.x - k) A.parts.digits) (pow_mono {i = 24 + (A.x - k)} {j = 277} (omega (arith, A.parts.place))))
        (moved room)

  part : (b : Bool) → finite a ≡ b → add binary32 (mul binary32 a w) c ≡ fma binary32 a w c
  part true f = at_number (split32 a held f) f
  part false f = fma_left binary32 a w c f

-- ---- a weight that makes such a part: a half to a sixteenth
unfoldable pub weight : Float → Bool
weight nan = false
weight (inf s) = false
weight (fin s m (pos k)) = false
weight (fin s m (negsuc k)) = not s && eqb m 1 && leb k 3

pub record Weighs (w : Float) : Type 0 where
  pub k : ℕ
  pub few : k ≤ 4
  pub value : HasValue w false 1 (2 ^ k)

weighs : (w b : Float) → T (weight b) → eq w b ≡ true → Weighs w
unfolding weight
weighs w nan h e = absurd h
weighs w (inf s) h e = absurd h
weighs w (fin s m (pos k)) h e = absurd h
weighs w (fin true m (negsuc k)) h e = absurd h
weighs w (fin false m (negsuc k)) h e =
    let one : m ≡ 1 = eqb→eq m 1 (and_l (eqb m 1) (leb k 3) h) in
    record { k = suc k; few = suc-le-suc (leb→le k 3 (and_r (eqb m 1) (leb k 3) h)); value = power_of_lem w k (subst (λ (n : ℕ). eq w (fin false n (negsuc k)) ≡ true) one e) }

pub part_once : (a w c b u v : Float) → T (fits binary32 a) → Bound b → T (weight u) → T (weight v) → (eq w u || eq w v) ≡ true → (le b a || eq a (of_bits binary32 0)) ≡ true → add binary32 (mul binary32 a w) c ≡ fma binary32 a w c
part_once a w c b u v held B p q h test = elim (either (eq w u) (eq w v) h) [ inl e ↦ at (weighs w u p e) | inr e ↦ at (weighs w v q e) ]
  where
    at : Weighs w → add binary32 (mul binary32 a w) c ≡ fma binary32 a w c
    at W = part a w c b held B W.k W.few W.value test (finite a) refl
