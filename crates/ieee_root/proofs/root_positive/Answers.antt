use mathlib.Core.Path.{◌≡◌, refl, sym, ap, ap₂, ◌∙◌, subst}
use mathlib.Core.Bool.{Bool, true, false}
use Prim.Native.Nat.{ℕ, suc, ◌+◌, ◌-◌, ◌*◌, ◌/◌, ◌%◌, ◌^◌, ◌≤◌, ◌<◌}
use native.Mathlib.Nat.{le_of_lt, le_trans, le_of_eq, lt_of_lt_of_le, lt_of_le_of_lt, mul-one, mul_comm, mul_assoc, mul-le-mul_left, mod-lt, mod-eq_of_lt}
use native.Mathlib.Numerals.{add-one}
use native.Mathlib.Omega.{arith}
use lib.Dec.{T, lit<}
use lib.Arith.{lt_of_le-ne}
use lib.Pow.{pow-add, pow_pos, pow_mono}
use lib.Ieee.{Float, nan, inf, fin, binary32, round}
use lib.Ieee.Exact.{HasValue}
use lib.Ieee.Scale.{finite}
use lib.Ieee.Positive.{positive, value_pos, first_pos}
use Rattle.packing.specs.Parts.{Normalized}
use Rattle.ieee.specs.Root.{sqrt}
use Rattle.ieee_root.proofs.Roots.{square_le, exact_case, open_case, sqrt_is}
use Rattle.ieee_root.proofs.root_positive.Goals as goal

finite_of : (x : Float) → T (positive x) → finite x ≡ true
finite_of nan p = absurd p
finite_of (inf s) p = absurd p
finite_of (fin s m e) p = refl

as_false : (x : Float) (s : Bool) (a c : ℕ) → T (positive x) → HasValue x s a c → HasValue x false a c
as_false nan s a c p h = absurd p
as_false (inf t) s a c p h = absurd p
as_false (fin true m e) s a c p h = absurd p
as_false (fin false m e) s a c p h = (refl, h.1)

some_digit : (x : Float) (s : Bool) (m e : ℕ) → T (positive x) → HasValue x s (m * 2 ^ e) (2 ^ 149) → 0 < m
some_digit x s m e p h = first_pos m (2 ^ e) (value_pos x (m * 2 ^ e) (2 ^ 149) p (pow_pos 149) (as_false x s (m * 2 ^ e) (2 ^ 149) p h))

small : (r a : ℕ) → r * r ≤ a → a < 2 ^ 64 → r < 2 ^ 32
small r a h k = square_le r (2 ^ 32) (lt_of_le_of_lt h k)

-- m moved up by z or z + 1 places, by whether w is odd
module _ (m e z : ℕ) (q : Normalized m z) where
  abbrev w : ℕ
  w = e + 151 - z

  abbrev a : ℕ
  a = m * 2 ^ (z + w % 2) % 2 ^ 64

  a_twice : m * 2 ^ (z + w % 2) ≡ m * 2 ^ z * 2 ^ (w % 2)
  a_twice = ap (λ (x : ℕ). m * x) (pow-add 2 z (w % 2)) ∙ sym (mul_assoc m (2 ^ z) (2 ^ (w % 2)))

  a_in : m * 2 ^ (z + w % 2) < 2 ^ 64
  a_in = lt_of_le_of_lt (le_trans (le_of_eq a_twice) (mul-le-mul_left (m * 2 ^ z) (pow_mono {i = w % 2} {j = 1} (omega arith)))) (omega (arith, q.high))

  a_is : a ≡ m * 2 ^ (z + w % 2)
  a_is = mod-eq_of_lt a_in

  a_ge : 2 ^ 61 ≤ a
  a_ge = le_trans q.low (le_trans (le_of_eq (sym (mul-one (m * 2 ^ z)))) (le_trans (mul-le-mul_left (m * 2 ^ z) (pow_pos (w % 2))) (le_of_eq (sym (a_is ∙ a_twice)))))

  -- a * 4 ^ (w / 2) is four times the number whose root is asked
  same : a * (2 ^ (w / 2) * 2 ^ (w / 2)) ≡ 4 * (m * 2 ^ e * 2 ^ 149)
  same =
      let k : z + w % 2 + (w / 2 + w / 2) ≡ e + 151 = omega (arith, q.most) in
      ap₂ (λ (x y : ℕ). x * y) a_is (sym (pow-add 2 (w / 2) (w / 2)))
      ∙ mul_assoc m (2 ^ (z + w % 2)) (2 ^ (w / 2 + w / 2))
      ∙ ap (λ (x : ℕ). m * x) (sym (pow-add 2 (z + w % 2) (w / 2 + w / 2)) ∙ ap (λ (x : ℕ). 2 ^ x) k ∙ pow-add 2 e 151)
      ∙ sym (mul_assoc m (2 ^ e) (2 ^ 151))
      ∙ sym (mul_assoc (m * 2 ^ e) (2 ^ 149) 4)
      ∙ mul_comm (m * 2 ^ e * 2 ^ 149) 4

  up : suc (w / 2 - 1) ≡ w / 2
  up = omega (arith, q.most)

  keep : (r : ℕ) → a < suc r * suc r → 2 ^ 24 ≤ r
  keep r h = omega (arith, square_le (2 ^ 30) (suc r) (lt_of_lt_of_le (lit< tt) (le_trans a_ge (le_of_lt h))))

  same' : a * (2 ^ suc (w / 2 - 1) * 2 ^ suc (w / 2 - 1)) ≡ 4 * (m * 2 ^ e * 2 ^ 149)
  same' = ap (λ (x : ℕ). a * (2 ^ x * 2 ^ x)) up ∙ same

  square : (x : Float) (s : Bool) (r : ℕ) → T (positive x) → HasValue x s (m * 2 ^ e) (2 ^ 149) → a < (r + 1) * (r + 1) → r * r ≡ a
      → round binary32 false (2 * r * 2 ^ (w / 2 + 923)) (2 ^ 1074) ≡ sqrt binary32 x
  square x s r p h l d =
      ap (λ (y : ℕ). round binary32 false (2 * r * 2 ^ (y + 923)) (2 ^ 1074)) (sym up)
      ∙ exact_case (m * 2 ^ e * 2 ^ 149) a r (w / 2 - 1) same' (keep r (subst (λ (y : ℕ). a < y * y) (add-one r) l)) d
      ∙ sym (sqrt_is x s (m * 2 ^ e) p h)

  -- n is the root and a half
  between : (x : Float) (s : Bool) (r n : ℕ) → n ≡ r * 2 + 1 → T (positive x) → HasValue x s (m * 2 ^ e) (2 ^ 149) → r * r ≤ a → a < (r + 1) * (r + 1) → (r * r ≡ a → ⊥)
      → round binary32 false (n * 2 ^ (w / 2 + 923)) (2 ^ 1074) ≡ sqrt binary32 x
  between x s r n j p h g l d =
      let l' : a < suc r * suc r = subst (λ (y : ℕ). a < y * y) (add-one r) l in
      ap₂ (λ (v y : ℕ). round binary32 false (v * 2 ^ (y + 923)) (2 ^ 1074)) j (sym up)
      ∙ open_case (m * 2 ^ e * 2 ^ 149) a r (w / 2 - 1) same' (keep r l') (lt_of_le-ne g d) l'
      ∙ sym (sqrt_is x s (m * 2 ^ e) p h)

pub unpack-p-requires : goal.unpack-p-requires
unpack-p-requires c = finite_of c.args.x c.requires

pub normalizing_shift-z-requires : goal.normalizing_shift-z-requires
normalizing_shift-z-requires c = let u = c.unpack-p in (some_digit c.args.x u.result.sign u.result.significand u.result.exponent c.requires u.ensures.value, omega (arith, u.ensures.digits))

pub overflow_mul-r-then-r-a : goal.overflow_mul-r-then-r-a
overflow_mul-r-then-r-a c = omega (arith, small c.isqrt-r.result (a c.unpack-p.result.significand c.unpack-p.result.exponent c.normalizing_shift-z.result c.normalizing_shift-z.ensures) c.isqrt-r.ensures.0 (mod-lt _ (pow_pos 64)))

pub overflow_mul-r-else-r-a : goal.overflow_mul-r-else-r-a
overflow_mul-r-else-r-a c = omega (arith, small c.isqrt-r.result (a c.unpack-p.result.significand c.unpack-p.result.exponent c.normalizing_shift-z.result c.normalizing_shift-z.ensures) c.isqrt-r.ensures.0 (mod-lt _ (pow_pos 64)))

pub overflow_add-r : goal.overflow_add-r
overflow_add-r c = omega (arith, small c.isqrt-r.result (a c.unpack-p.result.significand c.unpack-p.result.exponent c.normalizing_shift-z.result c.normalizing_shift-z.ensures) c.isqrt-r.ensures.0 (mod-lt _ (pow_pos 64)))

pub returns-then-r-a : goal.returns-then-r-a
returns-then-r-a c =
    let u = c.unpack-p in
    let z = c.normalizing_shift-z in
    c.pack.ensures ∙ square u.result.significand u.result.exponent z.result z.ensures c.args.x u.result.sign c.isqrt-r.result c.requires u.ensures.value c.isqrt-r.ensures.1 c.if-r-a.true

pub returns-else-r-a : goal.returns-else-r-a
returns-else-r-a c =
    let u = c.unpack-p in
    let z = c.normalizing_shift-z in
    c.pack-else-r-a.ensures ∙ between u.result.significand u.result.exponent z.result z.ensures c.args.x u.result.sign c.isqrt-r.result _ (omega arith) c.requires u.ensures.value c.isqrt-r.ensures.0 c.isqrt-r.ensures.1 c.if-r-a.false
