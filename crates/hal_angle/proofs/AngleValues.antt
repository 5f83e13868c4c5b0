-- Order, quotient and signs of floats by the fractions that they stand for. Assumes nothing.
use mathlib.Core.Path.{◌≡◌, refl, sym, ap, ◌∙◌, subst}
use mathlib.Core.Bool.{Bool, true, false, not, ◌&&◌, true≢false}
use Prim.Native.Nat.{ℕ, zero, suc, ◌+◌, ◌*◌, ◌≤◌, ◌<◌}
use native.Mathlib.Nat.{le_of_eq, lt_of_lt_of_le, lt_irrefl, not-le_of_lt, zero-mul, mul-pos, mul_comm, mul_assoc, mul_left_comm}
use native.Mathlib.Omega.{arith}
use lib.IntN.{ℤ}
use lib.Dec.{T, ltb, eqb, ltb→lt, lt→ltb, nltb→le, eqb→eq}
use lib.Ieee.{Float, nan, inf, fin, Format, up, down, unlike, lt, eq, div, round, of_bits}
use lib.Ieee.Exact.{HasValue}
use lib.Ieee.Fits.{down_pos}
use lib.Ieee.Order.{transfer}
use lib.Ieee.Scale.{round_same}
use lib.Ieee.Positive.{num, first_pos}
use Rattle.lists.proofs.Bools.{and_false}
use Rattle.ieee.specs.F32.{abs_of}
use Rattle.ieee.specs.Numbers.{nought}
use Rattle.hal_reach.specs.Reach.{in_reach}
use Rattle.hal_reach.proofs.Reach.{reach_nan, reach_inf, zero_num}

-- ---- tests
both_ways : (p q : Bool) → (T p → T q) → (T q → T p) → p ≡ q
both_ways true true f g = refl
both_ways true false f g = absurd (f tt)
both_ways false true f g = absurd (g tt)
both_ways false false f g = refl

pub less_same : (a b c d : ℕ) → (a < b → c < d) → (c < d → a < b) → ltb a b ≡ ltb c d
less_same a b c d f g = both_ways (ltb a b) (ltb c d) (λ t. lt→ltb c d (f (ltb→lt a b t))) (λ t. lt→ltb a b (g (ltb→lt c d t)))

not_less : (a b : ℕ) → b ≤ a → ltb a b ≡ false
not_less a b h = go (ltb a b) (ltb→lt a b)
  where
    go : (t : Bool) → (T t → a < b) → t ≡ false
    go true f = absurd (not-le_of_lt (f tt) h)
    go false f = refl

is_less : (a b : ℕ) → a < b → ltb a b ≡ true
is_less a b h = go (ltb a b) (lt→ltb a b h)
  where
    go : (t : Bool) → T t → t ≡ true
    go true u = refl
    go false u = absurd u

-- x / e < y / g, where x / e = a / c and y / g = b / d
cross : (x e y g a c b d : ℕ) → 0 < e → 0 < g → 0 < c → 0 < d → x * c ≡ a * e → y * d ≡ b * g → x * g < y * e → a * d < b * c
cross x e y g a c b d E G C D p q h = go (ltb (a * d) (b * c)) (ltb→lt (a * d) (b * c)) (nltb→le (a * d) (b * c))
  where
    go : (t : Bool) → (T t → a * d < b * c) → (T (not t) → b * c ≤ a * d) → a * d < b * c
    go true f k = f tt
    go false f k = absurd (not-le_of_lt h (transfer y x g e b a d c D C q p (k tt)))

pub lt_value : (x y : Float) (a c b d : ℕ) → 0 < c → 0 < d → HasValue x false a c → HasValue y false b d → lt x y ≡ ltb (a * d) (b * c)
unfolding lt
lt_value nan y a c b d C D h k = absurd h
lt_value (inf s) y a c b d C D h k = absurd h
lt_value (fin true m e) y a c b d C D h k = absurd (true≢false h.0)
lt_value (fin false m e) nan a c b d C D h k = absurd k
lt_value (fin false m e) (inf s) a c b d C D h k = absurd k
lt_value (fin false m e) (fin true n g) a c b d C D h k = absurd (true≢false k.0)
lt_value (fin false m e) (fin false n g) a c b d C D h k =
    less_same (m * up e * down g) (n * up g * down e) (a * d) (b * c)
    (cross (m * up e) (down e) (n * up g) (down g) a c b d (down_pos e) (down_pos g) C D h.1 k.1)
    (cross a c b d (m * up e) (down e) (n * up g) (down g) C D (down_pos e) (down_pos g) (sym h.1) (sym k.1))

-- ---- the quotient, of a divisor above zero
not_zero : (n u c b g : ℕ) → 0 < b → 0 < g → n * u * c ≡ b * g → eqb n 0 ≡ false
not_zero n u c b g B G e = go (eqb n 0) (eqb→eq n 0)
  where
    go : (t : Bool) → (T t → n ≡ 0) → t ≡ false
    go true f = absurd (lt_irrefl 0 (lt_of_lt_of_le (mul-pos B G) (le_of_eq (sym e ∙ ap (λ (z : ℕ). z * u * c) (f tt) ∙ ap (λ (z : ℕ). z * c) (zero-mul u) ∙ zero-mul c))))
    go false f = refl

plain_sign : (s : Bool) → unlike s false ≡ s
plain_sign true = refl
plain_sign false = refl

pub div_signed : (f : Format) (x y : Float) (s : Bool) (a c b d : ℕ) → 0 < c → 0 < d → 0 < b → HasValue x s a c → HasValue y false b d → div f x y ≡ round f s (a * d) (b * c)
unfolding div
div_signed f nan y s a c b d C D B h k = absurd h
div_signed f (inf t) y s a c b d C D B h k = absurd h
div_signed f (fin t m e) nan s a c b d C D B h k = absurd k
div_signed f (fin t m e) (inf u) s a c b d C D B h k = absurd k
div_signed f (fin t m e) (fin u n g) s a c b d C D B h k =
    rw (not_zero n (up g) d b (down g) B (down_pos g) k.1)
    (ap (λ (z : Bool). round f (unlike t z) (m * up e * down g) (n * up g * down e)) k.0
    ∙ ap (λ (z : Bool). round f z (m * up e * down g) (n * up g * down e)) (plain_sign t ∙ h.0)
    ∙ round_same f s (m * up e * down g) (n * up g * down e) (a * d) (b * c) (mul-pos above (down_pos e)) (mul-pos B C) same)
  where
    above : 0 < n * up g
    above = first_pos (n * up g) d (lt_of_lt_of_le (mul-pos B (down_pos g)) (le_of_eq (sym k.1)))

    same : m * up e * down g * (b * c) ≡ a * d * (n * up g * down e)
    same =
        let p : m * up e * c * (b * down g) ≡ a * down e * (n * up g * d) = ap (λ (z : ℕ). z * (b * down g)) h.1 ∙ ap (λ (z : ℕ). a * down e * z) (sym k.1) in
        simp (mul_assoc, mul_comm, mul_left_comm) (simp (mul_assoc, mul_comm, mul_left_comm) at p)

pub div_value : (f : Format) (x y : Float) (a c b d : ℕ) → 0 < c → 0 < d → 0 < b → HasValue x false a c → HasValue y false b d → div f x y ≡ round f false (a * d) (b * c)
div_value f x y a c b d = div_signed f x y false a c b d

-- ---- a pair in range: the tests on signs and on zero
pub null : (k c : ℕ) → 0 < c → k * c ≡ 0 → k ≡ 0
null zero c C h = refl
null (suc k) c C h = absurd (lt_irrefl 0 (lt_of_lt_of_le (mul-pos (above k) C) (le_of_eq h)))
  where
    above : (k : ℕ) → 0 < suc k
    above k = omega arith

pub sign_of : (s : Bool) (m : ℕ) (e : ℤ) → lt (fin s m e) nought ≡ (s && ltb 0 (m * up e))
unfolding lt of_bits
sign_of true m e = less_same 0 (m * up e * 1 + 0 * 1 * down e) 0 (m * up e) (λ h. omega arith) (λ h. omega arith)
sign_of false m e = not_less (m * up e * 1) (0 * 1 * down e) (omega arith)

above_same : (m u c a g : ℕ) → 0 < c → 0 < g → m * u * c ≡ a * g → ltb 0 (m * u) ≡ ltb 0 a
above_same m u c a g C G e =
    less_same 0 (m * u) 0 a (λ h. first_pos a g (lt_of_lt_of_le (mul-pos h C) (le_of_eq e))) (λ h. first_pos (m * u) c (lt_of_lt_of_le (mul-pos h G) (le_of_eq (sym e))))

pub sign_value : (x : Float) (s : Bool) (a c : ℕ) → 0 < c → HasValue x s a c → lt x nought ≡ (s && ltb 0 a)
sign_value nan s a c C h = absurd h
sign_value (inf t) s a c C h = absurd h
sign_value (fin t m e) s a c C h = sign_of t m e ∙ ap (λ (z : Bool). z && ltb 0 (m * up e)) h.0 ∙ ap (λ (z : Bool). s && z) (above_same m (up e) c a (down e) C (down_pos e) h.1)

-- ---- the tests of x, once its sign is known or it is a zero
pub record Side (x : Float) (left : Bool) : Type 0 where
  pub sign : lt x nought ≡ left
  pub some : 0 < num x

side : (s : Bool) (m : ℕ) (e : ℤ) → 0 < m * up e → Side (fin s m e) s
side s m e p = record {
  sign = sign_of s m e ∙ ap (λ (z : Bool). s && z) (is_less 0 (m * up e) p) ∙ and_yes s;
  some = p;
}
  where
    and_yes : (s : Bool) → (s && true) ≡ s
    and_yes true = refl
    and_yes false = refl

pub side_right : (x : Float) → T (in_reach (abs_of x)) → T (lt nought x) → Side x false
unfolding lt of_bits
side_right nan f t = absurd t
side_right (inf s) f t = absurd (reach_inf s f)
side_right (fin true m e) f t = absurd t
side_right (fin false m e) f t = let p : 0 * 1 * down e < m * up e * 1 = ltb→lt (0 * 1 * down e) (m * up e * 1) t in side false m e (omega arith)

pub side_left : (x : Float) → T (in_reach (abs_of x)) → T (lt x nought) → Side x true
unfolding lt of_bits
side_left nan f t = absurd t
side_left (inf s) f t = absurd (reach_inf s f)
side_left (fin false m e) f t = absurd (let p : m * up e * 1 < 0 * 1 * down e = ltb→lt (m * up e * 1) (0 * 1 * down e) t in omega arith)
side_left (fin true m e) f t = let p : 0 < m * up e * 1 + 0 * 1 * down e = ltb→lt 0 (m * up e * 1 + 0 * 1 * down e) t in side true m e (omega arith)

-- x equals 0
pub record None (x : Float) : Type 0 where
  pub sign : lt x nought ≡ false
  pub none : num x ≡ 0

pub none_num : (x : Float) → T (in_reach (abs_of x)) → num x ≡ 0 → None x
none_num nan f z = absurd (reach_nan f)
none_num (inf s) f z = absurd (reach_inf s f)
none_num (fin s m e) f z = record {
  sign = sign_of s m e ∙ ap (λ (w : ℕ). s && ltb 0 w) z ∙ and_false s;
  none = z;
}

pub none_of : (x : Float) → T (in_reach (abs_of x)) → T (eq x nought) → None x
none_of x f t = none_num x f (eqb→eq (num x) 0 (subst T (zero_num x f) t))
