-- The statement leaves no choice: one float at most is ±n / d rounded. Assumes nothing.
use Rattle.std.proofs.Common.{◌≡◌, ℕ, suc, ◌+◌, ◌-◌, ◌*◌, ◌/◌, ◌%◌, ◌^◌, ◌<◌, ◌≤◌, Bool, T, sym, ap, ◌∙◌, subst, inl, inr, le_refl, lt_irrefl, mul_assoc, le_antisymm, lt_of_mul-lt-mul_right, mul-lt-mul_of_pos_right, mul_right_comm, arith, pow_pos, pow-add}
use native.Mathlib.Nat.{eq_of_mul-eq-mul_right}
use lib.Ieee.{Float, nan, inf, fin, Format, prec, low, up, down, fits}
use lib.Ieee.Digits.{back}
use lib.Ieee.Fits.{two}
use Rattle.lists.proofs.Naturals.{le_or_lt}
use Rattle.ieee.proofs.Meaning.{one_writing}
use Rattle.ieee.specs.Rounding.{threshold, apart, distance, Number, Significand, Size, Signed, Nearest, RoundTiesToEven}
use Rattle.ieee.proofs.Ties.{half, mid_up}
use Rattle.ieee.proofs.Values.{places}

between : (A B C N : ℕ) → A < B → B < C → 2 * N ≡ A + C → apart A N ≤ apart B N → ⊥
between A B C N h l e g = omega arith

two_more : (c m : ℕ) → c % 2 ≡ 0 → m % 2 ≡ 0 → c < m → suc c < m
two_more c m a b h = omega arith

even_times : (c x : ℕ) → c % 2 ≡ 0 → c * x % 2 ≡ 0
even_times c x h =
    let e : c ≡ c / 2 * 2 = omega arith in
    let g : c * x ≡ c / 2 * x * 2 = ap (λ (z : ℕ). z * x) e ∙ mul_right_comm (c / 2) 2 x in
    omega arith

even_pow : (x h : ℕ) → x ≡ h * 2 → x % 2 ≡ 0
even_pow x h e = omega arith

-- ---- of two numbers with even significands, some number lies between
no_two : (f : Format) (n d c k y j : ℕ) → 0 < d → Significand f c k → Significand f y j → c % 2 ≡ 0 → y % 2 ≡ 0 → c * 2 ^ k < y * 2 ^ j
    → distance f n d (y * 2 ^ j) ≡ distance f n d (c * 2 ^ k) → ((i l : ℕ) → Number f i l → distance f n d (c * 2 ^ k) ≤ distance f n d (i * 2 ^ l)) → ⊥
no_two f n d c k y j D u v ce ye h e near =
    let g = places f c k y j u v.number h in
    let m : y * 2 ^ j ≡ y * 2 ^ (j - k) * 2 ^ k = sym (mul_assoc y (2 ^ (j - k)) (2 ^ k) ∙ ap (λ (x : ℕ). y * x) (sym (pow-add 2 (j - k) k) ∙ ap (λ (x : ℕ). 2 ^ x) (back j k g))) in
    let l : c < y * 2 ^ (j - k) = lt_of_mul-lt-mul_right (2 ^ k) (subst (λ (x : ℕ). c * 2 ^ k < x) m h) in
    let l' : suc c < y * 2 ^ (j - k) = two_more c (y * 2 ^ (j - k)) ce (even_times y (2 ^ (j - k)) ye) l in
    let top : suc c < 2 ^ prec f = two_more c (2 ^ prec f) ce (even_pow (2 ^ prec f) (2 ^ (prec f - 1)) (half (prec f) (two f))) u.number.digits in
    between (c * 2 ^ k * d) (suc c * 2 ^ k * d) (y * 2 ^ j * d) (n * 2 ^ low f)
    (mul-lt-mul_of_pos_right (mul-lt-mul_of_pos_right (le_refl (suc c)) (pow_pos k)) D)
    (mul-lt-mul_of_pos_right (subst (λ (x : ℕ). suc c * 2 ^ k < x) (sym m) (mul-lt-mul_of_pos_right l' (pow_pos k))) D)
    (mid_up (c * 2 ^ k * d) (y * 2 ^ j * d) (n * 2 ^ low f) (mul-lt-mul_of_pos_right h D) e)
    (near (suc c) k (record { digits = top; place = u.number.place }))

-- ---- one size
same_size : (f : Format) (n d : ℕ) (r t : Float) → 0 < d → (u : Nearest f n d r) → (v : Nearest f n d t) → u.c * 2 ^ u.k ≡ v.c * 2 ^ v.k
same_size f n d r t D u v =
    let e : distance f n d (u.c * 2 ^ u.k) ≡ distance f n d (v.c * 2 ^ v.k) =
    le_antisymm (u.nearest v.c v.k v.significand.number) (v.nearest u.c u.k u.significand.number) in
    elim (le_or_lt (u.c * 2 ^ u.k) (v.c * 2 ^ v.k)) [
      | inr l ↦ absurd (apart_no v u l e)
      | inl l ↦ elim (le_or_lt (v.c * 2 ^ v.k) (u.c * 2 ^ u.k)) [
        | inl g ↦ le_antisymm l g
        | inr g ↦ absurd (apart_no u v g (sym e))
      ]
    ]
  where
    apart_no : {r t : Float} (u : Nearest f n d r) (v : Nearest f n d t) → u.c * 2 ^ u.k < v.c * 2 ^ v.k → distance f n d (v.c * 2 ^ v.k) ≡ distance f n d (u.c * 2 ^ u.k) → ⊥
    apart_no u v l e =
        no_two f n d u.c u.k v.c v.k D u.significand v.significand
        (u.even v.c v.k v.significand.number (λ z. lt_irrefl (u.c * 2 ^ u.k) (subst (λ (x : ℕ). u.c * 2 ^ u.k < x) z l)) e)
        (v.even u.c u.k u.significand.number (λ z. lt_irrefl (u.c * 2 ^ u.k) (subst (λ (x : ℕ). u.c * 2 ^ u.k < x) (sym z) l)) (sym e))
        l e u.nearest

-- ---- one size and one sign make one float
pub one_float : (f : Format) (r t : Float) (s : Bool) (a : ℕ) → T (fits f r) → T (fits f t) → Signed r s → Signed t s → Size f r a → Size f t a → r ≡ t
one_float f nan t s a h g x y u v = absurd u
one_float f (inf w) t s a h g x y u v = absurd u
one_float f (fin w m e) nan s a h g x y u v = absurd v
one_float f (fin w m e) (inf z) s a h g x y u v = absurd v
one_float f (fin w m e) (fin z n d) s a h g x y u v =
    let q : m * up e * down d ≡ n * up d * down e =
    eq_of_mul-eq-mul_right (2 ^ low f) (pow_pos (low f)) (m * up e * down d) (n * up d * down e)
    (mul_right_comm (m * up e) (down d) (2 ^ low f) ∙ ap (λ (i : ℕ). i * down d) u ∙ mul_right_comm a (down e) (down d) ∙ ap (λ (i : ℕ). i * down e) (sym v) ∙ mul_right_comm (n * up d) (2 ^ low f) (down e)) in
    let k : T (fits f (fin w n d)) = subst (λ (i : Bool). T (fits f (fin i n d))) (y ∙ sym x) g in
    one_writing f w m e n d h k q ∙ ap (λ (i : Bool). fin i n d) (x ∙ sym y)

pub ties_unique : (f : Format) (s : Bool) (n d : ℕ) (r t : Float) → 0 < d → RoundTiesToEven f s n d r → RoundTiesToEven f s n d t → r ≡ t
ties_unique f s n d r t D u v = elim (le_or_lt (threshold f * d) (n * 2 ^ prec f)) [
  | inl h ↦ u.beyond h ∙ sym (v.beyond h)
  | inr h ↦
      let x = u.within h in
      let y = v.within h in
      one_float f r t s (x.c * 2 ^ x.k) u.held v.held u.sign v.sign x.size (subst (λ (a : ℕ). Size f t a) (sym (same_size f n d r t D x y)) y.size)
]
