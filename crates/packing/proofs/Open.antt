-- A fraction that lies strictly between two neighbouring multiples of a power of two rounds as any other fraction there does, as long as the lower one of the two is
-- a multiple by an i of more than `prec` digits. So lost digits may be kept as one odd digit (`round_sticky`). Assumes nothing.
use mathlib.Core.Path.{◌≡◌, refl, sym, ap, ◌∙◌, subst}
use mathlib.Core.Logic.{◌⊎◌, inl, inr}
use Prim.Native.Nat.{ℕ, suc, ◌+◌, ◌-◌, ◌*◌, ◌/◌, ◌%◌, ◌^◌, ◌≤◌, ◌<◌}
use native.Mathlib.Nat.{le_trans, le_of_eq, le_of_lt, lt_of_lt_of_le, lt_of_le_of_lt, zero-lt-suc, mul_comm, mul_assoc, mul_left_comm, mul_right_comm, mul-pos, mul-le-mul_right, mul-lt-mul_of_pos_right, lt_of_mul-lt-mul_right, div-mul-le_self, lt-div-mul-add, suc-mul, pow-suc}
use native.Mathlib.Omega.{arith}
use mathlib.Core.Bool.{Bool}
use lib.Pow.{pow-add, pow_pos}
use lib.Ieee.{Format, prec, low, size, units, round}
use lib.Ieee.Fits.{round_is}
use lib.Ieee.Digits.{size-lt, size_reaches}
use lib.Ieee.Nearest.{closest, closest_same}
use Rattle.lists.proofs.Naturals.{le_or_lt}
use Rattle.packing.proofs.Size.{size_frac, size_gt}
use Rattle.packing.proofs.Half.{closest_even, closest_up}

-- ---- strictly between h and h + 1 halves
closest_open : (a p h : ℕ) → h * p < a → a < suc h * p → closest a (p * 2) ≡ suc h / 2
closest_open a p h lo hi =
    let e : a ≡ h * p + (a - h * p) = omega arith in
    let s : suc h * p ≡ h * p + p = suc-mul h p in
    let l : a - h * p < p = omega arith in
    let g : 0 < a - h * p = omega arith in
    elim (even_or_odd h) [
      | inl z ↦ closest_even a (p * 2) h p (a - h * p) refl e l z ∙ omega arith
      | inr z ↦ closest_up a (p * 2) h p (a - h * p) refl e l z g ∙ omega arith
    ]
  where
    even_or_odd : (h : ℕ) → (h % 2 ≡ 0) ⊎ (h % 2 ≡ 1)
    even_or_odd h = elim (le_or_lt (h % 2) 0) [ inl z ↦ inl (omega arith) | inr z ↦ inr (omega arith) ]

-- num / den lies strictly between i * 2 ^ y / 2 ^ b and (i + 1) * 2 ^ y / 2 ^ b
abbrev pub Between : ℕ → ℕ → ℕ → ℕ → ℕ → Type 0
Between i y b num den = (i * 2 ^ y * den < num * 2 ^ b) × (num * 2 ^ b < suc i * 2 ^ y * den)

module _ (f : Format) (s : Bool) (i y b a : ℕ) (lo : 2 ^ a ≤ i) (hi : i < 2 ^ suc a) (keep : prec f ≤ a) where
  abbrev drop : ℕ
  drop = suc (a + y + low f) - b - prec f

  abbrev gap : ℕ
  gap = drop + b - suc (y + low f)

  gap_is : suc (y + low f) + gap ≡ drop + b
  gap_is = omega arith

  module _ (num den : ℕ) (D : 0 < den) (w : Between i y b num den) where
    size_open : size (num * 2 ^ low f / den) ≡ suc (a + y + low f) - b
    size_open = size_frac (num * 2 ^ low f) den (a + y + low f) b D
        (le_trans (le_of_eq e1) (le_trans (mul-le-mul_right (2 ^ low f) (le_trans (mul-le-mul_right den (mul-le-mul_right (2 ^ y) lo)) (le_of_lt w.0))) (le_of_eq e2)))
        (lt_of_le_of_lt (le_of_eq (sym e2)) (lt_of_lt_of_le (mul-lt-mul_of_pos_right w.1 (pow_pos (low f))) (le_trans (mul-le-mul_right (2 ^ low f) (mul-le-mul_right den (mul-le-mul_right (2 ^ y) hi))) (le_of_eq e3))))
      where
        e1 : 2 ^ (a + y + low f) * den ≡ 2 ^ a * 2 ^ y * den * 2 ^ low f
        e1 = simp (pow-add, mul_assoc, mul_comm, mul_left_comm)

        e2 : num * 2 ^ b * 2 ^ low f ≡ num * 2 ^ low f * 2 ^ b
        e2 = mul_right_comm num (2 ^ b) (2 ^ low f)

        e3 : 2 ^ suc a * 2 ^ y * den * 2 ^ low f ≡ 2 ^ suc (a + y + low f) * den
        e3 = simp (pow-add, pow-suc, mul_assoc, mul_comm, mul_left_comm)

    -- p is half of the unit of rounding, for twice the fraction
    abbrev p : ℕ
    p = den * 2 ^ drop

    -- the scale at which both are compared
    abbrev scale : ℕ
    scale = 2 ^ suc (y + low f)

    p_is : p * 2 ^ b ≡ 2 ^ gap * den * scale
    p_is = mul_assoc den (2 ^ drop) (2 ^ b) ∙ ap (λ (x : ℕ). den * x) (sym (pow-add 2 drop b) ∙ ap (λ (x : ℕ). 2 ^ x) (sym gap_is) ∙ pow-add 2 (suc (y + low f)) gap) ∙ simp (mul_assoc, mul_comm, mul_left_comm)

    twice_is : num * 2 ^ low f * 2 * 2 ^ b ≡ num * 2 ^ b * (2 ^ low f * 2)
    twice_is = simp (mul_assoc, mul_comm, mul_left_comm)

    scaled : (x : ℕ) → x * 2 ^ y * den * (2 ^ low f * 2) ≡ x * den * scale
    scaled x = simp (mul_assoc, mul_comm, mul_left_comm) (simp (mul_assoc, mul_comm, mul_left_comm) at (ap (λ (z : ℕ). x * den * z) (sym (pow-suc 2 (y + low f) ∙ ap (λ (z : ℕ). z * 2) (pow-add 2 y (low f))))))

    below : i / 2 ^ gap * p < num * 2 ^ low f * 2
    below = lt_of_mul-lt-mul_right (2 ^ b)
        (lt_of_le_of_lt (le_of_eq (mul_assoc (i / 2 ^ gap) p (2 ^ b) ∙ ap (λ (x : ℕ). i / 2 ^ gap * x) p_is ∙ simp (mul_assoc)))
        (lt_of_le_of_lt (mul-le-mul_right (den * scale) (div-mul-le_self i (2 ^ gap)))
        (lt_of_le_of_lt (le_of_eq (sym (mul_assoc i den scale) ∙ sym (scaled i)))
        (lt_of_lt_of_le (mul-lt-mul_of_pos_right w.0 (mul-pos (pow_pos (low f)) (zero-lt-suc 1))) (le_of_eq (sym twice_is))))))

    -- i + 1 is at most the next multiple of 2 ^ gap
    next : suc i ≤ suc (i / 2 ^ gap) * 2 ^ gap
    next = subst (λ (x : ℕ). suc i ≤ x) (sym (suc-mul (i / 2 ^ gap) (2 ^ gap))) (lt-div-mul-add (pow_pos gap))

    above : num * 2 ^ low f * 2 < suc (i / 2 ^ gap) * p
    above = lt_of_mul-lt-mul_right (2 ^ b)
        (lt_of_le_of_lt (le_of_eq twice_is)
        (lt_of_lt_of_le (mul-lt-mul_of_pos_right w.1 (mul-pos (pow_pos (low f)) (zero-lt-suc 1)))
        (le_trans (le_of_eq (scaled (suc i) ∙ mul_assoc (suc i) den scale))
        (le_trans (mul-le-mul_right (den * scale) next)
        (le_of_eq (sym (mul_assoc (suc (i / 2 ^ gap)) p (2 ^ b) ∙ ap (λ (x : ℕ). suc (i / 2 ^ gap) * x) p_is ∙ simp (mul_assoc))))))))

    pub round_open : round f s num den ≡ units f s (suc (i / 2 ^ gap) / 2) drop
    round_open =
        round_is f s num den
        ∙ ap (λ (j : ℕ). units f s (closest (num * 2 ^ low f) (den * 2 ^ j)) j) (ap (λ (x : ℕ). x - prec f) size_open)
        ∙ ap (λ (q : ℕ). units f s q drop)
        (closest_same (num * 2 ^ low f) p (num * 2 ^ low f * 2) (p * 2) (mul-pos D (pow_pos drop)) (mul-pos (mul-pos D (pow_pos drop)) (zero-lt-suc 1)) (simp (mul_assoc, mul_comm, mul_left_comm))
        ∙ closest_open (num * 2 ^ low f * 2) p (i / 2 ^ gap) below above)

-- ---- the odd number j = 2 * i + 1 stands for what lies strictly between j - 1 and j + 1
pub round_sticky : (f : Format) (s : Bool) (i x b num den : ℕ) → 0 < den → 2 ^ prec f ≤ i → Between i (suc x) b num den → round f s num den ≡ round f s ((i * 2 + 1) * 2 ^ x) (2 ^ b)
round_sticky f s i x b num den D keep w =
    let z = size i in
    let lo : 2 ^ (size i - 1) ≤ i = size_reaches i (size i - 1) (omega (arith, size_gt i (prec f) keep)) in
    let hi : i < 2 ^ suc (size i - 1) = subst (λ (y : ℕ). i < 2 ^ y) (omega (arith, size_gt i (prec f) keep)) (size-lt i) in
    let k : prec f ≤ size i - 1 = omega (arith, size_gt i (prec f) keep) in
    round_open f s i (suc x) b (size i - 1) lo hi k num den D w
    ∙ sym (round_open f s i (suc x) b (size i - 1) lo hi k ((i * 2 + 1) * 2 ^ x) (2 ^ b) (pow_pos b) (
      mul-lt-mul_of_pos_right (lt_of_le_of_lt (le_of_eq (twice i)) (mul-lt-mul_of_pos_right (one_more i) (pow_pos x))) (pow_pos b),
      mul-lt-mul_of_pos_right (lt_of_lt_of_le (mul-lt-mul_of_pos_right (one_less i) (pow_pos x)) (le_of_eq (sym (twice (suc i))))) (pow_pos b),
    ))
  where
    twice : (i : ℕ) → i * 2 ^ suc x ≡ i * 2 * 2 ^ x
    twice i = ap (λ (y : ℕ). i * y) (pow-suc 2 x ∙ mul_comm (2 ^ x) 2) ∙ sym (mul_assoc i 2 (2 ^ x))

    one_more : (i : ℕ) → i * 2 < i * 2 + 1
    one_more i = omega arith

    one_less : (i : ℕ) → i * 2 + 1 < suc i * 2
    one_less i = omega arith
