-- `sum` by the order of its two parts. Assumes nothing.
use mathlib.Core.Path.{◌≡◌, refl, sym, ap, ap₂, ◌∙◌, subst}
use mathlib.Core.Logic.{◌⊎◌, inl, inr}
use Prim.Native.Nat.{ℕ, ◌+◌, ◌-◌, ◌*◌, ◌≤◌, ◌<◌}
use native.Mathlib.Nat.{le_of_eq, le_of_lt, zero-add, sub-zero, zero-mul, add_comm, add-mul, mul_comm, mul-sub, mul-lt-mul_of_pos_right, lt_of_mul-lt-mul_right, eq_of_mul-eq-mul_right}
use native.Mathlib.Omega.{arith}
use mathlib.Core.Bool.{Bool, true, false, ◌&&◌, beq, cond, true≢false}
use lib.Dec.{ltb, lt→ltb}
use lib.Arith.{le→nltb}
use lib.Ieee.{Float, Format, round, sum}
use lib.Ieee.Bits.{is_true, is_false}
use lib.Ieee.Scale.{round_same}
use Rattle.lists.proofs.Naturals.{le_or_lt}
use Rattle.lists.proofs.Bools.{and_false, and_true}

yes : (a b : ℕ) → a < b → ltb a b ≡ true
yes a b h = is_true (ltb a b) (lt→ltb a b h)

no : (a b : ℕ) → b ≤ a → ltb a b ≡ false
no a b h = is_false (ltb a b) (le→nltb a b h)

abbrev choose : Format → Bool → Bool → Bool → Bool → Bool → ℕ → ℕ → ℕ → Float
choose f s t x y z a b c = cond x (round f s (a + b) c) (cond y (round f t (b - a) c) (round f (s && z) (a - b) c))

sum_is : (f : Format) (s : Bool) (a : ℕ) (t : Bool) (b c : ℕ) → sum f s a t b c ≡ choose f s t (beq s t) (ltb a b) (ltb b a) a b c
unfolding sum
sum_is f s a t b c = refl

module _ (f : Format) (s : Bool) (a : ℕ) (t : Bool) (b c : ℕ) where
  pub sum_like : beq s t ≡ true → sum f s a t b c ≡ round f s (a + b) c
  sum_like e = sum_is f s a t b c ∙ ap (λ (x : Bool). choose f s t x (ltb a b) (ltb b a) a b c) e

  pub sum_more : beq s t ≡ false → b < a → sum f s a t b c ≡ round f s (a - b) c
  sum_more e h =
      sum_is f s a t b c
      ∙ ap (λ (x : Bool). choose f s t x (ltb a b) (ltb b a) a b c) e
      ∙ ap₂ (λ (y z : Bool). choose f s t false y z a b c) (no a b (le_of_lt h)) (yes b a h)
      ∙ ap (λ (x : Bool). round f x (a - b) c) (and_true s)

  pub sum_less : beq s t ≡ false → a < b → sum f s a t b c ≡ round f t (b - a) c
  sum_less e h =
      sum_is f s a t b c
      ∙ ap (λ (x : Bool). choose f s t x (ltb a b) (ltb b a) a b c) e
      ∙ ap (λ (y : Bool). choose f s t false y (ltb b a) a b c) (yes a b h)

  pub sum_none : beq s t ≡ false → a ≡ b → sum f s a t b c ≡ round f false 0 c
  sum_none e h =
      sum_is f s a t b c
      ∙ ap (λ (x : Bool). choose f s t x (ltb a b) (ltb b a) a b c) e
      ∙ ap₂ (λ (y z : Bool). choose f s t false y z a b c) (no a b (le_of_eq (sym h))) (no b a (le_of_eq h))
      ∙ ap₂ (λ (x : Bool) (y : ℕ). round f x y c) (and_false s) (omega arith)

pub order : (a b : ℕ) → (a < b) ⊎ ((b < a) ⊎ (a ≡ b))
order a b = elim (le_or_lt b a) [
  | inr h ↦ inl h
  | inl h ↦ elim (le_or_lt a b) [ inl g ↦ inr (inr (omega arith)) | inr g ↦ inr (inl g) ]
]

pub like_or_not : (x : Bool) → (x ≡ true) ⊎ (x ≡ false)
like_or_not true = inl refl
like_or_not false = inr refl

beq_sym : (s t : Bool) → beq s t ≡ beq t s
beq_sym true true = refl
beq_sym true false = refl
beq_sym false true = refl
beq_sym false false = refl

beq_eq : (s t : Bool) → beq s t ≡ true → s ≡ t
beq_eq true true h = refl
beq_eq true false h = absurd (true≢false (sym h))
beq_eq false true h = absurd (true≢false (sym h))
beq_eq false false h = refl

pub sum_comm : (f : Format) (s : Bool) (a : ℕ) (t : Bool) (b c : ℕ) → sum f s a t b c ≡ sum f t b s a c
sum_comm f s a t b c = elim (like_or_not (beq s t)) [
  | inl e ↦ sum_like f s a t b c e ∙ ap₂ (λ (x : Bool) (y : ℕ). round f x y c) (beq_eq s t e) (add_comm a b) ∙ sym (sum_like f t b s a c (beq_sym t s ∙ e))
  | inr e ↦
      (let e' : beq t s ≡ false = beq_sym t s ∙ e in
      elim (order a b) [
        | inl h ↦ sum_less f s a t b c e h ∙ sym (sum_more f t b s a c e' h)
        | inr (inl h) ↦ sum_more f s a t b c e h ∙ sym (sum_less f t b s a c e' h)
        | inr (inr h) ↦ sum_none f s a t b c e h ∙ sym (sum_none f t b s a c e' (sym h))
      ])
]

-- ---- equal fractions have one sum
pub diff_mul : (a b c : ℕ) → (a - b) * c ≡ a * c - b * c
diff_mul a b c = mul_comm (a - b) c ∙ mul-sub c a b ∙ ap₂ (λ (x y : ℕ). x - y) (mul_comm c a) (mul_comm c b)

module _ (f : Format) (s : Bool) (a : ℕ) (t : Bool) (b c a' b' c' : ℕ) (C : 0 < c) (C' : 0 < c') (p : a * c' ≡ a' * c) (q : b * c' ≡ b' * c) where
  lt_same : a < b → a' < b'
  lt_same h = lt_of_mul-lt-mul_right c (subst (λ (x : ℕ). x < b' * c) p (subst (λ (x : ℕ). a * c' < x) q (mul-lt-mul_of_pos_right h C')))

  gt_same : b < a → b' < a'
  gt_same h = lt_of_mul-lt-mul_right c (subst (λ (x : ℕ). x < a' * c) q (subst (λ (x : ℕ). b * c' < x) p (mul-lt-mul_of_pos_right h C')))

  pub sum_same : sum f s a t b c ≡ sum f s a' t b' c'
  sum_same = elim (like_or_not (beq s t)) [
    | inl e ↦
        sum_like f s a t b c e
        ∙ round_same f s (a + b) c (a' + b') c' C C' (add-mul a b c' ∙ ap₂ (λ (x y : ℕ). x + y) p q ∙ sym (add-mul a' b' c))
        ∙ sym (sum_like f s a' t b' c' e)
    | inr e ↦ elim (order a b) [
      | inl h ↦
          sum_less f s a t b c e h
          ∙ round_same f t (b - a) c (b' - a') c' C C' (diff_mul b a c' ∙ ap₂ (λ (x y : ℕ). x - y) q p ∙ sym (diff_mul b' a' c))
          ∙ sym (sum_less f s a' t b' c' e (lt_same h))
      | inr (inl h) ↦
          sum_more f s a t b c e h
          ∙ round_same f s (a - b) c (a' - b') c' C C' (diff_mul a b c' ∙ ap₂ (λ (x y : ℕ). x - y) p q ∙ sym (diff_mul a' b' c))
          ∙ sym (sum_more f s a' t b' c' e (gt_same h))
      | inr (inr h) ↦
          sum_none f s a t b c e h
          ∙ round_same f false 0 c 0 c' C C' (zero-mul c' ∙ sym (zero-mul c))
          ∙ sym (sum_none f s a' t b' c' e (eq_of_mul-eq-mul_right c C a' b' (sym p ∙ ap (λ (x : ℕ). x * c') h ∙ q)))
    ]
  ]

-- ---- a part that is zero
pub sum_zero_left : (f : Format) (s : Bool) (t : Bool) (b c : ℕ) → 0 < b → sum f s 0 t b c ≡ round f t b c
sum_zero_left f s t b c h = elim (like_or_not (beq s t)) [
  | inl e ↦ sum_like f s 0 t b c e ∙ ap₂ (λ (x : Bool) (y : ℕ). round f x y c) (beq_eq s t e) (zero-add b)
  | inr e ↦ sum_less f s 0 t b c e h ∙ ap (λ (y : ℕ). round f t y c) (sub-zero b)
]

pub sum_zeros : (f : Format) (s t : Bool) (c : ℕ) → sum f s 0 t 0 c ≡ round f (s && t) 0 c
sum_zeros f true true c = sum_like f true 0 true 0 c refl
sum_zeros f true false c = sum_none f true 0 false 0 c refl refl
sum_zeros f false true c = sum_none f false 0 true 0 c refl refl
sum_zeros f false false c = sum_like f false 0 false 0 c refl
