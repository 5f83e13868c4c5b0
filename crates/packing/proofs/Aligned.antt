-- A sum or a difference of an exact number and one with a sticky last digit rounds as that of the exact ones. Assumes nothing.
use mathlib.Core.Path.{◌≡◌, sym, ap, ◌∙◌, subst}
use mathlib.Core.Logic.{inl, inr}
use Prim.Native.Nat.{ℕ, suc, ◌+◌, ◌-◌, ◌*◌, ◌/◌, ◌%◌, ◌^◌, ◌≤◌, ◌<◌}
use native.Mathlib.Nat.{add-mul, suc-mul, mul_comm, mul_assoc, mul-lt-mul_of_pos_right, pow-suc}
use native.Mathlib.Omega.{arith}
use mathlib.Core.Bool.{Bool}
use lib.Pow.{pow-add, pow_pos}
use lib.Ieee.{binary32, round}
use lib.Ieee.Digits.{back}
use Rattle.packing.specs.Parts.{Sticky}
use Rattle.packing.proofs.Open.{round_sticky}
use Rattle.packing.proofs.Sums.{diff_mul}

-- ---- a number with a sticky last digit, at a lower place
moved : (x d e : ℕ) → d ≤ e → x * 2 ^ d * 2 ^ (e - d) ≡ x * 2 ^ e
moved x d e h = mul_assoc x (2 ^ d) (2 ^ (e - d)) ∙ ap (λ (y : ℕ). x * y) (mul_comm (2 ^ d) (2 ^ (e - d)) ∙ sym (pow-add 2 (e - d) d) ∙ ap (λ (y : ℕ). 2 ^ y) (back e d h))

moved_suc : (x d e : ℕ) → d ≤ e → x * 2 ^ suc d * 2 ^ (e - d) ≡ x * 2 ^ suc e
moved_suc x d e h = ap (λ (y : ℕ). x * 2 ^ suc d * 2 ^ y) (omega arith) ∙ moved x (suc d) (suc e) (omega arith)

pub sticky_moved : (b d e c : ℕ) → d ≤ e → Sticky b d c → Sticky (b * 2 ^ (e - d)) e c
sticky_moved b d e c h (inl p) = inl (sym (moved c d e h) ∙ ap (λ (y : ℕ). y * 2 ^ (e - d)) p)
sticky_moved b d e c h (inr (i, o, lo, hi, l)) = inr (
  i,
  o,
  subst (λ (y : ℕ). y < b * 2 ^ (e - d)) (moved_suc i d e h) (mul-lt-mul_of_pos_right lo (pow_pos (e - d))),
  subst (λ (y : ℕ). b * 2 ^ (e - d) < y) (moved_suc (suc i) d e h) (mul-lt-mul_of_pos_right hi (pow_pos (e - d))),
  l,
)

pub doubled : (h e : ℕ) → h * 2 * 2 ^ e ≡ h * 2 ^ suc e
doubled h e = mul_assoc h 2 (2 ^ e) ∙ ap (λ (y : ℕ). h * y) (mul_comm 2 (2 ^ e) ∙ sym (pow-suc 2 e))

-- what lies strictly between (i + 0) and (i + 1) rounds as 2 * i + 1 halves
open_round : (s : Bool) (i e g n : ℕ) → 2 ^ 24 ≤ i → i * 2 ^ suc e < n → n < suc i * 2 ^ suc e → round binary32 s n (2 ^ g) ≡ round binary32 s ((i * 2 + 1) * 2 ^ e) (2 ^ g)
open_round s i e g n k lo hi = round_sticky binary32 s i e g n (2 ^ g) (pow_pos g) k (mul-lt-mul_of_pos_right lo (pow_pos g), mul-lt-mul_of_pos_right hi (pow_pos g))

module _ (s : Bool) (a B c e g : ℕ) (full : 2 ^ 61 ≤ a) (even : a % 2 ≡ 0) where
  half : a ≡ a / 2 * 2
  half = omega arith

  a_is : a * 2 ^ e ≡ a / 2 * 2 ^ suc e
  a_is = ap (λ (y : ℕ). y * 2 ^ e) half ∙ doubled (a / 2) e

  pub plus : Sticky B e c → round binary32 s (a * 2 ^ e + B) (2 ^ g) ≡ round binary32 s ((a + c) * 2 ^ e) (2 ^ g)
  plus (inl p) = ap (λ (y : ℕ). round binary32 s y (2 ^ g)) (ap (λ (y : ℕ). a * 2 ^ e + y) (sym p) ∙ sym (add-mul a c (2 ^ e)))
  plus (inr (i, o, lo, hi, l)) =
      let E = 2 ^ suc e in
      let x : (a / 2 + i) * 2 ^ suc e ≡ a * 2 ^ e + i * 2 ^ suc e = add-mul (a / 2) i (2 ^ suc e) ∙ ap (λ (y : ℕ). y + i * 2 ^ suc e) (sym a_is) in
      let y : suc (a / 2 + i) * 2 ^ suc e ≡ (a / 2 + i) * 2 ^ suc e + 2 ^ suc e = suc-mul (a / 2 + i) (2 ^ suc e) in
      let z : suc i * 2 ^ suc e ≡ i * 2 ^ suc e + 2 ^ suc e = suc-mul i (2 ^ suc e) in
      let w : (a / 2 + i) * 2 + 1 ≡ a + c = omega (arith, half) in
      open_round s (a / 2 + i) e g (a * 2 ^ e + B) (omega arith) (omega arith) (omega arith)
      ∙ ap (λ (y : ℕ). round binary32 s (y * 2 ^ e) (2 ^ g)) w

  pub less : c < a → Sticky B e c → B < a * 2 ^ e
  less h (inl p) = subst (λ (y : ℕ). y < a * 2 ^ e) p (mul-lt-mul_of_pos_right h (pow_pos e))
  less h (inr (i, o, lo, hi, l)) =
      let k : a / 2 ≡ a / 2 - suc i + suc i = omega (arith, half) in
      let x : a / 2 * 2 ^ suc e ≡ (a / 2 - suc i) * 2 ^ suc e + suc i * 2 ^ suc e = ap (λ (y : ℕ). y * 2 ^ suc e) k ∙ add-mul (a / 2 - suc i) (suc i) (2 ^ suc e) in
      omega (arith, a_is)

  pub take : c < a → Sticky B e c → round binary32 s (a * 2 ^ e - B) (2 ^ g) ≡ round binary32 s ((a - c) * 2 ^ e) (2 ^ g)
  take h (inl p) = ap (λ (y : ℕ). round binary32 s y (2 ^ g)) (ap (λ (y : ℕ). a * 2 ^ e - y) (sym p) ∙ sym (diff_mul a c (2 ^ e)))
  take h (inr (i, o, lo, hi, l)) =
      let i' = a / 2 - suc i in
      let k : a / 2 ≡ a / 2 - suc i + suc i = omega (arith, half) in
      let x : a / 2 * 2 ^ suc e ≡ (a / 2 - suc i) * 2 ^ suc e + suc i * 2 ^ suc e = ap (λ (y : ℕ). y * 2 ^ suc e) k ∙ add-mul (a / 2 - suc i) (suc i) (2 ^ suc e) in
      let y : suc (a / 2 - suc i) * 2 ^ suc e ≡ (a / 2 - suc i) * 2 ^ suc e + 2 ^ suc e = suc-mul (a / 2 - suc i) (2 ^ suc e) in
      let z : suc i * 2 ^ suc e ≡ i * 2 ^ suc e + 2 ^ suc e = suc-mul i (2 ^ suc e) in
      let w : (a / 2 - suc i) * 2 + 1 ≡ a - c = omega (arith, half) in
      open_round s (a / 2 - suc i) e g (a * 2 ^ e - B) (omega (arith, half)) (omega (arith, a_is)) (omega (arith, a_is))
      ∙ ap (λ (y : ℕ). round binary32 s (y * 2 ^ e) (2 ^ g)) w

  -- where the number with the sticky digit is no smaller, it is exact
  pub exact : a ≤ c → Sticky B e c → c * 2 ^ e ≡ B
  exact h (inl p) = p
  exact h (inr (i, o, lo, hi, l)) = absurd (omega arith)
