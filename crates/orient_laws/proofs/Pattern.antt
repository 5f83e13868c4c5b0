-- The bits of an angle: from 0 to those of the largest float below 360. Assumes nothing.
use Prim.Native.Nat.{ℕ, zero, suc, ◌+◌, ◌-◌, ◌*◌, ◌/◌, ◌%◌, ◌^◌, ◌<◌, ◌≤◌}
use mathlib.Core.Path.{◌≡◌, refl, sym, ap, ◌∙◌, subst}
use mathlib.Core.Bool.{Bool, true, false, false≢true}
use mathlib.Core.Logic.{⊎_elim}
use native.Mathlib.Nat.{mul_assoc, mul_comm, mul-one, lt_of_mul-lt-mul_right, div-add-mod', mod-eq_of_lt, mod-lt, mul-le-mul_right}
use native.Mathlib.Omega.{arith}
use borrow.Author.Tests.{leb-false}
use lib.Dec.{leb}
use lib.IntN.{pos}
use lib.Pow.{pow_pos, pow-add, pow_mono}
use lib.Ieee.{Float, nan, inf, fin, binary32, hid, top, lt, of_bits, to_bits}
use lib.Ieee.Exact.{HasValue}
use lib.Ieee.Scale.{finite}
use Rattle.lists.proofs.Naturals.{le_or_lt}
use Rattle.ieee.specs.Numbers.{whole_turn}
use Rattle.packing.proofs.Fields.{value_low, value_normal}
use Rattle.ieee_laws.proofs.Order.{Marked, endless, ended}
use Rattle.sheet.specs.Layout.{largest_angle}
use Rattle.orient_laws.proofs.Units.{At, value_at, at_less}
use Rattle.orient_laws.proofs.Wrap.{Angle}

-- 360, in the smallest units
turn_at_lem : At whole_turn (360 * 2 ^ 149)
unfolding of_bits
turn_at_lem = value_at (fin false 45 (pos 3)) (360 * 2 ^ 149) (refl, sym (mul-one (360 * 2 ^ 149)))

pub angle_finite : (a : Float) → Marked false a → lt a whole_turn ≡ true → finite a ≡ true
unfolding lt of_bits
angle_finite (inf false) endless h = absurd (false≢true h)
angle_finite (fin false m e) ended h = refl
angle_finite nan p h = elim p [ ]
angle_finite (inf true) p h = elim p [ ]
angle_finite (fin true m e) p h = elim p [ ]

sign_of : (a : Float) (s : Bool) (n c : ℕ) → Marked false a → HasValue a s n c → s ≡ false
sign_of (inf false) s n c endless h = absurd h
sign_of (fin false m e) s n c ended h = sym h.0
sign_of nan s n c p h = elim p [ ]
sign_of (inf true) s n c p h = elim p [ ]
sign_of (fin true m e) s n c p h = elim p [ ]

-- a leading digit, t below it, and x places behind, in units of 2 ^ -149: below 360
short : (t y : ℕ) → (8388608 + t) * 2 ^ y < 11796480 → (y ≡ 0) × (t < 3407872)
short t zero h = (refl, omega arith)
short t (suc y) h =
    let k : 2 ≤ 2 ^ suc y = pow_mono {i = 1} {j = suc y} (omega arith) in
    let m = mul-le-mul_right (8388608 + t) k in
    let e = mul_comm (2 ^ suc y) (8388608 + t) in
    absurd (omega arith)

far : (P t y : ℕ) → 0 < P → (8388608 + t) * (P * 2 ^ y) < 11796480 * P → (y ≡ 0) × (t < 3407872)
far P t y p h =
    let e : (8388608 + t) * (P * 2 ^ y) ≡ (8388608 + t) * 2 ^ y * P = ap (λ (z : ℕ). (8388608 + t) * z) (mul_comm P (2 ^ y)) ∙ sym (mul_assoc (8388608 + t) (2 ^ y) P) in
    short t y (lt_of_mul-lt-mul_right P (subst (λ (z : ℕ). z < 11796480 * P) e h))

small : (x t : ℕ) → t < 8388608 → (8388608 + t) * 2 ^ x < 360 * 2 ^ 149 → suc x * 8388608 + t < 1135869952
small x t l h = ⊎_elim near (λ k. omega arith) (le_or_lt 134 x)
  where
    near : 134 ≤ x → suc x * 8388608 + t < 1135869952
    near k =
        let e : x ≡ 134 + (x - 134) = omega arith in
        let p : 2 ^ x ≡ 2 ^ 134 * 2 ^ (x - 134) = ap (λ (z : ℕ). 2 ^ z) e ∙ pow-add 2 134 (x - 134) in
        let f = far (2 ^ 134) t (x - 134) (pow_pos 134) (subst (λ (z : ℕ). (8388608 + t) * z < 360 * 2 ^ 149) p h) in
        omega (arith, f.0, f.1)

parts : (b : ℕ) → b < 2147483648 → b % 2147483648 / 8388608 * 8388608 + b % 8388608 ≡ b
parts b h = ap (λ (z : ℕ). z / 8388608 * 8388608 + b % 8388608) (mod-eq_of_lt h) ∙ div-add-mod' b 8388608

module _ (a : Float) (g : Angle a) where
  abbrev b : ℕ
  b = to_bits binary32 a

  ends : finite a ≡ true
  ends = angle_finite a g.clear g.below

  low_field : (x : ℕ) → b % top binary32 / hid binary32 ≡ x → b < 1135869952
  low_field zero e =
      let v = value_low binary32 a g.held ends e in
      let s = leb-false (top binary32) b (sign_of a _ _ _ g.clear v) in
      omega (arith, parts b s, mod-lt b {m = 8388608} (omega arith))
  low_field (suc x) e =
      let v = value_normal binary32 a g.held ends x e in
      let z = sign_of a (leb (top binary32) b) _ _ g.clear v in
      let s = leb-false (top binary32) b z in
      let w : HasValue a false ((8388608 + b % 8388608) * 2 ^ x) (2 ^ 149) = subst (λ (t : Bool). HasValue a t ((8388608 + b % 8388608) * 2 ^ x) (2 ^ 149)) z v in
      let l = at_less a whole_turn _ _ (value_at a _ w) turn_at_lem g.below in
      let k = small x (b % 8388608) (mod-lt b (omega arith)) l in
      omega (arith, parts b s)

  pub pattern : to_bits binary32 a ≤ largest_angle
  pattern = omega (arith, low_field (b % top binary32 / hid binary32) refl)
