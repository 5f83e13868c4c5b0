-- A fraction with a sign, by the part above zero and the part below; a sum of two is the rounding of one. For both formats. Assumes nothing.
use Prim.Native.Nat.{ℕ, ◌+◌, ◌-◌, ◌*◌, ◌<◌}
use mathlib.Core.Path.{◌≡◌, refl, sym, ◌∙◌}
use mathlib.Core.Bool.{Bool, true, false, cond}
use native.Mathlib.Nat.{zero-mul}
use native.Mathlib.Omega.{arith}
use borrow.Author.Tests.{ltb-true, ltb-false}
use lib.Dec.{ltb}
use lib.IntN.{pos}
use lib.Ieee.{fin, Format, binary32, binary64, round, sum}
use lib.Ieee.Scale.{round_same}

-- ---- zero

round_zero_one : (f : Format) (s : Bool) → round f s 0 1 ≡ fin s 0 (pos 0)
unfolding round
round_zero_one binary32 s = refl
round_zero_one binary64 s = refl

pub round_zero : (f : Format) (s : Bool) (n d : ℕ) → 0 < d → n ≡ 0 → round f s n d ≡ fin s 0 (pos 0)
round_zero f s n d h e = round_same f s n d 0 1 h (omega arith) (rw (e, zero-mul, zero-mul)) ∙ round_zero_one f s

-- ---- the part of ±a above zero and the part below: ±a is plus - minus

abbrev pub plus : Bool → ℕ → ℕ
plus s a = cond s 0 a

abbrev pub minus : Bool → ℕ → ℕ
minus s a = cond s a 0

pub plus_mul : (s : Bool) (a k : ℕ) → plus s (a * k) ≡ plus s a * k
plus_mul true a k = sym (zero-mul k)
plus_mul false a k = refl

pub minus_mul : (s : Bool) (a k : ℕ) → minus s (a * k) ≡ minus s a * k
minus_mul true a k = refl
minus_mul false a k = sym (zero-mul k)

-- ---- a sum of two fractions ±a / p and ±b / q

-- it is the rounding of one fraction, whose parts are the sums of the parts
pub record Summed (f : Format) (s : Bool) (a : ℕ) (t : Bool) (b c : ℕ) : Type 0 where
  pub sign : Bool
  pub size : ℕ
  pub is : sum f s a t b c ≡ round f sign size c
  pub parts : plus sign size + (minus s a + minus t b) ≡ minus sign size + (plus s a + plus t b)

pub summed : (f : Format) (s : Bool) (a : ℕ) (t : Bool) (b c : ℕ) → Summed f s a t b c
unfolding sum
summed f true a true b c = record { sign = true; size = a + b; is = refl; parts = omega arith }
summed f false a false b c = record { sign = false; size = a + b; is = refl; parts = omega arith }
summed f true a false b c = go (ltb a b) (ltb b a) refl refl
  where
    go : (p q : Bool) → ltb a b ≡ p → ltb b a ≡ q → Summed f true a false b c
    go true q u v = let l = ltb-true a b u in record { sign = false; size = b - a; is = rw u; parts = omega arith }
    go false true u v = let l = ltb-true b a v in record { sign = true; size = a - b; is = rw (u, v); parts = omega arith }
    go false false u v = let l = ltb-false a b u in let k = ltb-false b a v in record { sign = false; size = a - b; is = rw (u, v); parts = omega arith }
summed f false a true b c = go (ltb a b) refl
  where
    go : (p : Bool) → ltb a b ≡ p → Summed f false a true b c
    go true u = let l = ltb-true a b u in record { sign = true; size = b - a; is = rw u; parts = omega arith }
    go false u = let l = ltb-false a b u in record { sign = false; size = a - b; is = rw u; parts = omega arith }
