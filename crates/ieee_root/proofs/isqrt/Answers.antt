use mathlib.Core.Path.{◌≡◌, sym, ap, ◌∙◌, subst}
use Prim.Native.Nat.{ℕ, suc, ◌+◌, ◌-◌, ◌*◌, ◌%◌, ◌^◌, ◌≤◌, ◌<◌, zero-le}
use native.Mathlib.Nat.{lt_of_le_of_lt, one-mul, pow-suc, mod-eq_of_lt, mul-le-mul}
use native.Mathlib.Omega.{arith}
use lib.Dec.{lit<, lit≤}
use lib.Pow.{pow_pos, pow_mono}
use Rattle.ieee_root.proofs.isqrt.Invariants.{Rooted}
use Rattle.ieee_root.proofs.isqrt.Goals as goal

-- the digit at place k - 1, half of the one before it
bit : (k : ℕ) → 0 < k → k ≤ 32 → 1 * 2 ^ (k - 1) % 2 ^ 64 ≡ 2 ^ (k - 1)
bit k p h = ap (λ (x : ℕ). x % 2 ^ 64) (one-mul (2 ^ (k - 1))) ∙ mod-eq_of_lt (lt_of_le_of_lt (pow_mono {i = k - 1} {j = 32} (omega arith)) (lit< tt))

half : (k : ℕ) → 0 < k → 2 ^ k ≡ 2 ^ (k - 1) * 2
half k p =
    let e : suc (k - 1) ≡ k = omega arith in
    ap (λ (x : ℕ). 2 ^ x) (sym e) ∙ pow-suc 2 (k - 1)

square_in : (t : ℕ) → t < 2 ^ 32 → t * t < 2 ^ 64
square_in t h = let l : t ≤ 2 ^ 32 - 1 = omega arith in lt_of_le_of_lt (mul-le-mul l l) (lit< tt)

module _ (n r k : ℕ) (p : 0 < k) (i : Rooted n r k) where
  abbrev b : ℕ
  b = 1 * 2 ^ (k - 1) % 2 ^ 64

  t_in : r + b < 2 ^ 32
  t_in = omega (arith, i.3, half k p, bit k p i.0, pow_pos (k - 1))

  taken : (r + b) * (r + b) ≤ n → Rooted n (r + b) (k - 1)
  taken h =
      let e : r + b + 2 ^ (k - 1) ≡ r + 2 ^ k = omega (arith, half k p, bit k p i.0) in
      (omega arith, h, subst (λ (x : ℕ). n < x * x) (sym e) i.2, omega arith)

  left : n < (r + b) * (r + b) → Rooted n r (k - 1)
  left h = (omega arith, i.1, subst (λ (x : ℕ). n < (r + x) * (r + x)) (bit k p i.0) h, omega (arith, i.3, half k p))

pub loop-k-init : goal.loop-k-init
loop-k-init c = (lit≤ tt, zero-le, c.ranges.n.fits, lit≤ tt)

pub overflow_add-t : goal.overflow_add-t
overflow_add-t c = omega (arith, t_in c.args.n c.loop-k.r c.loop-k.k c.loop-k-test.true c.loop-k.invariant)

pub overflow_mul-t : goal.overflow_mul-t
overflow_mul-t c = record { fits = square_in (c.loop-k.r + b c.args.n c.loop-k.r c.loop-k.k c.loop-k-test.true c.loop-k.invariant) (t_in c.args.n c.loop-k.r c.loop-k.k c.loop-k-test.true c.loop-k.invariant) }

pub loop-k-preserved-then-t-n : goal.loop-k-preserved-then-t-n
loop-k-preserved-then-t-n c = taken c.args.n c.loop-k.r c.loop-k.k c.loop-k-test.true c.loop-k.invariant c.if-t-n.true

pub loop-k-preserved : goal.loop-k-preserved
loop-k-preserved c = left c.args.n c.loop-k.r c.loop-k.k c.loop-k-test.true c.loop-k.invariant c.if-t-n.false

pub returns : goal.returns
returns c =
    let i = c.loop-k.invariant in
    let z : c.loop-k.k ≡ 0 = omega arith in
    (i.1, subst (λ (x : ℕ). c.args.n < (c.loop-k.r + 2 ^ x) * (c.loop-k.r + 2 ^ x)) z i.2)
