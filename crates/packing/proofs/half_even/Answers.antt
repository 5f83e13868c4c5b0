use mathlib.Core.Path.{◌≡◌, sym, ap, ◌∙◌}
use Prim.Native.Nat.{ℕ, suc, ◌+◌, ◌-◌, ◌*◌, ◌/◌, ◌%◌, ◌^◌, ◌≤◌, ◌<◌}
use native.Mathlib.Nat.{pow-suc, div-add-mod', mod-lt, mod-eq_of_lt, lt_of_le_of_lt, div-mul-le_self, div-le_self}
use native.Mathlib.Numerals.{add-one}
use native.Mathlib.Omega.{arith}
use lib.Pow.{pow_pos}
use lib.Ieee.Nearest.{closest}
use Rattle.packing.proofs.Half.{closest_even, closest_tie, closest_up}
use Rattle.packing.proofs.half_even.Goals as goal

-- n is h * p + r, with p half of 2 ^ sh
module _ (n sh : ℕ) (one : 1 ≤ sh) (fits : n < 2 ^ 64) where
  half : 2 ^ sh ≡ 2 ^ (sh - 1) * 2
  half =
      let e : suc (sh - 1) ≡ sh = omega arith in
      ap (λ (x : ℕ). 2 ^ x) (sym e) ∙ pow-suc 2 (sh - 1)

  cut : n ≡ n / 2 ^ (sh - 1) * 2 ^ (sh - 1) + n % 2 ^ (sh - 1)
  cut = sym (div-add-mod' n (2 ^ (sh - 1)))

  less : n % 2 ^ (sh - 1) < 2 ^ (sh - 1)
  less = mod-lt n (pow_pos (sh - 1))

  kept : n / 2 ^ (sh - 1) * 2 ^ (sh - 1) % 2 ^ 64 ≡ n / 2 ^ (sh - 1) * 2 ^ (sh - 1)
  kept = mod-eq_of_lt (lt_of_le_of_lt (div-mul-le_self n (2 ^ (sh - 1))) fits)

  even : n / 2 ^ (sh - 1) % 2 ≡ 0 → n / 2 ^ (sh - 1) / 2 ≡ closest n (2 ^ sh)
  even z = sym (closest_even n (2 ^ sh) (n / 2 ^ (sh - 1)) (2 ^ (sh - 1)) (n % 2 ^ (sh - 1)) half cut less z)

  halfway : (n / 2 ^ (sh - 1) % 2 ≡ 0 → ⊥) → n / 2 ^ (sh - 1) * 2 ^ (sh - 1) % 2 ^ 64 ≡ n → n / 2 ^ (sh - 1) / 2 + n / 2 ^ (sh - 1) / 2 % 2 ≡ closest n (2 ^ sh)
  halfway z e =
      sym (closest_tie n (2 ^ sh) (n / 2 ^ (sh - 1)) (2 ^ (sh - 1)) (n % 2 ^ (sh - 1)) half cut less (omega arith) (omega (arith, kept, cut)))

  above : (n / 2 ^ (sh - 1) % 2 ≡ 0 → ⊥) → (n / 2 ^ (sh - 1) * 2 ^ (sh - 1) % 2 ^ 64 ≡ n → ⊥) → n / 2 ^ (sh - 1) / 2 + 1 ≡ closest n (2 ^ sh)
  above z e =
      add-one (n / 2 ^ (sh - 1) / 2) ∙ sym (closest_up n (2 ^ sh) (n / 2 ^ (sh - 1)) (2 ^ (sh - 1)) (n % 2 ^ (sh - 1)) half cut less (omega arith) (omega (arith, kept, cut)))

pub overflow_add-result : goal.overflow_add-result
overflow_add-result c = omega (arith, div-le_self c.args.n (2 ^ (c.args.sh - 1)))

pub overflow_add-result-else-halves-shorter : goal.overflow_add-result-else-halves-shorter
overflow_add-result-else-halves-shorter c = omega (arith, div-le_self c.args.n (2 ^ (c.args.sh - 1)))

pub returns-then-halves-eq0 : goal.returns-then-halves-eq0
returns-then-halves-eq0 c = even c.args.n c.args.sh c.requires.0 c.ranges.n.fits c.if-halves-eq0.true

pub returns-then-halves-shorter : goal.returns-then-halves-shorter
returns-then-halves-shorter c = omega arith ∙ halfway c.args.n c.args.sh c.requires.0 c.ranges.n.fits c.if-halves-eq0.false (omega (arith, c.if-halves-shorter.true))

pub returns-else-halves-shorter : goal.returns-else-halves-shorter
returns-else-halves-shorter c = above c.args.n c.args.sh c.requires.0 c.ranges.n.fits c.if-halves-eq0.false (λ e. c.if-halves-shorter.false (omega arith))
