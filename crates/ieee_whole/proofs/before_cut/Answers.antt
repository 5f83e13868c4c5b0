-- `before_cut` meets its contract: a shift of 1 is a power of two. Assumes nothing.
use mathlib.Core.Path.{◌≡◌, sym, ap, ◌∙◌, subst}
use Prim.Native.Nat.{ℕ, ◌+◌, ◌-◌, ◌*◌, ◌/◌, ◌%◌, ◌^◌, ◌≤◌}
use native.Mathlib.Omega.{arith}
use mathlib.Core.Bool.{Bool, true}
use lib.Pow.{pow_pos}
use Rattle.ieee_whole.specs.declared.Way.{Way}
use Rattle.ieee_whole.specs.declared.Way.TheVariants.{Down, Near}
use Rattle.ieee_whole.specs.Parts.{before_cut}
use Rattle.ieee_whole.proofs.Flat.{one_shift, twice_less}
use Rattle.ieee_whole.proofs.before_cut.Goals as goal

down : (w : Way) (s : Bool) (m b r : ℕ) → w ≡ Down → s ≡ true → r ≡ b - 1 → r ≡ before_cut w s m b
down w s m b r e f g = g ∙ sym (ap (λ (v : Way). before_cut v s m b) e ∙ ap (λ (z : Bool). before_cut Down z m b) f)

near : (w : Way) (s : Bool) (m h r : ℕ) → w ≡ Near → 1 ≤ h → r ≡ 2 ^ (h - 1) - 1 + m / 2 ^ h % 2 → r ≡ before_cut w s m (2 ^ h)
near w s m h r e l g = g ∙ ap (λ (x : ℕ). x - 1 + m / 2 ^ h % 2) (omega (arith, twice_less h l)) ∙ sym (ap (λ (v : Way). before_cut v s m (2 ^ h)) e)

some : (h : ℕ) → h ≤ 40 → 1 ≤ 1 * 2 ^ h % 2 ^ 64
some h l = subst (λ (x : ℕ). 1 ≤ x) (sym (one_shift h l)) (pow_pos h)

less : (h : ℕ) → h ≤ 40 → h - 1 ≤ 40
less h l = omega arith

pub overflow_sub-result : goal.overflow_sub-result
overflow_sub-result c = some c.args.h c.requires.1

pub overflow_sub-result-in-Near-2 : goal.overflow_sub-result-in-Near-2
overflow_sub-result-in-Near-2 c = some (c.args.h - 1) (less c.args.h c.requires.1)

pub returns-then-s : goal.returns-then-s
returns-then-s c = down c.args.w c.args.s c.args.m (2 ^ c.args.h) _ c.in-Down.is c.if-s.true (ap (λ (x : ℕ). x - 1) (one_shift c.args.h c.requires.1))

pub returns-in-Near : goal.returns-in-Near
returns-in-Near c =
    near c.args.w c.args.s c.args.m c.args.h _ c.in-Near.is c.requires.0 (ap (λ (x : ℕ). x - 1 + c.args.m / 2 ^ c.args.h % 2) (one_shift (c.args.h - 1) (less c.args.h c.requires.1)))
