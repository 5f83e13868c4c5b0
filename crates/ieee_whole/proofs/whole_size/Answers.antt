-- `whole_size` meets its contract: what is added and cut is the whole number, and 40 digits are as many as any more. Assumes nothing.
use mathlib.Core.Path.{◌≡◌, sym, ap, ◌∙◌, subst}
use Prim.Native.Nat.{ℕ, ◌+◌, ◌/◌, ◌^◌, ◌≤◌, min}
use native.Mathlib.Omega.{arith}
use lib.Pow.{pow_pos}
use Rattle.ieee_whole.specs.Parts.{whole_size}
use Rattle.ieee_whole.proofs.Flat.{size_stop, size_sum, size_le, cut_le, power_lt}
use Rattle.ieee_whole.proofs.whole_size.Goals as goal

far : (d h : ℕ) → h ≡ min d 40 → h ≤ 40
far d h e = omega arith

some : (d h : ℕ) → 1 ≤ d → h ≡ min d 40 → 1 ≤ h
some d h l e = omega arith

pub overflow_add-result : goal.overflow_add-result
overflow_add-result c =
    let h = c.min-h.result in
    omega (arith, c.before_cut.ensures, cut_le c.args.w c.args.s c.args.m (2 ^ h) (pow_pos h), power_lt h (far c.args.d h c.min-h.ensures))

pub returns-clause-value : goal.returns-clause-value
returns-clause-value c =
    let h = c.min-h.result in
    let e : (c.args.m + c.before_cut.result) / 2 ^ h ≡ whole_size c.args.w c.args.s c.args.m (2 ^ c.args.d) =
    ap (λ (x : ℕ). (c.args.m + x) / 2 ^ h) c.before_cut.ensures
    ∙ size_sum c.args.w c.args.s c.args.m h (some c.args.d h c.requires.1 c.min-h.ensures)
    ∙ size_stop c.args.w c.args.s c.args.m c.args.d h c.requires.0 c.min-h.ensures in
    e

pub returns-clause-small : goal.returns-clause-small
returns-clause-small c =
    let h = c.min-h.result in
    let e : (c.args.m + c.before_cut.result) / 2 ^ h ≡ whole_size c.args.w c.args.s c.args.m (2 ^ c.args.d) =
    ap (λ (x : ℕ). (c.args.m + x) / 2 ^ h) c.before_cut.ensures
    ∙ size_sum c.args.w c.args.s c.args.m h (some c.args.d h c.requires.1 c.min-h.ensures)
    ∙ size_stop c.args.w c.args.s c.args.m c.args.d h c.requires.0 c.min-h.ensures in
    subst (λ (x : ℕ). x ≤ 2 ^ 24) (sym e) (size_le c.args.w c.args.s c.args.m c.args.d c.requires.0)
