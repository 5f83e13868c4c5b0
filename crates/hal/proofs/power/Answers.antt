use mathlib.Core.Path.{◌≡◌, sym, ap, ◌∙◌, subst}
use lib.Pow.{field, mod-mod-pow}
use Prim.Native.Nat.{ℕ, ◌/◌, ◌%◌, ◌≤◌}
use native.Mathlib.Omega.{arith}
use Rattle.hal.specs.Exp.{power_of}
use Rattle.hal.proofs.ExpLaws.{Part, part}
use Rattle.hal.proofs.power.Goals as goal

pub scaled-requires : goal.scaled-requires
scaled-requires c =
    let m : Part c.args.v = part c.args.v in
    (subst (λ (z : ℕ). 8388608 ≤ z) (sym c.mix.ensures) m.above, subst (λ (z : ℕ). z ≤ 16777216) (sym c.mix.ensures) m.below, omega arith, omega arith)

pub returns : goal.returns
unfolding power_of
returns c =
    let v = c.args.v in
    let i : v % 274877906944 / 8388608 % 256 ≡ v / 8388608 % 256 = ap (λ (z : ℕ). z % 256) (field v 15 23) ∙ mod-mod-pow (v / 8388608) 7 8 in
    let g : v % 274877906944 % 8388608 ≡ v % 8388608 = mod-mod-pow v 15 23 in
    let k : v % 274877906944 / 2147483648 ≡ v / 2147483648 % 128 = field v 7 31 in
    simp (c.scaled.ensures, c.mix.ensures, i, g, k)
