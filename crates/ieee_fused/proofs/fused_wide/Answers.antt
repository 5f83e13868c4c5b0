-- `fused_wide` meets its contract: off the midpoints the f64 sum tells which f32 is nearest. Assumes nothing.
use mathlib.Core.Path.{sym, ◌∙◌, subst}
use lib.Dec.{T}
use lib.Ieee.{binary32, fits}
use Rattle.ieee.proofs.Doubled.{all_finite, fused_no_nan, fused_narrow}
use Rattle.ieee_fused.proofs.fused_wide.Goals as goal
use Rattle.ieee_fused.proofs.fused_wide.Goals.{Start}

A : (c : Start) → T (fits binary32 c.args.a)
A c = subst T (sym c.well_formed.0.1) tt

B : (c : Start) → T (fits binary32 c.args.b)
B c = subst T (sym c.well_formed.1.0.1) tt

C : (c : Start) → T (fits binary32 c.args.c)
C c = subst T (sym c.well_formed.1.1.0.1) tt

pub wide_fma-n-requires : goal.wide_fma-n-requires
wide_fma-n-requires c = let s = c.before.before in all_finite s.args.a s.args.b s.args.c (A s) (B s) (C s) (sym c.is_finite.ensures ∙ c.if-is_finite.true)

pub float_to_bits-n : goal.float_to_bits-n
float_to_bits-n c =
    let s = c.before.before.before in
    fused_no_nan s.args.a s.args.b s.args.c (A s) (B s) (C s) (sym c.is_finite.ensures ∙ c.if-is_finite.true) c.wide_fma-n.result c.wide_fma-n.ensures

pub returns-then-rounds_once : goal.returns-then-rounds_once
returns-then-rounds_once c =
    let s = c.before.before.before.before.before in
    let k = c.rounds_once.ensures.0 c.if-rounds_once.true in
    record { once = k; right = fused_narrow s.args.a s.args.b s.args.c (A s) (B s) (C s) (sym c.is_finite.ensures ∙ c.if-is_finite.true) c.wide_fma-n.result c.wide_fma-n.ensures k }
