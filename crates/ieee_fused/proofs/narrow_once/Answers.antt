-- `narrow_once` meets its contract: off the midpoints the nearest f32 is a sum and a shift of the pattern. Assumes nothing.
use mathlib.Core.Path.{ap, ◌∙◌}
use mathlib.Core.Bool.{cond}
use Prim.Native.Nat.{ℕ, ◌+◌}
use lib.Dec.{leb}
use lib.Ieee.{binary32, binary64, top, of_bits}
use Rattle.ieee.proofs.Doubled.{narrow_is}
use Rattle.ieee_fused.proofs.narrow_once.Goals as goal

pub returns : goal.returns
returns c = let n = c.args.n in c.with_sign.ensures ∙ ap (λ (z : ℕ). of_bits binary32 (cond (leb (top binary64) n) (top binary32) 0 + z)) c.narrow_bits.ensures ∙ narrow_is n c.requires
