use native.Mathlib.Nat.{mul-le-mul}
use native.Mathlib.Omega.{arith}
use Rattle.params.specs.Limits.{max_side}
use Rattle.orient_tally.specs.Tally.{gathered_of}
use Rattle.orient_window.proofs.Cells.{read_is}
use Rattle.orient_gather.proofs.tally_of.Goals as goal

pub overflow_mul-read : goal.overflow_mul-read
overflow_mul-read c =
    let f = c.requires.fits in
    let w = c.args.win in
    omega (arith, mul-le-mul {n₁ = w.rows} {m₁ = w.cols} {n₂ = max_side} {m₂ = max_side} (omega (arith, f)) (omega (arith, f)))

pub returns : goal.returns
unfolding gathered_of
returns c = rw (c.gather.ensures, read_is)
