use Prim.Native.Nat.{◌-◌}
use Rattle.std.specs.Prelude.{min}
use Rattle.detect_rows.specs.Forms.{run_leaves}
use Rattle.detect_words.proofs.Words.{Filled}
use Rattle.detect_rows.proofs.block_words.Given as goal

abbrev pub invariant-loop-lo : goal.invariant-loop-lo
invariant-loop-lo l = Filled l.initial.out l.p.from (run_leaves l.p.form l.dog l.t l.s l.u.row l.u.lo (min l.lo l.u.hi)) l.out l.n

abbrev pub decreases-loop-lo : goal.decreases-loop-lo
decreases-loop-lo l = l.u.hi - l.lo
