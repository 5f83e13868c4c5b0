use mathlib.Core.Path.{◌≡◌}
use Rattle.detect_samples.specs.Rows.{span_good}
use Rattle.detect_samples.proofs.columns_good.Given as goal

abbrev pub invariant-loop-c : goal.invariant-loop-c
invariant-loop-c l = l.ok ≡ span_good l.t l.r l.lo l.c l.d
