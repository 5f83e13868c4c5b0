use mathlib.Core.Path.{◌≡◌}
use Rattle.lists.specs.Ranges.{every}
use Rattle.detect_samples.proofs.Spans.{span_in}
use Rattle.detect_samples.proofs.span_good.Given as goal

abbrev pub invariant-loop-p : goal.invariant-loop-p
invariant-loop-p l = l.ok ≡ every l.p (span_in l.t l.r l.lo l.hi l.d)
