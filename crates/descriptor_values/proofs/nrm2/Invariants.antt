-- The four sums so far are the lanes of the values passed. Assumes nothing.
use mathlib.Core.Path.{◌≡◌}
use Rattle.descriptor_values.specs.Values.{lane}
use Rattle.descriptor_values.proofs.nrm2.Given as goal

abbrev pub invariant-loop-n : goal.invariant-loop-n
invariant-loop-n l = record {
  first : l.a ≡ lane l.v 0 l.n;
  second : l.b ≡ lane l.v 1 l.n;
  third : l.c ≡ lane l.v 2 l.n;
  fourth : l.d ≡ lane l.v 3 l.n;
}
