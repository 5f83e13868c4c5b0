use Rattle.thin_source.specs.Sources.{is_all, from_of, to_of, candidate}
use Rattle.thin_source.proofs.Sources.{weighed, Tallied}
use Rattle.thin_source.proofs.tally.Given as goal

abbrev pub invariant-loop-k : goal.invariant-loop-k
invariant-loop-k l = Tallied (weighed l.words l.e l.t) (candidate (is_all l.c) l.s) (from_of l.c) (to_of l.c) l.k l.m
