use Rattle.thin_source.specs.Sources.{is_all, from_of, to_of, candidate}
use Rattle.thin_source.proofs.Sources.{weighed}
use Rattle.thin_source.proofs.Adding.{Adding}
use Rattle.thin_source.proofs.put.Given as goal

abbrev pub invariant-loop-k : goal.invariant-loop-k
invariant-loop-k l = Adding (weighed l.words l.e l.t) (candidate (is_all l.c) l.s) l.initial.out l.out l.at (from_of l.c) (to_of l.c) l.k l.m
