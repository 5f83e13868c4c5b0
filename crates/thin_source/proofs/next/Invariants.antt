use Rattle.thin_rule.specs.Strength.{strength}
use Rattle.thin_source.specs.Sources.{is_all, from_of, to_of, candidate}
use Rattle.thin_source.proofs.Topping.{Topping, capped}
use Rattle.thin_source.proofs.next.Given as goal

abbrev pub invariant-loop-k : goal.invariant-loop-k
invariant-loop-k l = Topping (capped l.words l.e l.u) (strength l.words) (candidate (is_all l.c) l.s) (from_of l.c) (to_of l.c) l.k l.b
