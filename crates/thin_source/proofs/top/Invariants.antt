use Rattle.thin_source.proofs.Topping.{Tops}
use Rattle.thin_source.proofs.top.Given as goal

abbrev pub invariant-loop-found : goal.invariant-loop-found
invariant-loop-found l = Tops l.words l.r l.q l.t l.found
