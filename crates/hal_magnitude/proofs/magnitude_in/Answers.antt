use mathlib.Core.Path.{sym, ◌∙◌, subst}
use lib.Dec.{T}
use Rattle.hal_magnitude.proofs.MagnitudeLaws.{mild_of, inner_finite, magnitude_is}
use Rattle.hal_magnitude.proofs.magnitude_in.Goals as goal

pub length_with-requires : goal.length_with-requires
length_with-requires c = (mild_of c.guesses.result.now c.guesses.ensures, inner_finite c.args.dx c.args.dy (subst T (sym c.requires) tt))

pub returns : goal.returns
returns c = c.length_with.ensures ∙ sym (magnitude_is c.args.dx c.args.dy (subst T (sym c.requires) tt))
