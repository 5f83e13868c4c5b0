use mathlib.Core.Path.{◌∙◌}
use Rattle.words.proofs.Inputs.{refused_told, short_told, done_told}
use Rattle.words.proofs.give_inputs.Goals as goal

pub returns-in_err-spot-clause-value : goal.returns-in_err-spot-clause-value
returns-in_err-spot-clause-value c = refused_told c.args.i c.args.out.now c.in_err-spot.field-0.0 c.in_err-spot.was c.from_residual.result c.from_residual.ensures.1

pub returns-then-out-ne-INPUT_WORDS-clause-value : goal.returns-then-out-ne-INPUT_WORDS-clause-value
returns-then-out-ne-INPUT_WORDS-clause-value c = short_told c.args.i c.args.out.now c.in_ok-spot.spot c.in_ok-spot.was c.if-out-ne-INPUT_WORDS.true

pub returns-clause-value : goal.returns-clause-value
returns-clause-value c =
    done_told c.args.i c.args.out.now c.in_ok-spot.spot c.in_ok-spot.was _ c.if-out-ne-INPUT_WORDS.false
    (c.copy_from_slice.ensures.after ∙ rw (c.bits_of.ensures, c.bits_of-2.ensures, c.bits_of-3.ensures, c.bits_of-4.ensures))
