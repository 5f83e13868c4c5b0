use lib.ListN.{get_or}
use Rattle.words.specs.Oriented.{six_in}
use Rattle.words.proofs.whole_oriented.Goals as goal

pub returns : goal.returns
unfolding six_in
returns c =
    λ i. record {
      x = c.of_bits.ensures i;
      y = c.of_bits-2.ensures i;
      size = c.of_bits-3.ensures i;
      response = c.of_bits-4.ensures i;
      octave = get_or c.args.o.now 4 0;
      angle = c.of_bits-5.ensures i;
    }
