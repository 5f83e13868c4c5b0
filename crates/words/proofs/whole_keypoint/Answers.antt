use lib.ListN.{get_or}
use Rattle.words.specs.Keypoint.{words_in}
use Rattle.words.proofs.whole_keypoint.Goals as goal

pub returns : goal.returns
unfolding words_in
returns c =
    λ i. record {
      x = c.of_bits.ensures i;
      y = c.of_bits-2.ensures i;
      size = c.of_bits-3.ensures i;
      response = c.of_bits-4.ensures i;
      octave = get_or c.args.k.now 4 0;
      layer = get_or c.args.k.now 5 0;
      xi = c.of_bits-5.ensures i;
      cc = get_or c.args.k.now 7 0;
      rr = get_or c.args.k.now 8 0;
      moves = get_or c.args.k.now 9 0;
    }
