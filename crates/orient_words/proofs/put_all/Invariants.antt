use Rattle.std.proofs.Common.{◌≡◌}
use Rattle.lists.specs.Pasted.{pasted}
use Rattle.orient_words.proofs.Words.{words_to}
use Rattle.orient_words.proofs.put_all.Given as goal

abbrev pub invariant-loop-i : goal.invariant-loop-i
invariant-loop-i l = l.out ≡ pasted 0 (words_to l.k l.found l.i) l.initial.out
