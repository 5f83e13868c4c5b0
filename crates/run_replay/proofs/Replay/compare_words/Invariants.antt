use Rattle.std.proofs.Common.{◌≡◌}
use Rattle.run_replay.proofs.Replay.compare_words.Given as goal

-- the words are counted behind the loop
abbrev pub invariant-loop-word : goal.invariant-loop-word
invariant-loop-word g l = l.self.counts.words ≡ l.initial.self.counts.words
