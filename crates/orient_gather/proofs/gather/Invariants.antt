use Rattle.std.proofs.Common.{◌≡◌, ◌+◌, ◌-◌, ◌≤◌}
use Rattle.orient_tally.proofs.After.{after}
use Rattle.orient_gather.proofs.gather.Given as goal

-- the tally of the samples passed
abbrev pub invariant-loop-k : goal.invariant-loop-k
invariant-loop-k l = (l.k ≤ l.n) × (l.t ≡ after l.img l.win l.k)

abbrev pub decreases-loop-k : goal.decreases-loop-k
decreases-loop-k l = l.n - l.k

-- and of those of the run up to its cell i
abbrev pub invariant-loop-i : goal.invariant-loop-i
invariant-loop-i l = l.t ≡ after l.img l.win (l.k + l.i)
