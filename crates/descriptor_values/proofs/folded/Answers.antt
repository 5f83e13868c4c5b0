use Prim.Native.Nat.{◌%◌}
use borrow.Author.Tests.{ne_eqb}
use native.Mathlib.Nat.{add-zero}
use Rattle.descriptor_values.specs.Values.{folded_at}
use Rattle.descriptor_values.proofs.folded.Goals as goal

pub returns-then-k-eq0 : goal.returns-then-k-eq0
unfolding folded_at
returns-then-k-eq0 c = simp (add-zero, c.if-k-eq0.true)

pub returns-else-k-eq0 : goal.returns-else-k-eq0
unfolding folded_at
returns-else-k-eq0 c = simp (add-zero, ne_eqb (c.args.n % 8) 0 c.if-k-eq0.false)
