-- The array is the values up to n, and then what stood there. Assumes nothing.
use Prim.Native.Nat.{ℕ, ◌/◌, ◌%◌}
use mathlib.Core.Path.{◌≡◌}
use mathlib.Core.List.{List}
use lib.Ieee.{Float}
use Rattle.descriptor_values.specs.Values.{folded_at}
use Rattle.descriptor_values.proofs.Listed.{filled}
use Rattle.descriptor_values.proofs.raw.Given as goal

abbrev pub value : List Float → ℕ → Float
value hist m = folded_at hist (m / 32) (m / 8 % 4) (m % 8)

abbrev pub invariant-loop-n : goal.invariant-loop-n
invariant-loop-n l = l.v ≡ filled (value l.hist) l.initial.v l.n
