-- The array is the values up to the index, each held to the limit, and then what stood there. Assumes nothing.
use Prim.Native.Nat.{ℕ}
use mathlib.Core.Path.{◌≡◌}
use mathlib.Core.List.{List}
use lib.Ieee.{Float}
use Rattle.bounds.specs.Bounds.{min_of}
use Rattle.descriptor_values.specs.Values.{at}
use Rattle.descriptor_values.proofs.Listed.{filled}
use Rattle.descriptor_values.proofs.clamp_all.Given as goal

abbrev pub value : List Float → Float → ℕ → Float
value v limit m = min_of (at v m) limit

abbrev pub invariant-loop-x : goal.invariant-loop-x
invariant-loop-x l = l.v ≡ filled (value l.initial.v l.thr) l.initial.v l.x-index
