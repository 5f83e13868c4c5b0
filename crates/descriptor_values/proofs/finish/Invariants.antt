-- The array is the finished values up to the index, and then what stood there. Assumes nothing.
use Prim.Native.Nat.{ℕ}
use mathlib.Core.Path.{◌≡◌}
use mathlib.Core.List.{List}
use lib.Ieee.{Float}
use Rattle.ieee.specs.F32.{◌⊗◌, rounded}
use Rattle.ieee.specs.Numbers.{nought, top_byte}
use Rattle.bounds.specs.Bounds.{clamp_of}
use Rattle.descriptor_values.specs.Values.{at}
use Rattle.descriptor_values.proofs.Listed.{filled}
use Rattle.descriptor_values.proofs.finish.Given as goal

abbrev pub value : List Float → Float → ℕ → Float
value v by m = clamp_of (rounded (at v m ⊗ by)) nought top_byte

abbrev pub invariant-loop-x : goal.invariant-loop-x
invariant-loop-x l = l.v ≡ filled (value l.initial.v l.by) l.initial.v l.x-index
