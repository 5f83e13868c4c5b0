use mathlib.Core.Path.{◌≡◌}
use mathlib.Core.List.{map}
use lib.ListN.{take}
use Rattle.ieee.specs.F32.{bits_of}
use Rattle.descriptor_words.proofs.put.Given as goal

abbrev pub invariant-loop-n : goal.invariant-loop-n
invariant-loop-n l = take l.n l.out ≡ take l.n (map bits_of l.v)
