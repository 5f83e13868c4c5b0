use mathlib.Core.Path.{◌≡◌}
use Prim.Native.Nat.{◌-◌}
use Rattle.params.specs.Limits.{max_moves}
use Rattle.detect_refine.specs.Settle.{settle_from, refine_of}
use Rattle.detect_refine.specs.Place.{Placed}
use Rattle.detect_refine.proofs.refine.Given as goal

abbrev pub invariant-loop-moves : goal.invariant-loop-moves
invariant-loop-moves l =
    Placed l.t l.s.settings.layers l.at × (settle_from l.dog l.t l.s (max_moves - l.moves) l.moves l.at ≡ refine_of l.dog l.t l.s l.initial.at)
