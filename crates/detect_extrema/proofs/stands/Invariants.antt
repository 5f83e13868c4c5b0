use mathlib.Core.Path.{◌≡◌}
use mathlib.Core.Bool.{true}
use Rattle.lists.specs.Ranges.{every}
use Rattle.detect_extrema.specs.Neighbours.{tied, passes}
use Rattle.detect_extrema.proofs.stands.Given as goal

abbrev pub invariant-loop-k : goal.invariant-loop-k
invariant-loop-k l =
    (l.ok ≡ true) × (every l.k (λ k. passes tied l.dog l.t l.p l.r l.c l.i l.j k) ≡ true)

abbrev pub invariant-loop-j : goal.invariant-loop-j
invariant-loop-j l =
    (l.ok ≡ true) × (every l.j (λ j. every 3 (λ k. passes tied l.dog l.t l.p l.r l.c l.i j k)) ≡ true)

abbrev pub invariant-nb : goal.invariant-nb
invariant-nb l =
    (l.ok ≡ true) × (every l.i (λ i. every 3 (λ j. every 3 (λ k. passes tied l.dog l.t l.p l.r l.c i j k))) ≡ true)
