use Prim.Native.Nat.{ℕ, ◌+◌, ◌-◌}
use mathlib.Core.Path.{◌≡◌}
use mathlib.Core.Bool.{Bool}
use mathlib.Core.List.{List}
use lib.Ieee.{Float}
use Rattle.std.specs.Prelude.{min}
use Rattle.params.specs.Limits.{border}
use Rattle.picture.specs.declared.Shape.{Shape}
use Rattle.detect_keypoint.specs.declared.Search.{Search}
use Rattle.detect_samples.specs.Rows.{span_good}
use Rattle.detect_words.specs.declared.Place.{Place}
use Rattle.detect_rows.specs.Forms.{run_leaves}
use Rattle.detect_words.proofs.Words.{Filled}
use Rattle.detect_rows.proofs.row_words.Given as goal

-- the row is searched, and the row below tested, up to a column
abbrev pub Up : List Float → Shape → Search → ℕ → Place → List ℕ → ℕ → List ℕ → ℕ → Bool → Type 0
Up d t s r p old at out n ok = Filled old p.from (run_leaves p.form d t s r border at) out n × (ok ≡ span_good t (r + 1) 0 at d)

abbrev pub invariant-loop-lo : goal.invariant-loop-lo
invariant-loop-lo l = Up l.dog l.t l.s l.r l.p l.initial.out (min l.lo (l.t.width - border)) l.out l.n l.ok

abbrev pub decreases-loop-lo : goal.decreases-loop-lo
decreases-loop-lo l = l.t.width - l.lo
