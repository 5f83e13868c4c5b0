-- What holds of an accepted list: no more is kept than the quota, and all of a list within it. Assumes nothing.
use Prim.Native.Nat.{ℕ}
use mathlib.Core.Path.{◌≡◌, refl, sym}
use mathlib.Core.List.{List}
use mathlib.Core.Logic.{⊎_elim}
use native.Mathlib.Omega.{arith}
use Rattle.lists.specs.Ranges.{every}
use Rattle.params.specs.Table.{shape_wrong}
use Rattle.counts.proofs.Counts.{either}
use Rattle.thin_rule.specs.Rule.{points_in}
use Rattle.thin.specs.Entry.{frame, point_right, fault_of}
use Rattle.thin.specs.Frames.{Accepted}
use Rattle.thin.specs.Rules.{Bits, ThinRule}
use Rattle.thin.proofs.Faults.{form_wrong, fault_shape, fault_form, fault_points, accepted}
use Rattle.thin.proofs.Keeps.{few_kept, whole_many, whole_place}

-- each line of the table that could be given is not
told : (ws : List ℕ) (w h q d : ℕ) → Bits ws → fault_of ws w h q d ≡ 0 → Accepted ws w h q
told ws w h q d bits f =
    ⊎_elim
    (λ s. absurd (let e = fault_shape ws w h q d (shape_wrong w h) refl s in omega arith))
    (λ s.
    ⊎_elim
    (λ t. absurd (let e = fault_form ws w h q d (shape_wrong w h) refl s t in omega arith))
    (λ t.
    ⊎_elim
    (λ p. accepted ws w h q d (shape_wrong w h) refl s t (every (points_in ws) (point_right ws w h)) refl p (λ i l. record { x = bits _; y = bits _; response = bits _ }))
    (λ p. absurd (let e = fault_points ws w h q d (shape_wrong w h) refl s t (every (points_in ws) (point_right ws w h)) refl p in omega arith))
    (either (every (points_in ws) (point_right ws w h))))
    (either (form_wrong ws w h q d)))
    (either (shape_wrong w h))

pub thin_rule : ThinRule
thin_rule =
    record {
      sound = λ ws w h q d b f. let a = told ws w h q d b f in (a.sound, a.ordered);
      few = λ ws w h q d b f. let a = told ws w h q d b f in few_kept ws d (frame w h) q a.sound a.ordered;
      whole = λ ws w h q d b f l. let a = told ws w h q d b f in sym (whole_many ws d (frame w h) q (points_in ws) refl a.inside l);
      each = λ ws w h q d b f l. let a = told ws w h q d b f in whole_place ws d (frame w h) q (points_in ws) refl a.inside l;
    }
