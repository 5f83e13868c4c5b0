-- After the ten words at a place among keypoints' words the standing is that of one keypoint more; once a stage has refused, it stays so. Assumes nothing.
use Prim.Native.Nat.{ℕ, ◌+◌, ◌-◌, ◌*◌, ◌<◌}
use mathlib.Core.Path.{◌≡◌, sym, ◌∙◌}
use mathlib.Core.Bool.{true, not}
use mathlib.Core.List.{List, foldl}
use native.Mathlib.Omega.{arith}
use lib.Ieee.{Float}
use lib.ListN.{take, drop}
use Rattle.params.specs.Limits.{keypoint_words}
use Rattle.sheet.specs.Sheet.{parts}
use Rattle.audit_compare.specs.Standing.{Standing}
use Rattle.audit_keypoint.specs.Steps.{Given, keypoint_step}
use Rattle.audit_keypoint.proofs.Cut.{fold_next, fold_settled}
use Rattle.audit_keypoint.proofs.Keypoint.{keypoint_over}

pub part_next : (ws : List ℕ) (i : ℕ) (f : Standing → List ℕ → Standing) (st x y : Standing) → x ≡ foldl f st (parts keypoint_words i ws) →
    y ≡ f x (take (keypoint_words * i + keypoint_words - keypoint_words * i) (drop (keypoint_words * i) ws)) → y ≡ foldl f st (parts keypoint_words (i + 1) ws)
part_next ws i f st x y e q =
    let ten : keypoint_words * i + keypoint_words - keypoint_words * i ≡ keypoint_words = omega arith in
    q ∙ rw (ten, e) (sym (fold_next f st keypoint_words i ws))

pub part_refused : (gauss : List Float) (g : Given) (ws : List ℕ) (i n : ℕ) (st x r : Standing) → not r.good ≡ true → i < n → x ≡ foldl (keypoint_step gauss g) st (parts keypoint_words i ws) →
    r ≡ keypoint_step gauss g x (take (keypoint_words * i + keypoint_words - keypoint_words * i) (drop (keypoint_words * i) ws)) →
    r ≡ foldl (keypoint_step gauss g) st (parts keypoint_words n ws)
part_refused gauss g ws i n st x r bad h e q =
    let m : n ≡ i + 1 + (n - (i + 1)) = omega arith in
    rw m (fold_settled (keypoint_step gauss g) st r (λ w. sym (keypoint_over gauss g r w bad)) keypoint_words (i + 1) (n - (i + 1)) ws (part_next ws i (keypoint_step gauss g) st x r e q))
