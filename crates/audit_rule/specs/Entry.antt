-- What the checker of a sheet refuses and answers: rules C1 to C8. Definitions only.
use Rattle.std.specs.Prelude.{ℕ, ◌+◌, ◌*◌, Bool, true, ◌&&◌, ◌||◌, not, List, [], ◌∷◌, length, Float}
use Rattle.lists.specs.Ranges.{joined}
use Rattle.params.specs.Table.{line, first_fault, shape_wrong, layers_wrong, length_wrong, settings_wrong, all_good}
use Rattle.params.specs.Answers.{on_fault}
use Rattle.params.specs.declared.Settings.{Settings}
use Rattle.picture.specs.declared.Shape.{Shape}
use Rattle.picture.specs.declared.Size.{Size}
use Rattle.detect_keypoint.specs.declared.RawKeypoint.{RawKeypoint}
use Rattle.orient_window.specs.Good.{window_good}
use Rattle.orient.specs.Entry.{window_at}
use Rattle.sheet.specs.Sheet.{all_pass, read_sheet, bytes_right}
use Rattle.sheet.specs.Writes.{frame_of}
use Rattle.sheet.specs.Reads.{layout_in}
use Rattle.road.specs.Road.{Octave, size_in, found_in, directions_of, picture_for, patch_reads, octave_records}
use Rattle.audit_compare.specs.Difference.{of_octave}
use Rattle.audit_keypoint.specs.Pictures.{picture_in}
use Rattle.audit_verdict.specs.Verdict.{sheet_verdict, Checked, Refused}

-- ---- what is checked against

-- an octave of difference planes and Gaussian ones, of which there is one more
abbrev pub octave_of : List Float → List Float → Shape → ℕ → Octave
octave_of dog gauss t number = record { number = number; shape = t; stack = dog; picture = picture_in gauss t }

-- its keypoints, in the order of its records
unfoldable pub keypoints_in : Settings → Octave → List RawKeypoint
keypoints_in s q = joined 1 (s.layers + 1) (found_in s q)

-- each of a list passes a test
unfoldable pub all_of : {A : Type 0} → (A → Bool) → List A → Bool
all_of test [] = true
all_of test (x ∷ xs) = test x && all_of test xs

-- the Gaussian cells that are read for a keypoint are good: those of its window, and of the patch of each of its directions (rule C3)
unfoldable pub read_good : Octave → RawKeypoint → Bool
read_good q k =
    window_good (picture_for q k) (window_at (size_in q) k)
    && all_of (λ o. all_good (patch_reads (picture_for q k) q o)) (directions_of (picture_for q k) q k)

-- ---- the refusals

-- the checks before those of the samples
unfoldable pub form_fault : ℕ → ℕ → Shape → ℕ → Settings → Size → ℕ
form_fault dogs gausses t octave s base =
    first_fault
    (line 1 (shape_wrong t.width t.height || shape_wrong base.width base.height)
    ∷ line 2 (layers_wrong t.planes 1 s.layers)
    ∷ line 3 (length_wrong dogs (t.planes * t.height * t.width) || length_wrong gausses ((t.planes + 1) * (t.height * t.width)))
    ∷ line 4 (settings_wrong s octave)
    ∷ [])

-- those of the planes: the difference stack whole, and the Gaussian cells that are read
unfoldable pub planes_fault : Settings → Octave → ℕ
planes_fault s q = first_fault (line 6 (not (all_good q.stack)) ∷ line 6 (not (all_of (read_good q) (keypoints_in s q))) ∷ [])

-- those of the sheet: its rules, and then the octave of each record
unfoldable pub sheet_fault : ℕ → List ℕ → ℕ
sheet_fault octave bs =
    first_fault
    (line 8 (not (bytes_right (layout_in bs) bs))
    ∷ line 5 (not (all_pass (of_octave octave) (read_sheet (layout_in bs) bs).records))
    ∷ [])

-- ---- the answer

abbrev pub unless : ℕ → Checked → Checked
unless fault fine = on_fault fault fine (Refused fault)

unfoldable pub check_answer : List Float → List Float → Shape → ℕ → Settings → Size → List ℕ → Checked
check_answer dog gauss t octave s base bs =
    unless (form_fault (length dog) (length gauss) t octave s base)
    (unless (planes_fault s (octave_of dog gauss t octave))
    (unless (sheet_fault octave bs)
    (sheet_verdict (layout_in bs) (frame_of base.width base.height s.layers) (octave_records s (octave_of dog gauss t octave)) bs)))
