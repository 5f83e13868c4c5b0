-- What an entry has given lies within what it was lent. Assumes nothing.
use Rattle.std.specs.Prelude.{◌≡◌, ℕ, ◌*◌, ◌≤◌, List, Float, Result, Ok}
use Rattle.std.proofs.Common.{sym, ◌∙◌, ap, refl, arith}
use Rattle.params.specs.Answers.{Answer, Done, Short, Refused, told}
use Rattle.params.specs.declared.Refusal.{Refusal}
use Rattle.params.specs.declared.Settings.{Settings}
use Rattle.params.specs.Limits.{keypoint_words}
use Rattle.picture.specs.declared.Shape.{Shape}
use Rattle.picture.specs.declared.Size.{Size}
use Rattle.detect.specs.Entry.{extrema_answer}
use Rattle.detect_keypoint.specs.declared.RawKeypoint.{RawKeypoint}
use Rattle.orient_words.specs.Oriented.{OrientAnswer, oriented_told}
use Rattle.orient_words.specs.declared.Oriented.{Oriented}
use Rattle.orient.specs.Entry.{orient_answer, given_back}
use Rattle.orient.proofs.Rules.{orient_rule}
use Rattle.sheet.specs.Layout.{Frame}
use Rattle.sheet.specs.Words.{read_words}
use Rattle.sheet.specs.Writes.{write_answer}
use Rattle.sheet.specs.Reads.{Read, read_told, read_answer, read_number, with_frame}
use Rattle.sheet.specs.declared.Heading.{Heading}
use Rattle.sheet.proofs.Answered.{done_told}
use Rattle.run_extract.specs.Sizes.{most_peaks}

-- the keypoints that are found
pub found_fit : (d : List Float) (t : Shape) (layer octave : ℕ) (s : Settings) (room : ℕ) (r : Result ℕ Refusal) (n : ℕ) →
    told r ≡ extrema_answer d t layer octave s room → r ≡ Ok n → keypoint_words * n ≤ room
unfolding extrema_answer
found_fit d t layer octave s room r n e h =
    let p = done_told _ _ _ room n (sym e ∙ ap told h) in
    omega (arith, p.1, p.2)

-- the directions: there are never more
pub turned_fit : (img : List Float) (s : Size) (k : RawKeypoint) (room : ℕ) (r : Result Oriented Refusal) (o : Oriented) →
    oriented_told r ≡ orient_answer img s k room → r ≡ Ok o → o.count ≤ most_peaks
unfolding orient_answer given_back
turned_fit img s k room r o e h =
    let p = done_told _ _ _ room o.count (ap (λ (a : OrientAnswer). a.answer) (sym e ∙ ap oriented_told h)) in
    omega (arith, p.2, orient_rule.few img s k)

-- the sheet that is written
pub written_fits : (edition : ℕ) (f : Frame) (words : List ℕ) (room : ℕ) (r : Result ℕ Refusal) (n : ℕ) →
    told r ≡ write_answer edition f words room → r ≡ Ok n → n ≤ room
unfolding write_answer
written_fits edition f words room r n e h =
    let p = done_told _ _ _ room n (sym e ∙ ap told h) in
    omega (arith, p.1, p.2)

-- the records that are read
answer_kept : (a : Answer) (edition : ℕ) (f : Frame) → (with_frame a edition f).answer ≡ a
answer_kept (Done n) edition f = refl
answer_kept (Short n) edition f = refl
answer_kept (Refused k) edition f = refl

pub read_fit : (bytes : List ℕ) (room : ℕ) (r : Result Heading Refusal) (h : Heading) →
    read_told r ≡ read_answer bytes room → r ≡ Ok h → read_words * h.count ≤ room
unfolding read_answer read_number
read_fit bytes room r h e o =
    let a = ap (λ (x : Read). x.answer) (sym e ∙ ap read_told o) in
    let p = done_told _ _ _ room h.count (sym (answer_kept _ _ _) ∙ a) in
    omega (arith, p.1, p.2)
