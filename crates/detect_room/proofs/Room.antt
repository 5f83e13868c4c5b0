-- Which answer holds, by the samples, the count and the room, and what is then in the lent words. Assumes nothing.
use Prim.Native.Nat.{ℕ, ◌*◌, ◌<◌, ◌≤◌}
use mathlib.Core.Path.{◌≡◌, refl, sym, ap, ◌∙◌}
use mathlib.Core.Bool.{Bool, true, false, cond}
use mathlib.Core.List.{List, []}
use native.Mathlib.Omega.{arith}
use borrow.Author.Tests.{le-leb, lt-leb}
use lib.ListN.{length}
use lib.Seq.{sets}
use lib.Ieee.{Float}
use Rattle.params.specs.Limits.{keypoint_words}
use Rattle.params.specs.Table.{first_fault, all_good}
use Rattle.params.specs.Answers.{Answer, Done, Short, Refused, answer_of, landed}
use Rattle.detect_keypoint.specs.declared.RawKeypoint.{RawKeypoint}
use Rattle.detect_extrema.specs.Scan.{words}
use Rattle.detect_words.proofs.Words.{length_words, words_none, sets_pasted}
use Rattle.detect_room.specs.Room.{sample_fault, room_answer, sample_answer}

module _ (k room : ℕ) where
  pub short : room < keypoint_words * k → Short k ≡ answer_of 0 k (keypoint_words * k) room
  unfolding answer_of
  short less = rw (lt-leb (keypoint_words * k) room less)

  pub done : keypoint_words * k ≤ room → Done k ≡ answer_of 0 k (keypoint_words * k) room
  unfolding answer_of
  done fits = rw (le-leb (keypoint_words * k) room fits)

module _ (ks : List RawKeypoint) (out : List ℕ) where
  -- the answer by the room, and the words left by it
  pub record Given (a : Answer) (after : List ℕ) : Type 0 where
    pub answer : a ≡ room_answer ks (length out)
    pub left : after ≡ landed (room_answer ks (length out)) (words ks) out

  module _ (k : ℕ) (count : k ≡ length ks) where
    pub untouched : length out < keypoint_words * k → out ≡ landed (room_answer ks (length out)) (words ks) out
    untouched less = rw (← count, ← short k (length out) less)

    pub written : (after : List ℕ) → keypoint_words * k ≤ length out → after ≡ sets out 0 (words ks) → after ≡ landed (room_answer ks (length out)) (words ks) out
    written after fits e =
        let s = e ∙ sets_pasted out (words ks) (omega (arith, length_words ks)) in
        rw (← count, ← done k (length out) fits) s

  -- so many keypoints: written where their words fit, and else nothing
  pub gave : (k : ℕ) (after : List ℕ) → k ≡ length ks → keypoint_words * k ≤ length out → after ≡ sets out 0 (words ks) → Given (Done k) after
  gave k after count fits e = record { answer = rw (← count) (done k (length out) fits); left = written k count after fits e }

  pub lacked : (k : ℕ) → k ≡ length ks → length out < keypoint_words * k → Given (Short k) out
  lacked k count less = record { answer = rw (← count) (short k (length out) less); left = untouched k count less }

module _ (d : List Float) (ks : List RawKeypoint) (out : List ℕ) where
  -- the answer by the samples and the room, and the words left by it
  pub record Tested (a : Answer) (after : List ℕ) : Type 0 where
    pub answer : a ≡ sample_answer d ks (length out)
    pub left : after ≡ landed (sample_answer d ks (length out)) (words ks) out

  pub bad : all_good d ≡ false → Tested (Refused 6) out
  unfolding sample_fault first_fault answer_of
  bad e = record { answer = rw e; left = rw e }

  pub good : all_good d ≡ true → (a : Answer) (after : List ℕ) → Given ks out a after → Tested a after
  unfolding sample_fault first_fault
  good e a after g = record { answer = rw e g.answer; left = rw e g.left }

  -- where there is no cell to search
  pub none : ks ≡ [] → (a : Answer) → a ≡ cond (all_good d) (Done 0) (Refused 6) → Tested a out
  none e a is = go (all_good d) refl
    where
      go : (b : Bool) → all_good d ≡ b → Tested a out
      go true g =
          let n : 0 ≡ length ks = sym (ap length e) in
          good g a out (record { answer = is ∙ rw (g, ← n) (done 0 (length out) (omega arith)); left = written ks out 0 n out (omega arith) (rw (e, words_none)) })
      go false g = let b = bad g in record { answer = is ∙ rw g b.answer; left = b.left }
