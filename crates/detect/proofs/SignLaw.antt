-- With every sample negated, detection gives the same answer and the same keypoints: the law that specs/SignLaw.antt states.
-- Assumes nothing.
use Prim.Native.Nat.{ℕ, zero, suc, ◌+◌, ◌*◌, ◌≤◌}
use mathlib.Core.Path.{◌≡◌, refl, ap, ◌∙◌}
use mathlib.Core.Bool.{Bool, true, false, ◌&&◌, cond}
use mathlib.Core.List.{List, [], ◌∷◌, ◌++◌}
use native.Mathlib.Omega.{arith}
use lib.Dec.{leb}
use lib.ListN.{length, get_or, drop, length-map, get_or-map}
use lib.Ieee.{Float, nan, inf, fin, binary32, neg, le}
use Rattle.ieee.specs.Numbers.{nought}
use Rattle.ieee_laws.specs.Sign.{turned, of_nan, of_inf, of_fin, Opp}
use Rattle.ieee_laws.proofs.Turned.{neg_opp, le_turned}
use Rattle.ieee_laws.proofs.TurnedOps.{back_same}
use Rattle.lists.specs.Pasted.{pasted}
use Rattle.params.specs.Limits.{sample_limit, keypoint_words}
use Rattle.params.specs.Table.{good_sample, all_good}
use Rattle.detect_threshold.specs.Threshold.{threshold_of}
use Rattle.params.specs.Answers.{Done, Short, answer_of, landed}
use Rattle.params.specs.declared.Settings.{Settings}
use Rattle.detect_threshold.proofs.Level.{threshold_bounds}
use Rattle.picture.specs.declared.Shape.{Shape}
use Rattle.detect_keypoint.specs.Search.{search_of}
use Rattle.detect_keypoint.specs.declared.RawKeypoint.{RawKeypoint}
use Rattle.detect_extrema.specs.Neighbours.{tied}
use Rattle.detect_extrema.specs.Scan.{words}
use Rattle.detect.specs.Entry.{fault_of, list_of, extrema_answer, extrema_out}
use Rattle.detect.proofs.Faults.{right}
use Rattle.detect_extrema.specs.SameList.{SameList, none, more}
use Rattle.detect_extrema.proofs.SignLaw.{keypoints_same, same_length}
use Rattle.detect.specs.SignLaw.{negative, NegativesAgree, SameWords, rest, keypoint, RunsAgree}

-- ---- the negative of a stack is accepted where the stack is

opp_neg : (x : Float) → Opp (neg x) x
unfolding neg
opp_neg nan = of_nan
opp_neg (inf true) = of_inf refl
opp_neg (inf false) = of_inf refl
opp_neg (fin true m e) = of_fin (turned refl)
opp_neg (fin false m e) = of_fin (turned refl)

and_swap : (a b : Bool) → (a && b) ≡ (b && a)
and_swap true true = refl
and_swap true false = refl
and_swap false true = refl
and_swap false false = refl

good_same : (x : Float) → good_sample (neg x) ≡ good_sample x
good_same x =
    let a : le (neg sample_limit) (neg x) ≡ le x sample_limit = le_turned (neg_opp sample_limit) (neg_opp x) in
    let b : le (neg x) sample_limit ≡ le (neg sample_limit) x = le_turned (neg_opp x) (opp_neg sample_limit) in
    rw (a, b) (and_swap (le x sample_limit) (le (neg sample_limit) x))

all_good_same : (d : List Float) → all_good (negative d) ≡ all_good d
unfolding all_good
all_good_same [] = refl
all_good_same (x ∷ xs) = rw (good_same x, all_good_same xs)

fault_same : (d : List Float) (t : Shape) (layer octave : ℕ) (s : Settings) → fault_of (negative d) t layer octave s ≡ fault_of d t layer octave s
unfolding fault_of
fault_same d t layer octave s = rw (length-map d neg, all_good_same d)

-- ---- what the table accepts

record Taken (layer : ℕ) (s : Settings) : Type 0 where
  first : 1 ≤ layer
  floor : le nought (threshold_of s.contrast s.layers) ≡ true

taken : (d : List Float) (t : Shape) (layer octave : ℕ) (s : Settings) → fault_of d t layer octave s ≡ 0 → Taken layer s
taken d t layer octave s z =
    let a = right d t layer octave s z in
    let k = a.searched in
    record { first = k.first; floor = (threshold_bounds s.contrast a.contrast s.layers (omega arith) k.many).low }

-- ---- the law

negated_at : (d : List Float) (i : ℕ) → Opp (get_or d i nan) (get_or (negative d) i nan)
unfolding neg
negated_at d i = rw (get_or-map neg d i nan) (neg_opp (get_or d i nan))

list_same : (d : List Float) (t : Shape) (layer octave : ℕ) (s : Settings) → fault_of d t layer octave s ≡ 0 → SameList (list_of d t layer octave s) (list_of (negative d) t layer octave s)
list_same d t layer octave s z =
    let a = taken d t layer octave s z in
    keypoints_same tied d (negative d) t (search_of layer octave s) (negated_at d) a.floor a.first

-- an answer turns on the fault, and on the list only where there is none
answers_same : (fault count count' room : ℕ) → (fault ≡ 0 → count' ≡ count) → answer_of fault count' (keypoint_words * count') room ≡ answer_of fault count (keypoint_words * count) room
unfolding answer_of
answers_same zero count count' room h = rw (h refl)
answers_same (suc n) count count' room h = refl

answer_same : (d : List Float) (t : Shape) (layer octave : ℕ) (s : Settings) (room : ℕ) → extrema_answer (negative d) t layer octave s room ≡ extrema_answer d t layer octave s room
unfolding extrema_answer
answer_same d t layer octave s room =
    rw (fault_same d t layer octave s)
    (answers_same (fault_of d t layer octave s) (length (list_of d t layer octave s)) (length (list_of (negative d) t layer octave s)) room (λ z. same_length (list_same d t layer octave s z)))

pub sign_law : NegativesAgree
sign_law d t layer octave s room z =
    record { accepted = fault_same d t layer octave s ∙ z; answer = answer_same d t layer octave s room; list = list_same d t layer octave s z }

-- ---- two runs of the entry

words_same : {a b : List RawKeypoint} → SameList a b → (ws : List ℕ) → SameWords (words a ++ ws) (words b ++ ws)
unfolding words
words_same none ws = rest
words_same (more {k = k} {l = l} q s) ws =
    rw (q.x, q.y, q.size, q.response, q.octave, q.layer, q.cc, q.rr, q.moves) (keypoint (back_same binary32 q.xi) (words_same s ws))

words_length : {a b : List RawKeypoint} → SameList a b → length (words b) ≡ length (words a)
unfolding words
words_length none = refl
words_length (more q s) = ap (λ (n : ℕ). suc (suc (suc (suc (suc (suc (suc (suc (suc (suc n)))))))))) (words_length s)

pasted_same : {a b : List RawKeypoint} → SameList a b → (out : List ℕ) → SameWords (pasted 0 (words a) out) (pasted 0 (words b) out)
unfolding pasted
pasted_same {a} s out = rw (words_length s) (words_same s (drop (0 + length (words a)) out))

landed_same : (fault count need room : ℕ) {a b : List RawKeypoint} → (fault ≡ 0 → SameList a b) → (out : List ℕ)
    → SameWords (landed (answer_of fault count need room) (words a) out) (landed (answer_of fault count need room) (words b) out)
unfolding answer_of
landed_same zero count need room {a} {b} s out = go (leb need room)
  where
    go : (q : Bool) → SameWords (landed (cond q (Done count) (Short count)) (words a) out) (landed (cond q (Done count) (Short count)) (words b) out)
    go true = pasted_same (s refl) out
    go false = rest
landed_same (suc n) count need room s out = rest

out_same : (d : List Float) (t : Shape) (layer octave : ℕ) (s : Settings) (out : List ℕ) → SameWords (extrema_out d t layer octave s out) (extrema_out (negative d) t layer octave s out)
unfolding extrema_out
out_same d t layer octave s out =
    rw (answer_same d t layer octave s (length out))
    (unfold extrema_answer in
    landed_same (fault_of d t layer octave s) (length (list_of d t layer octave s)) (keypoint_words * length (list_of d t layer octave s)) (length out) (list_same d t layer octave s) out)

pub two_runs : RunsAgree
two_runs d t layer octave s out = record { answer = answer_same d t layer octave s (length out); words = out_same d t layer octave s out }
