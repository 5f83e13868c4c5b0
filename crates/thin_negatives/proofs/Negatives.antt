-- Thinning the keypoints of a frame and of its negative: the law that specs/Negatives.antt states. Assumes nothing.
use Prim.Native.Nat.{ℕ, zero, suc, ◌+◌, ◌*◌, ◌/◌, ◌<◌}
use mathlib.Core.Path.{◌≡◌, refl, sym, ap}
use mathlib.Core.Bool.{Bool}
use mathlib.Core.List.{List, [], ◌∷◌, ◌++◌, map, flat_map}
use native.Mathlib.Omega.{arith}
use lib.ListN.{length, get_or, take}
use lib.Ieee.{Float}
use lib.Ieee.Scale.{finite}
use Rattle.lists.specs.Ranges.{every}
use Rattle.ieee.specs.F32.{f32}
use Rattle.ieee_laws.specs.Sign.{Same, of_nan, of_inf, of_fin}
use Rattle.ieee_laws.proofs.TurnedOps.{same}
use Rattle.params.specs.Limits.{keypoint_words}
use Rattle.detect.specs.SignLaw.{SameWords, rest, keypoint}
use Rattle.detect.proofs.SignLaw.{two_runs}
use Rattle.thin_rule.specs.Rule.{points_in}
use Rattle.thin_laws.specs.Promises.{Agree}
use Rattle.thin_laws.proofs.Promises.{inside_alike, cover_rule}
use Rattle.thin.specs.Entry.{frame, point_right, input_wrong, fault_of, kept_of, thin_answer, thin_out}
use Rattle.thin_negatives.specs.Negatives.{Run, on_negative, found_in, handed_on, frame_words, ThinnedAlike}

-- ---- words that are the same numbers one by one: that keypoints of ten words stand in them matters no more

data SameNumbers : List ℕ → List ℕ → Type 0 where
  none : SameNumbers [] []
  more : {a b : ℕ} {ws vs : List ℕ} → Same (f32 a) (f32 b) → SameNumbers ws vs → SameNumbers (a ∷ ws) (b ∷ vs)

equal : (a : ℕ) {ws vs : List ℕ} → SameNumbers ws vs → SameNumbers (a ∷ ws) (a ∷ vs)
equal a s = more (same (f32 a)) s

numbers_refl : (ws : List ℕ) → SameNumbers ws ws
numbers_refl [] = none
numbers_refl (a ∷ ws) = equal a (numbers_refl ws)

numbers_of : {ws vs : List ℕ} → SameWords ws vs → SameNumbers ws vs
numbers_of (rest {ws = ws}) = numbers_refl ws
numbers_of (keypoint {x = x} {y = y} {size = size} {response = response} {octave = octave} {layer = layer} {cc = cc} {rr = rr} {moves = moves} q s) =
    equal x (equal y (equal size (equal response (equal octave (equal layer (more q (equal cc (equal rr (equal moves (numbers_of s))))))))))

numbers_take : (n : ℕ) {ws vs : List ℕ} → SameNumbers ws vs → SameNumbers (take n ws) (take n vs)
numbers_take zero s = none
numbers_take (suc n) none = none
numbers_take (suc n) (more q s) = more q (numbers_take n s)

numbers_append : {a b c d : List ℕ} → SameNumbers a b → SameNumbers c d → SameNumbers (a ++ c) (b ++ d)
numbers_append none t = t
numbers_append (more q s) t = more q (numbers_append s t)

numbers_length : {ws vs : List ℕ} → SameNumbers ws vs → length ws ≡ length vs
numbers_length none = refl
numbers_length (more q s) = ap suc (numbers_length s)

numbers_at : {ws vs : List ℕ} → SameNumbers ws vs → (i : ℕ) → Same (f32 (get_or ws i 0)) (f32 (get_or vs i 0))
numbers_at none i = same (f32 0)
numbers_at (more q s) zero = q
numbers_at (more q s) (suc i) = numbers_at s i

-- ---- what the runs hand on

handed_same : (r : Run) → SameNumbers (handed_on r) (handed_on (on_negative r))
handed_same r =
    let t = two_runs r.stack r.shape r.layer r.octave r.settings r.lent in
    rw t.answer (numbers_take (keypoint_words * found_in r) (numbers_of t.words))

frame_same : (rs : List Run) → SameNumbers (frame_words rs) (frame_words (map on_negative rs))
unfolding flat_map
frame_same [] = none
frame_same (r ∷ rs) = numbers_append (handed_same r) (frame_same rs)

-- ---- thinning reads numbers

finite_same : {x y : Float} → Same x y → finite x ≡ finite y
finite_same of_nan = refl
finite_same (of_inf e) = refl
finite_same (of_fin e) = refl

every_same : (n : ℕ) (f g : ℕ → Bool) → ((i : ℕ) → i < n → f i ≡ g i) → every n f ≡ every n g
unfolding every
every_same zero f g h = refl
every_same (suc n) f g h = rw (every_same n f g (λ i l. h i (omega arith)), h n (omega arith))

module _ {ws vs : List ℕ} (s : SameNumbers ws vs) where
  agree : Agree ws vs
  agree =
      record {
        many = ap (λ (n : ℕ). n / keypoint_words) (numbers_length s);
        x = λ i l. numbers_at s (keypoint_words * i + 0);
        y = λ i l. numbers_at s (keypoint_words * i + 1);
        response = λ i l. numbers_at s (keypoint_words * i + 3);
      }

  right_same : (w h i : ℕ) → i < points_in ws → point_right ws w h i ≡ point_right vs w h i
  unfolding point_right
  right_same w h i l = rw (inside_alike ws vs agree (frame w h) i l, finite_same (agree.response i l))

  wrong_same : (w h q d : ℕ) → input_wrong ws w h q d ≡ input_wrong vs w h q d
  unfolding input_wrong
  wrong_same w h q d = rw (every_same (points_in ws) (point_right ws w h) (point_right vs w h) (right_same w h), numbers_length s)

  fault_same : (w h q d : ℕ) → fault_of ws w h q d ≡ fault_of vs w h q d
  unfolding fault_of
  fault_same w h q d = rw (wrong_same w h q d)

  kept_same : (w h q d : ℕ) → kept_of ws w h q d ≡ kept_of vs w h q d
  kept_same w h q d = cover_rule.alike ws vs d (frame w h) q agree

  answer_same : (w h q d room : ℕ) → thin_answer ws w h q d room ≡ thin_answer vs w h q d room
  unfolding thin_answer
  answer_same w h q d room = rw (fault_same w h q d, kept_same w h q d)

  out_same : (w h q d : ℕ) (out : List ℕ) → thin_out ws w h q d out ≡ thin_out vs w h q d out
  unfolding thin_out
  out_same w h q d out = rw (answer_same w h q d (length out), kept_same w h q d)

pub thinned_alike : ThinnedAlike
thinned_alike rs w h quota depth out =
    let s = frame_same rs in
    record { answer = sym (answer_same s w h quota depth (length out)); positions = sym (out_same s w h quota depth out) }
