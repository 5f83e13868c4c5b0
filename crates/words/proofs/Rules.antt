-- The laws that specs/Rules.antt states. Assumes nothing.
use Prim.Native.Nat.{ℕ, zero, suc, ◌*◌, ◌<◌}
use mathlib.Core.Path.{◌≡◌, refl, ◌∙◌}
use mathlib.Core.List.{List, [], ◌∷◌, ◌++◌}
use native.Mathlib.Nat.{mul-suc, add_comm}
use native.Mathlib.Omega.{arith}
use lib.Dec.{T}
use lib.ListN.{length, get_or, take, drop}
use lib.Seq.{drop-append-add}
use lib.Ieee.{Float, binary32, fits}
use lib.Ieee.Bits.{of_bits-to_bits}
use Rattle.params.specs.Limits.{keypoint_words}
use Rattle.params.specs.declared.Settings.{Settings}
use Rattle.detect_keypoint.specs.Sound.{Sound}
use Rattle.detect_keypoint.specs.declared.RawKeypoint.{RawKeypoint}
use Rattle.detect_extrema.specs.Scan as raw
use Rattle.orient_words.specs.Oriented as orient
use Rattle.orient_words.specs.declared.OrientedKeypoint.{OrientedKeypoint}
use Rattle.words.specs.Keypoint.{words_in, keypoint_in}
use Rattle.words.specs.Oriented.{six_in, oriented_in}
use Rattle.words.specs.Rules.{Held, OrientedHeld, WordsRule}

keypoint_back : (k : RawKeypoint) → Held k → keypoint_in (raw.words_of k) ≡ k
unfolding keypoint_in words_in
keypoint_back k h =
    λ i. record {
      x = of_bits-to_bits binary32 k.x h.x i;
      y = of_bits-to_bits binary32 k.y h.y i;
      size = of_bits-to_bits binary32 k.size h.size i;
      response = of_bits-to_bits binary32 k.response h.response i;
      octave = k.octave;
      layer = k.layer;
      xi = of_bits-to_bits binary32 k.xi h.xi i;
      cc = k.cc;
      rr = k.rr;
      moves = k.moves;
    }

oriented_back : (o : OrientedKeypoint) → OrientedHeld o → oriented_in (orient.words_of o) ≡ o
unfolding oriented_in six_in
oriented_back o h =
    λ i. record {
      x = of_bits-to_bits binary32 o.x h.x i;
      y = of_bits-to_bits binary32 o.y h.y i;
      size = of_bits-to_bits binary32 o.size h.size i;
      response = of_bits-to_bits binary32 o.response h.response i;
      octave = o.octave;
      angle = of_bits-to_bits binary32 o.angle h.angle i;
    }

found_held : (w h octave : ℕ) (s : Settings) (k : RawKeypoint) → Sound w h s octave k → Held k
found_held w h octave s k z =
    record {
      x = z.x_number.held;
      y = z.y_number.held;
      size = z.size_number.held;
      response = z.response_number.held;
      xi = z.xi_number.held;
    }

directed_held : (k : RawKeypoint) (angle : Float) → Held k → T (fits binary32 angle) → OrientedHeld (orient.oriented_of k angle)
directed_held k angle h a = record { x = h.x; y = h.y; size = h.size; response = h.response; angle = a }

-- ---- in a list

-- past the first part of a list of parts that are as long
past : (a b : List ℕ) (i : ℕ) → take (length a) (drop (length a * suc i) (a ++ b)) ≡ take (length a) (drop (length a * i) b)
past a b i = rw (mul-suc (length a) i, add_comm (length a * i) (length a), drop-append-add a b (length a * i))

keypoint_at : (ks : List RawKeypoint) (i : ℕ) (d : RawKeypoint) → i < length ks → take keypoint_words (drop (keypoint_words * i) (raw.words ks)) ≡ raw.words_of (get_or ks i d)
unfolding raw.words
keypoint_at [] i d l = absurd (omega arith)
keypoint_at (k ∷ ks) zero d l = refl
keypoint_at (k ∷ ks) (suc i) d l =
    past (raw.words_of k) (raw.words ks) i ∙ keypoint_at ks i d (omega arith)

oriented_at : (os : List OrientedKeypoint) (i : ℕ) (d : OrientedKeypoint) → i < length os → take orient.oriented_words (drop (orient.oriented_words * i) (orient.words os)) ≡ orient.words_of (get_or os i d)
unfolding orient.words
oriented_at [] i d l = absurd (omega arith)
oriented_at (o ∷ os) zero d l = refl
oriented_at (o ∷ os) (suc i) d l =
    past (orient.words_of o) (orient.words os) i ∙ oriented_at os i d (omega arith)

pub words_rule : WordsRule
words_rule =
    record {
      keypoint = keypoint_back;
      oriented = oriented_back;
      found = found_held;
      directed = directed_held;
      keypoint_at = keypoint_at;
      oriented_at = oriented_at;
    }
