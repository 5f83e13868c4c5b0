-- Words written one keypoint after the other. Assumes nothing.
use Prim.Native.Nat.{ℕ, ◌+◌, ◌*◌, ◌<◌, ◌≤◌}
use mathlib.Core.Path.{◌≡◌, refl, sym, ◌∙◌}
use mathlib.Core.List.{List, [], ◌∷◌, ◌++◌, map, append_assoc}
use native.Mathlib.Numerals.{add-one}
use native.Mathlib.Omega.{arith}
use lib.ListN.{length, take, get_or, length-append, length-take}
use lib.Seq.{take-suc, take_all, drop-drop}
use Rattle.std.proofs.lemmas.List.{length-map, map-append}
use borrow.Rule.Slice.PartMut.{put_mid}
use lib.Ieee.{Float}
use Rattle.lists.specs.Pasted.{pasted}
use Rattle.lists.proofs.Pasted.{pasted_none, pasted_append}
use Rattle.detect_keypoint.specs.declared.RawKeypoint.{RawKeypoint}
use Rattle.orient_words.specs.Oriented.{oriented_of, oriented_words, words_of, words}
use Rattle.orient_words.specs.declared.OrientedKeypoint.{OrientedKeypoint}

-- a run of words copied into its place
pub copied : (at k : ℕ) (old new ws : List ℕ) → new ≡ ws → k ≡ length ws → put_mid at k old new ≡ pasted at ws old
unfolding pasted
copied at k old new ws e l = rw (e, l, drop-drop)

words_append : (a b : List OrientedKeypoint) → words (a ++ b) ≡ words a ++ words b
unfolding words
words_append [] b = refl
words_append (o ∷ a) b = rw (words_append a b, append_assoc)

pub length_words : (os : List OrientedKeypoint) → length (words os) ≡ length os * oriented_words
unfolding words
length_words [] = refl
length_words (o ∷ os) = omega (arith, length_words os)

-- the words of the first n angles
unfoldable pub words_to : RawKeypoint → List Float → ℕ → List ℕ
words_to k all n = words (map (oriented_of k) (take n all))

pub words_none : (k : RawKeypoint) (all : List Float) (out : List ℕ) → out ≡ pasted 0 (words_to k all 0) out
unfolding words_to words
words_none k all out = sym (pasted_none 0 out)

pub length_to : (k : RawKeypoint) (all : List Float) (n : ℕ) → n ≤ length all → length (words_to k all n) ≡ n * oriented_words
unfolding words_to
length_to k all n h = length_words (map (oriented_of k) (take n all)) ∙ rw (length-map, length-take) (omega arith)

to_more : (k : RawKeypoint) (all : List Float) (d : Float) (n : ℕ) (o : OrientedKeypoint) → n < length all → o ≡ oriented_of k (get_or all n d) → words_to k all (n + 1) ≡ words_to k all n ++ words_of o
unfolding words_to words
to_more k all d n o h e = rw (e, add-one, take-suc all n d h, map-append, words_append)

-- one more
pub words_more : (k : RawKeypoint) (all : List Float) (d : Float) (n : ℕ) (o : OrientedKeypoint) (out out₀ new : List ℕ) → n < length all → (n + 1) * oriented_words ≤ length out₀ → o ≡ oriented_of k (get_or all n d)
    → out ≡ pasted 0 (words_to k all n) out₀ → new ≡ pasted (n * oriented_words) (words_of o) out → new ≡ pasted 0 (words_to k all (n + 1)) out₀
words_more k all d n o out out₀ new h r e p q =
    let l = length_to k all n (omega arith) in
    let t : words_to k all (n + 1) ≡ words_to k all n ++ words_of o = to_more k all d n o h e in
    let m : 0 + length (words_to k all n ++ words_of o) ≤ length out₀ = rw (length-append) (omega arith) in
    let z : 0 + length (words_to k all n) ≡ n * oriented_words = omega arith in
    q ∙ rw (p, t, pasted_append 0 (words_to k all n) (words_of o) out₀ m, z)

-- all of them
pub words_whole : (k : RawKeypoint) (all : List Float) (n : ℕ) → length all ≤ n → words_to k all n ≡ words (map (oriented_of k) all)
unfolding words_to
words_whole k all n h = rw (take_all n all h)
