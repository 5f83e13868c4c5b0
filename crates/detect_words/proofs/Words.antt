-- Keypoints as words: how long they are, and how lists are written one behind the other. Assumes nothing.
use Prim.Native.Nat.{ℕ, ◌+◌, ◌*◌, ◌<◌, ◌≤◌}
use mathlib.Core.Path.{◌≡◌, refl, sym, ◌∙◌}
use mathlib.Core.List.{List, [], ◌∷◌, ◌++◌}
use native.Mathlib.Nat.{zero-add}
use native.Mathlib.Numerals.{add-one}
use native.Mathlib.Omega.{arith}
use lib.ListN.{length, get_or, take, set, length-append}
use lib.Seq.{sets, take-suc, length-take-le}
use Rattle.lists.specs.Ranges.{joined}
use Rattle.lists.specs.Pasted.{pasted}
use Rattle.lists.proofs.Ranges.{joined_more, joined_split, sets_append, sets_front}
use Rattle.params.specs.Limits.{keypoint_words}
use Rattle.detect_keypoint.specs.declared.RawKeypoint.{RawKeypoint}
use Rattle.detect_extrema.specs.Scan.{words}

pub length_words : (ks : List RawKeypoint) → length (words ks) ≡ keypoint_words * length ks
unfolding words
length_words [] = refl
length_words (k ∷ ks) = omega (arith, length_words ks)

pub words_append : (a b : List RawKeypoint) → words (a ++ b) ≡ words a ++ words b
unfolding words
words_append [] b = refl
words_append (k ∷ ks) b = rw (words_append ks b)

pub words_none : words [] ≡ []
unfolding words
words_none = refl

module _ {A : Type 0} where
  -- one word more
  pub sets_more : (l s : List A) (at i : ℕ) (z : A) → i < length s → set (sets l at (take i s)) (at + i) (get_or s i z) ≡ sets l at (take (i + 1) s)
  sets_more l s at i z h =
      let e : take (i + 1) s ≡ take i s ++ (get_or s i z ∷ []) = rw add-one (take-suc s i z h) in
      let n : length (take i s) ≡ i = length-take-le i s (omega arith) in
      let q = sets_append (take i s) (get_or s i z ∷ []) l at in
      rw e (rw n at q)

  pub sets_pasted : (l vs : List A) → length vs ≤ length l → sets l 0 vs ≡ pasted 0 vs l
  unfolding pasted
  sets_pasted l vs h = rw zero-add (sets_front l vs h)

-- what was counted and written from a place on is this list
abbrev pub Filled : List ℕ → ℕ → List ℕ → List ℕ → ℕ → Type 0
Filled old from ws out n = (n ≡ length ws) × (out ≡ sets old from ws)

pub filled_none : (old ws : List ℕ) (from : ℕ) → ws ≡ [] → Filled old from ws old 0
filled_none old ws from e = rw e (refl, refl)

-- one list more, behind those before it
pub filled_more : (old : List ℕ) (from : ℕ) (a b c out out' : List ℕ) (n x : ℕ) → c ≡ a ++ b → Filled old from a out n → Filled out (from + n) b out' x → Filled old from c out' (n + x)
filled_more old from a b c out out' n x e p q = rw e (rw length-append (omega arith), q.1 ∙ rw (p.1, p.0, sets_append))

-- so where the lists are parts of a range: one part more, and the parts up to one and from it on
module _ (old : List ℕ) (from lo mid : ℕ) (f : ℕ → List ℕ) (out out' : List ℕ) (n x : ℕ) (a : lo ≤ mid) (p : Filled old from (joined lo mid f) out n) where
  pub filled_part : Filled out (from + n) (f mid) out' x → Filled old from (joined lo (mid + 1) f) out' (n + x)
  filled_part q = filled_more old from (joined lo mid f) (f mid) (joined lo (mid + 1) f) out out' n x (joined_more lo mid f a) p q

  pub filled_parts : (hi : ℕ) → mid ≤ hi → Filled out (from + n) (joined mid hi f) out' x → Filled old from (joined lo hi f) out' (n + x)
  filled_parts hi b q = filled_more old from (joined lo mid f) (joined mid hi f) (joined lo hi f) out out' n x (sym (joined_split lo mid hi f a b)) p q
