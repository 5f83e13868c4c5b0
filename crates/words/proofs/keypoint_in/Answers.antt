use Prim.Native.Nat.{ℕ}
use mathlib.Core.Path.{◌≡◌, ◌∙◌, sym, ap}
use mathlib.Core.List.{List}
use lib.ListN.{length}
use mathlib.Core.Bool.{Bool, cond}
use borrow.Author.Tests.{eq-eqb, ne_eqb}
use Rattle.params.specs.Limits.{keypoint_words}
use Rattle.words.specs.Keypoint.{words_in, broken, keypoint_in}
use Rattle.words.proofs.keypoint_in.Goals as goal

whole_is : (k : List ℕ) → length k ≡ keypoint_words → words_in k ≡ keypoint_in k
unfolding keypoint_in
whole_is k h = sym (ap (λ (b : Bool). cond b (words_in k) broken) (eq-eqb (length k) keypoint_words h))

broken_is : (k : List ℕ) → (length k ≡ keypoint_words → ⊥) → broken ≡ keypoint_in k
unfolding keypoint_in
broken_is k h = sym (ap (λ (b : Bool). cond b (words_in k) broken) (ne_eqb (length k) keypoint_words h))

pub returns-then-k-eq-KEYPOINT_WORDS : goal.returns-then-k-eq-KEYPOINT_WORDS
returns-then-k-eq-KEYPOINT_WORDS c = c.whole_keypoint.ensures ∙ whole_is _ c.if-k-eq-KEYPOINT_WORDS.true

pub returns-else-k-eq-KEYPOINT_WORDS : goal.returns-else-k-eq-KEYPOINT_WORDS
returns-else-k-eq-KEYPOINT_WORDS c = c.broken_keypoint.ensures ∙ broken_is _ c.if-k-eq-KEYPOINT_WORDS.false
