use Prim.Native.Nat.{ℕ}
use mathlib.Core.Path.{◌≡◌, ◌∙◌, sym, ap}
use mathlib.Core.List.{List}
use lib.ListN.{length}
use mathlib.Core.Bool.{Bool, cond}
use borrow.Author.Tests.{eq-eqb, ne_eqb}
use Rattle.orient_words.specs.Oriented.{oriented_words}
use Rattle.words.specs.Oriented.{six_in, unoriented, oriented_in}
use Rattle.words.proofs.oriented_in.Goals as goal

whole_is : (o : List ℕ) → length o ≡ oriented_words → six_in o ≡ oriented_in o
unfolding oriented_in
whole_is o h = sym (ap (λ (b : Bool). cond b (six_in o) unoriented) (eq-eqb (length o) oriented_words h))

unoriented_is : (o : List ℕ) → (length o ≡ oriented_words → ⊥) → unoriented ≡ oriented_in o
unfolding oriented_in
unoriented_is o h = sym (ap (λ (b : Bool). cond b (six_in o) unoriented) (ne_eqb (length o) oriented_words h))

pub returns-then-o-eq-ORIENTED_WORDS : goal.returns-then-o-eq-ORIENTED_WORDS
returns-then-o-eq-ORIENTED_WORDS c = c.whole_oriented.ensures ∙ whole_is _ c.if-o-eq-ORIENTED_WORDS.true

pub returns-else-o-eq-ORIENTED_WORDS : goal.returns-else-o-eq-ORIENTED_WORDS
returns-else-o-eq-ORIENTED_WORDS c = c.unoriented_keypoint.ensures ∙ unoriented_is _ c.if-o-eq-ORIENTED_WORDS.false
