-- The ranges of fields, as the code asks for them. Assumes nothing.
use Rattle.std.proofs.Common.{◌≡◌, ℕ, ◌-◌, ◌<◌, Bool, true, ◌&&◌, refl, sym, ap, ◌∙◌, arith, leb, ltb, eqb}
use Rattle.std.proofs.lemmas.Bool.Decides.{nat_tests}
use Rattle.lists.proofs.Bools.{and_true, and_assoc}

pub is_one : (a v : ℕ) → eqb v a ≡ (leb a v && leb v a)
is_one a v = grind (arith, nat_tests)

pub is_below : (s v : ℕ) → 0 < s → ltb v s ≡ (leb 0 v && leb v (s - 1))
is_below s v h = grind (arith, nat_tests)

pub is_up_to : (t v : ℕ) → leb v t ≡ (leb 0 v && leb v t)
is_up_to t v = grind (arith, nat_tests)

pub all_five : {a b c d e p q r s t : Bool} → a ≡ p → b ≡ q → c ≡ r → d ≡ s → e ≡ t →
    ((((a && b) && c) && d) && e) ≡ (p && (q && (r && (s && (t && true)))))
all_five ea eb ec ed ee = rw (ea, eb, ec, ed, ee) (simp (and_true, and_assoc))

pub all_seven : {a b c d e f g p q r s t u v : Bool} → a ≡ p → b ≡ q → c ≡ r → d ≡ s → e ≡ t → f ≡ u → g ≡ v →
    ((((((a && b) && c) && d) && e) && f) && g) ≡ (p && (q && (r && (s && (t && (u && (v && true)))))))
all_seven ea eb ec ed ee ef eg = rw (ea, eb, ec, ed, ee, ef, eg) (simp (and_true, and_assoc))
