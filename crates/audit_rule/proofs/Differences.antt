-- Where two lists of fields first differ, and what the verdict on two lists of records says. Assumes nothing.
use Prim.Native.Nat.{ℕ, zero, suc, ◌+◌, ◌-◌, ◌<◌, ◌≤◌}
use native.Mathlib.Omega.{arith}
use mathlib.Core.Path.{◌≡◌, refl, sym, ap, ◌∙◌, subst}
use mathlib.Core.Bool.{Bool, true, false, cond, and-eq-true_iff}
use mathlib.Core.List.{List, [], ◌∷◌}
use borrow.Author.Tests.{eqb-true, eqb-false}
use lib.Dec.{eqb}
use lib.ListN.{length, get_or, take}
use Rattle.params.specs.Answers.{on_fault}
use Rattle.sheet.specs.Sheet.{all_pass}
use Rattle.sheet.proofs.Words.{field_count}
use Rattle.audit_compare.specs.Difference.{differs_from, first_difference}
use Rattle.audit_verdict.specs.Verdict.{records_verdict, Checked, Refused, Accepted, Header, Differs, Missing, LeftOver}
use Rattle.audit_rule.specs.Rules.{FirstAt}

-- ---- where two lists of fields first differ

-- f is the place j of both, where the first of all is numbered `at`
record Place (at f : ℕ) (xs ys : List ℕ) : Type 0 where
  j : ℕ
  is : f ≡ at + j
  inside : j < length xs
  before : (i : ℕ) → i < j → get_or xs i 0 ≡ get_or ys i 0
  there : get_or xs j 0 ≡ get_or ys j 0 → ⊥

differs_at : (at : ℕ) (xs ys : List ℕ) → (differs_from at xs ys ≡ 0 → ⊥) → Place at (differs_from at xs ys) xs ys
unfolding differs_from
differs_at at [] ys h = absurd (h refl)
differs_at at (x ∷ xs) [] h = absurd (h refl)
differs_at at (x ∷ xs) (y ∷ ys) h = either (eqb x y) refl h (differs_at (suc at) xs ys)
  where
    later : (p : Place (suc at) (differs_from (suc at) xs ys) xs ys) → x ≡ y → (i : ℕ) → i < suc p.j → get_or (x ∷ xs) i 0 ≡ get_or (y ∷ ys) i 0
    later p e zero less = e
    later p e (suc i) less = p.before i (omega arith)

    either : (b : Bool) → eqb x y ≡ b → (cond b (differs_from (suc at) xs ys) at ≡ 0 → ⊥)
        → ((differs_from (suc at) xs ys ≡ 0 → ⊥) → Place (suc at) (differs_from (suc at) xs ys) xs ys) → Place at (cond b (differs_from (suc at) xs ys) at) (x ∷ xs) (y ∷ ys)
    either true e n rest =
        let p = rest n in
        record { j = suc p.j; is = omega (arith, p.is); inside = omega (arith, p.inside); before = later p (eqb-true x y e); there = p.there }
    either false e n rest = record { j = 0; is = omega arith; inside = omega arith; before = λ i less. absurd (omega arith); there = eqb-false x y e }

pub first_at : (xs ys : List ℕ) (f : ℕ) → first_difference xs ys ≡ f → (f ≡ 0 → ⊥) → FirstAt f xs ys
first_at xs ys f e n =
    let p = differs_at 1 xs ys (λ z. n (sym e ∙ z)) in
    let q : f - 1 ≡ p.j = omega (arith, e, p.is) in
    record {
      from = omega arith;
      to = omega (arith, e, p.is, p.inside);
      before = λ i less. p.before i (omega (arith, e, p.is));
      there = λ z. p.there (subst (λ (k : ℕ). get_or xs k 0 ≡ get_or ys k 0) q z);
    }

-- no place is named: two lists of one length are equal
pub differs_none : (at : ℕ) (xs ys : List ℕ) → 1 ≤ at → length xs ≡ length ys → differs_from at xs ys ≡ 0 → xs ≡ ys
unfolding differs_from
differs_none at [] [] h n e = refl
differs_none at [] (y ∷ ys) h n e = absurd (omega arith)
differs_none at (x ∷ xs) [] h n e = absurd (omega arith)
differs_none at (x ∷ xs) (y ∷ ys) h n e = either (eqb x y) refl e (differs_none (suc at) xs ys (omega arith) (omega arith))
  where
    either : (b : Bool) → eqb x y ≡ b → cond b (differs_from (suc at) xs ys) at ≡ 0 → (differs_from (suc at) xs ys ≡ 0 → xs ≡ ys) → x ∷ xs ≡ y ∷ ys
    either true t z rest = rw (eqb-true x y t, rest z)
    either false t z rest = absurd (omega arith)

-- ---- what the verdict on two lists of records says

pub record DiffersAt (at i f : ℕ) (g s : List (List ℕ)) : Type 0 where
  j : ℕ
  is : i ≡ at + j
  same : take j g ≡ take j s
  left : j < length g
  right : j < length s
  first : FirstAt f (get_or g j []) (get_or s j [])

pub record Ends (at i : ℕ) (short long : List (List ℕ)) : Type 0 where
  j : ℕ
  is : i ≡ at + j
  same : short ≡ take j long
  end : j ≡ length short
  more : j < length long

abbrev pub Outcome : ℕ → List (List ℕ) → List (List ℕ) → Checked → Type 0
Outcome at g s (Refused k) = ⊥
Outcome at g s Accepted = g ≡ s
Outcome at g s (Header f) = ⊥
Outcome at g s (Differs i f) = DiffersAt at i f g s
Outcome at g s (Missing i) = Ends at i s g
Outcome at g s (LeftOver i) = Ends at i g s

ends_later : (x y : List ℕ) → x ≡ y → (at i : ℕ) (short long : List (List ℕ)) → Ends (suc at) i short long → Ends at i (x ∷ short) (y ∷ long)
ends_later x y e at i short long p =
    record { j = suc p.j; is = omega (arith, p.is); same = rw (e, p.same); end = ap suc p.end; more = omega (arith, p.more) }

-- with an equal record in front of both
later : (x y : List ℕ) → x ≡ y → (at : ℕ) (g s : List (List ℕ)) (v : Checked) → Outcome (suc at) g s v → Outcome at (x ∷ g) (y ∷ s) v
later x y e at g s (Refused k) o = o
later x y e at g s Accepted o = rw (e, o)
later x y e at g s (Header f) o = o
later x y e at g s (Differs i f) o =
    record { j = suc o.j; is = omega (arith, o.is); same = rw (e, o.same); left = omega (arith, o.left); right = omega (arith, o.right); first = o.first }
later x y e at g s (Missing i) o = ends_later y x (sym e) at i s g o
later x y e at g s (LeftOver i) o = ends_later x y e at i g s o

-- where the first is numbered 0
pub differs_here : (i f : ℕ) (g s : List (List ℕ)) → DiffersAt 0 i f g s → (take i g ≡ take i s) × (i < length g) × (i < length s) × FirstAt f (get_or g i []) (get_or s i [])
differs_here i f g s p = subst (λ (k : ℕ). (take k g ≡ take k s) × (k < length g) × (k < length s) × FirstAt f (get_or g k []) (get_or s k [])) (omega (arith, p.is)) (p.same, p.left, p.right, p.first)

pub ends_here : (i : ℕ) (short long : List (List ℕ)) → Ends 0 i short long → (short ≡ take i long) × (i ≡ length short) × (i < length long)
ends_here i short long p = subst (λ (k : ℕ). (short ≡ take k long) × (k ≡ length short) × (k < length long)) (omega (arith, p.is)) (p.same, p.end, p.more)

-- a record's fields are all there
abbrev pub row : List ℕ → Bool
row r = eqb (length r) field_count

pub outcome : (at : ℕ) (g s : List (List ℕ)) → all_pass row g ≡ true → all_pass row s ≡ true → Outcome at g s (records_verdict at g s)
unfolding records_verdict all_pass
outcome at [] [] a b = refl
outcome at (x ∷ g) [] a b = record { j = 0; is = omega arith; same = refl; end = refl; more = omega arith }
outcome at [] (y ∷ s) a b = record { j = 0; is = omega arith; same = refl; end = refl; more = omega arith }
outcome at (x ∷ g) (y ∷ s) a b =
    let c = (and-eq-true_iff (row x) (all_pass row g)).0 a in
    let d = (and-eq-true_iff (row y) (all_pass row s)).0 b in
    either (first_difference x y) refl (eqb-true (length x) field_count c.0 ∙ sym (eqb-true (length y) field_count d.0)) (outcome (suc at) g s c.1 d.1)
  where
    either : (d : ℕ) → first_difference x y ≡ d → length x ≡ length y → Outcome (suc at) g s (records_verdict (suc at) g s)
        → Outcome at (x ∷ g) (y ∷ s) (on_fault d (records_verdict (suc at) g s) (Differs at d))
    either zero e n o = later x y (differs_none 1 x y (omega arith) n e) at g s (records_verdict (suc at) g s) o
    either (suc d) e n o =
        record { j = 0; is = omega arith; same = refl; left = omega arith; right = omega arith; first = first_at x y (suc d) e (λ z. omega arith) }
