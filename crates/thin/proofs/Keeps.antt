-- What is written is what a region keeps: in order after it was put in order, or all of a list within its quota. Assumes nothing.
use Prim.Native.Nat.{ℕ, zero, suc, ◌≤◌, ◌<◌}
use mathlib.Core.Path.{◌≡◌, refl, sym, ap, ◌∙◌, subst}
use mathlib.Core.Bool.{Bool, true, false, cond, not, ◌&&◌}
use Rattle.std.specs.Prelude.{None, Some}
use mathlib.Core.List.{List, [], ◌∷◌, ◌++◌}
use mathlib.Core.Logic.{inr, ⊎_elim}
use native.Mathlib.Nat.{sub-zero, zero-add}
use native.Mathlib.Numerals.{add-one}
use native.Mathlib.Omega.{arith}
use borrow.Author.Tests.{le-leb, lt-leb, leb-false, lt-ltb}
use lib.Dec.{leb, ltb}
use lib.ListN.{length, get_or, drop, get_or-append}
use Rattle.lists.specs.Pasted.{pasted}
use Rattle.lists.proofs.Bools.{and_false}
use Rattle.lists.proofs.Naturals.{le_or_lt}
use Rattle.lists.proofs.Ranges.{joined_more}
use Rattle.counts.specs.Counts.{counted, passed}
use Rattle.counts.proofs.Counts.{counted_same, counted_never, counted_all, length_passed}
use Rattle.params.specs.Answers.{Answer, Done, Short, answer_of, refused, refusal_number}
use Rattle.params.specs.declared.Refusal.{Refusal}
use Rattle.params.specs.declared.Refusal.TheVariants.{Shape, Layers, Length, Settings, Fields, Samples, Room, Sheet}
use Rattle.thin_rule.specs.Rule.{points_in, inside, keeps, kept}
use Rattle.thin_rule.specs.Strength.{Ordered, Sound}
use Rattle.thin_rule.specs.declared.Region.{Region}
use Rattle.thin_laws.proofs.Cases.{keeps_all}
use Rattle.thin_laws.proofs.Few.{keeps_few}
use Rattle.thin_part.specs.Runs.{Listed, Beside, Arranged}
use Rattle.thin_part.proofs.Parts.{none_listed}
use Rattle.thin_source.specs.Adds.{Added}
use Rattle.thin_region.proofs.Turns.{those, count_kept}
use Rattle.params.specs.Table.{line, first_fault, shape_wrong}
use Rattle.thin.specs.Entry.{frame, input_wrong, fault_of, thin_answer, thin_out}
use Rattle.thin.specs.Frames.{Given, missing}

-- ---- a list that has the new words in front, and behind them what it had

same_list : (s t : List ℕ) → length t ≡ length s → ((k : ℕ) → get_or t k 0 ≡ get_or s k 0) → t ≡ s
same_list [] [] l h = refl
same_list [] (y ∷ t) l h = absurd (omega arith)
same_list (x ∷ s) [] l h = absurd (omega arith)
same_list (x ∷ s) (y ∷ t) l h = rw (h 0, same_list s t (omega arith) (λ k. h (suc k)))

in_front : (new old t : List ℕ) → length new ≤ length old → length t ≡ length old → ((k : ℕ) → k < length new → get_or t k 0 ≡ get_or new k 0) → ((k : ℕ) → length new ≤ k → get_or t k 0 ≡ get_or old k 0) → t ≡ new ++ drop (length new) old
in_front [] old t f l g h = same_list old t l (λ k. h k (omega arith))
in_front (v ∷ new) [] t f l g h = absurd (omega arith)
in_front (v ∷ new) (o ∷ old) [] f l g h = absurd (omega arith)
in_front (v ∷ new) (o ∷ old) (x ∷ t) f l g h =
    rw (g 0 (omega arith), in_front new old t (omega arith) (omega arith) (λ k p. g (suc k) (omega arith)) (λ k p. h (suc k) (omega arith)))

pub pasted_front : (new old t : List ℕ) → length new ≤ length old → Beside old t 0 (length new) → ((k : ℕ) → k < length new → get_or t k 0 ≡ get_or new k 0) → t ≡ pasted 0 new old
unfolding pasted
pasted_front new old t f b g = rw (zero-add) (in_front new old t f b.length g (λ k p. b.outside k (inr p)))

-- ---- the answer

pub given_done : (n : ℕ) (new old t : List ℕ) → n ≡ length new → length new ≤ length old → t ≡ pasted 0 new old → Given new old (Done n) t
unfolding answer_of
given_done n new old t e l p = record { answer = rw (le-leb (length new) (length old) l, e); left = rw (le-leb (length new) (length old) l) p }

pub given_short : (n : ℕ) (new old : List ℕ) → n ≡ length new → length old < length new → Given new old (Short n) old
unfolding answer_of
given_short n new old e l = record { answer = rw (lt-leb (length new) (length old) l, e); left = rw (lt-leb (length new) (length old) l) }

missing_is : (new : List ℕ) (room m : ℕ) (b : Bool) → leb (length new) room ≡ b → Some m ≡ cond b None (Some (length new)) → (m ≡ length new) × (room < length new)
missing_is new room m true h e = absurd (cc)
missing_is new room m false h e = (cc, leb-false (length new) room h)

pub given_missing : (m : ℕ) (new old : List ℕ) → Some m ≡ missing new (length old) → Given new old (Short m) old
unfolding missing
given_missing m new old e = let w = missing_is new (length old) m (leb (length new) (length old)) refl e in given_short m new old w.0 w.1

pub room_enough : (new : List ℕ) (room : ℕ) → None ≡ missing new room → length new ≤ room
unfolding missing
room_enough new room e = ⊎_elim (λ l. l) (λ l. absurd (no (rw (lt-leb (length new) room l) at e))) (le_or_lt (length new) room)
  where
    no : None ≡ Some (length new) → ⊥
    no f = cc

-- ---- what was added, put in order

module _ (ws : List ℕ) (d : ℕ) (r : Region) (q : ℕ) (s t : List ℕ) (m : ℕ) (a : Added (those ws (keeps ws d r q)) s t 0 m) (l : length (kept ws d r q) ≤ length s) where
  many_kept : m ≡ length (kept ws d r q)
  many_kept = count_kept ws d r q s t m a

  pub added_fits : m ≤ length t
  added_fits = let e = many_kept in let f = a.beside.length in omega arith

  fits : m ≤ length s
  fits = let e = many_kept in omega arith

  pub added_listed : (n : ℕ) → n ≡ points_in ws → Listed n t 0 m
  added_listed n e =
      subst (λ (j : ℕ). Listed j t 0 m) (sym e)
      (none_listed (points_in ws) t 0 m
      (a.each fits (λ i. not (ltb i (points_in ws)))
      ∙ counted_never 0 (points_in ws) (λ i. keeps ws d r q i && not (ltb i (points_in ws))) (λ i x y. rw (lt-ltb i (points_in ws) y) (and_false (keeps ws d r q i)))))

  sorted : (n : ℕ) (u : List ℕ) → n ≡ points_in ws → Arranged t u 0 m 0 n → (k : ℕ) → k < length (kept ws d r q) → get_or u k 0 ≡ get_or (kept ws d r q) k 0
  unfolding kept
  sorted n u e g k h =
      g.sorted (keeps ws d r q) (record { each = λ f. a.each fits f ∙ ap (λ (j : ℕ). counted 0 j (λ i. keeps ws d r q i && f i)) (sym e) }) k (omega arith) (let z = many_kept in omega arith)
      ∙ rw (sub-zero, e)

  pub given_kept : (n : ℕ) (u : List ℕ) → n ≡ points_in ws → Arranged t u 0 m 0 n → Given (kept ws d r q) s (Done m) u
  given_kept n u e g =
      given_done m (kept ws d r q) s u many_kept l
      (pasted_front (kept ws d r q) s u l
      (subst (Beside s u 0) many_kept (record { length = g.beside.length ∙ a.beside.length; outside = λ k w. g.beside.outside k w ∙ a.beside.outside k w }))
      (sorted n u e g))

-- ---- is there room

pub few_kept : (ws : List ℕ) (d : ℕ) (r : Region) (q : ℕ) → Sound ws → Ordered r → length (kept ws d r q) ≤ q
unfolding kept
few_kept ws d r q s o = let e = length_passed 0 (points_in ws) (keeps ws d r q) in let f = keeps_few ws s d r q o in omega arith

-- ---- a list within its quota

get_d_last : (l : List ℕ) (v : ℕ) → get_or (l ++ (v ∷ [])) (length l) 0 ≡ v
get_d_last [] v = refl
get_d_last (x ∷ l) v = get_d_last l v

pub all_pass_lem : (n : ℕ) (f : ℕ → Bool) → ((i : ℕ) → i < n → f i ≡ true) → (length (passed 0 n f) ≡ n) × ((k : ℕ) → k < n → get_or (passed 0 n f) k 0 ≡ k)
all_pass_lem n f h = (long n h, place n h)
  where
    long : (n : ℕ) → ((i : ℕ) → i < n → f i ≡ true) → length (passed 0 n f) ≡ n
    long n h = length_passed 0 n f ∙ counted_same 0 n f (λ i. true) (λ i a b. h i b) ∙ counted_all 0 n (omega arith) ∙ sub-zero n

    place : (n : ℕ) → ((i : ℕ) → i < n → f i ≡ true) → (k : ℕ) → k < n → get_or (passed 0 n f) k 0 ≡ k
    place zero h k l = absurd (omega arith)
    place (suc n) h k l =
        let e : passed 0 (suc n) f ≡ passed 0 n f ++ (n ∷ []) = ap (λ (j : ℕ). passed 0 j f) (sym (add-one n)) ∙ joined_more 0 n (λ i. cond (f i) (i ∷ []) []) (omega arith) ∙ ap (λ (b : Bool). passed 0 n f ++ cond b (n ∷ []) []) (h n (omega arith)) in
        let m = long n (λ i p. h i (omega arith)) in
        ap (λ (x : List ℕ). get_or x k 0) e
        ∙ ⊎_elim
        (λ q. let z : k ≡ length (passed 0 n f) = omega arith in ap (λ (j : ℕ). get_or (passed 0 n f ++ (n ∷ [])) j 0) z ∙ get_d_last (passed 0 n f) n ∙ omega arith)
        (λ q. get_or-append (passed 0 n f) (n ∷ []) 0 k (omega arith) ∙ place n (λ i p. h i (omega arith)) k q)
        (le_or_lt n k)

module _ (ws : List ℕ) (d : ℕ) (r : Region) (q n : ℕ) (e : n ≡ points_in ws) (h : (i : ℕ) → i < points_in ws → inside ws r i ≡ true) (l : n ≤ q) where
  each_kept : (i : ℕ) → i < points_in ws → keeps ws d r q i ≡ true
  each_kept i p =
      keeps_all ws d r q i (let a = counted_same 0 (points_in ws) (inside ws r) (λ j. true) (λ j x y. h j y) in let b = counted_all 0 (points_in ws) (omega arith) in omega arith) ∙ h i p

  pub whole_many : n ≡ length (kept ws d r q)
  unfolding kept
  whole_many = e ∙ sym (all_pass_lem (points_in ws) (keeps ws d r q) each_kept).0

  pub whole_place : (k : ℕ) → k < points_in ws → get_or (kept ws d r q) k 0 ≡ k
  unfolding kept
  whole_place k p = (all_pass_lem (points_in ws) (keeps ws d r q) each_kept).1 k p

  pub whole_short : (s : List ℕ) → length s < n → Given (kept ws d r q) s (Short n) s
  whole_short s f = given_short n (kept ws d r q) s whole_many (let z = whole_many in omega arith)

  pub whole_done : (s t : List ℕ) → n ≤ length s → Beside s t 0 n → ((k : ℕ) → k < n → get_or t k 0 ≡ k) → Given (kept ws d r q) s (Done n) t
  whole_done s t f b g =
      let z = whole_many in
      given_done n (kept ws d r q) s t z (omega arith)
      (pasted_front (kept ws d r q) s t (omega arith) (subst (Beside s t 0) z b) (λ k p. g k (omega arith) ∙ sym (whole_place k (omega arith))))

-- ---- the entry

-- the table of this entry has no number above 5
fault_low : (ws : List ℕ) (w h q d : ℕ) → fault_of ws w h q d ≤ 5
unfolding fault_of first_fault
fault_low ws w h q d = low (shape_wrong w h) (input_wrong ws w h q d)
  where
    low : (a b : Bool) → first_fault (line 1 a ∷ line 5 b ∷ []) ≤ 5
    low true b = omega arith
    low false true = omega arith
    low false false = omega arith

pub frame_refused : (ws : List ℕ) (w h q d : ℕ) (r : Refusal) (old : List ℕ) → refusal_number r ≡ fault_of ws w h q d → (refused r ≡ thin_answer ws w h q d (length old)) × (old ≡ thin_out ws w h q d old)
unfolding thin_answer thin_out answer_of
frame_refused ws w h q d Shape old e = (rw (← e), rw (← e))
frame_refused ws w h q d Layers old e = (rw (← e), rw (← e))
frame_refused ws w h q d Length old e = (rw (← e), rw (← e))
frame_refused ws w h q d Settings old e = (rw (← e), rw (← e))
frame_refused ws w h q d Fields old e = (rw (← e), rw (← e))
frame_refused ws w h q d Samples old e = (rw (← e), rw (← e))
frame_refused ws w h q d (Room n) old e = absurd (let l = fault_low ws w h q d in omega arith)
frame_refused ws w h q d Sheet old e = absurd (let l = fault_low ws w h q d in omega arith)

pub frame_kept : (ws : List ℕ) (w h q d : ℕ) (r : Region) (a : Answer) (old out : List ℕ) → 0 ≡ fault_of ws w h q d → r ≡ frame w h → Given (kept ws d r q) old a out → (a ≡ thin_answer ws w h q d (length old)) × (out ≡ thin_out ws w h q d old)
unfolding thin_answer thin_out
frame_kept ws w h q d r a old out e i x =
    let y = subst (λ (v : Region). Given (kept ws d v q) old a out) i x in
    (rw (← e) y.answer, rw (← e) y.left)
