-- The promises of even cover, rule T8. Assumes nothing.
use Prim.Native.Nat.{ℕ, zero, suc, ◌+◌, ◌≤◌, ◌<◌}
use mathlib.Core.Path.{◌≡◌, refl, sym, ap, ◌∙◌, subst}
use mathlib.Core.Bool.{Bool, true, false, cond, ◌&&◌}
use mathlib.Core.List.{List, [], ◌∷◌, ◌++◌, append-nil}
use mathlib.Core.Logic.{⊎_elim}
use native.Mathlib.Numerals.{add-one}
use native.Mathlib.Omega.{arith}
use lib.Dec.{ltb}
use lib.ListN.{length, get_or, length-append, get_or-append}
use lib.Seq.{get_or_at}
use Rattle.ieee.specs.F32.{float}
use Rattle.ieee_laws.proofs.Turned.{lt_turned, le_turned}
use Rattle.ieee_laws.proofs.TurnedOps.{same}
use Rattle.lists.specs.Each.{Each}
use Rattle.lists.proofs.Bools.{and_left, and_right}
use Rattle.lists.proofs.Naturals.{le_or_lt}
use Rattle.lists.proofs.Ranges.{joined_none, joined_more}
use Rattle.lists.proofs.Each.{each_one, each_when, each_joined, each_at}
use Rattle.lists.proofs.Both.{both_joined}
use Rattle.counts.specs.Counts.{counted, passed, some}
use Rattle.counts.proofs.Counts.{counted_same, counted_mono, length_passed, some_elim}
use Rattle.thin_rule.specs.Rule.{points_in, inside, many, quarter, share, before, best, keeps, kept}
use Rattle.thin_rule.specs.Strength.{Ordered, Sound}
use Rattle.thin_rule.specs.declared.Region.{Region}
use Rattle.thin_laws.specs.Promises.{Agree, CoverRule}
use Rattle.thin_laws.proofs.Quarters.{quarter_ordered, quarters_apart}
use Rattle.thin_laws.proofs.Cases.{keeps_inside, keeps_all, keeps_quarters}
use Rattle.thin_laws.proofs.Few.{keeps_few}

-- ---- the numbers of a range that pass a test lie below its end, and ascend

abbrev only : (ℕ → Bool) → ℕ → List ℕ
only f i = cond (f i) (i ∷ []) []

below : (lo hi : ℕ) (f : ℕ → Bool) → Each (λ i. i < hi) (passed lo hi f)
below lo hi f = each_joined lo hi (only f) (λ i a b. each_when (f i) (i ∷ []) (λ e. each_one b))

abbrev Ascends : List ℕ → Type 0
Ascends l = (i j : ℕ) → i < j → j < length l → get_or l i 0 < get_or l j 0

-- one more at the end, above all before
ascends_next : (l : List ℕ) (n : ℕ) → Each (λ i. i < n) l → Ascends l → Ascends (l ++ (n ∷ []))
ascends_next l n e a i j h k =
    let m : j < length l + 1 = rw (← length-append l (n ∷ [])) k in
    ⊎_elim
    (λ x. let z : j ≡ length l = omega arith in
    rw (get_or_at l n [] 0 j (sym z), get_or-append l (n ∷ []) 0 i (omega arith)) (each_at e 0 i (omega arith)))
    (λ x. rw (get_or-append l (n ∷ []) 0 i (omega arith), get_or-append l (n ∷ []) 0 j x) (a i j h x))
    (le_or_lt (length l) j)

ascends_when : (b : Bool) (l : List ℕ) (n : ℕ) → Each (λ i. i < n) l → Ascends l → Ascends (l ++ cond b (n ∷ []) [])
ascends_when true l n e a = ascends_next l n e a
ascends_when false l n e a = subst Ascends (sym (append-nil l)) a

ascends_none : Ascends []
ascends_none i j h k = absurd (omega arith)

ascends : (lo hi : ℕ) (f : ℕ → Bool) → Ascends (passed lo hi f)
ascends lo zero f = subst Ascends (sym (joined_none lo 0 (only f) (omega arith))) ascends_none
ascends lo (suc hi) f =
    ⊎_elim
    (λ l. let e : passed lo (suc hi) f ≡ passed lo hi f ++ only f hi = rw (← add-one hi) (joined_more lo hi (only f) l) in
    subst Ascends (sym e) (ascends_when (f hi) (passed lo hi f) hi (below lo hi f) (ascends lo hi f)))
    (λ l. subst Ascends (sym (joined_none lo (suc hi) (only f) l)) ascends_none)
    (le_or_lt lo hi)

-- ---- tests that agree on a range

passed_same : (lo hi : ℕ) (f g : ℕ → Bool) → ((i : ℕ) → lo ≤ i → i < hi → f i ≡ g i) → passed lo hi f ≡ passed lo hi g
passed_same lo hi f g h =
    both_joined (λ a b. a ≡ b) refl (λ a a' b b' p q. rw (p, q)) lo hi (only f) (only g) (λ i a b. rw (h i a b))

some_same : (n : ℕ) (f g : ℕ → Bool) → ((k : ℕ) → f k ≡ g k) → some n f ≡ some n g
unfolding some
some_same zero f g h = refl
some_same (suc n) f g h = rw (some_same n f g h, h n)

-- ---- lists that agree as numbers

module _ (ws vs : List ℕ) (a : Agree ws vs) where
  pub inside_alike : (r : Region) (i : ℕ) → i < points_in ws → inside ws r i ≡ inside vs r i
  unfolding inside
  inside_alike r i l =
      rw (sym (le_turned (same (float r.left)) (a.x i l)), sym (lt_turned (a.x i l) (same (float r.right))), sym (le_turned (same (float r.top)) (a.y i l)), sym (lt_turned (a.y i l) (same (float r.bottom))))

  before_alike : (j i : ℕ) → j < points_in ws → i < points_in ws → before ws j i ≡ before vs j i
  unfolding before
  before_alike j i l m = rw (sym (lt_turned (a.response i m) (a.response j l)), sym (lt_turned (a.response j l) (a.response i m)))

  counted_alike : (f g : ℕ → Bool) → ((i : ℕ) → i < points_in ws → f i ≡ g i) → counted 0 (points_in ws) f ≡ counted 0 (points_in vs) g
  counted_alike f g h = counted_same 0 (points_in ws) f g (λ i x l. h i l) ∙ ap (λ (n : ℕ). counted 0 n g) a.many

  many_alike : (r : Region) → many ws r ≡ many vs r
  many_alike r = counted_alike (inside ws r) (inside vs r) (inside_alike r)

  best_alike : (r : Region) (q i : ℕ) → i < points_in ws → best ws r q i ≡ best vs r q i
  unfolding best
  best_alike r q i l =
      ap (λ (n : ℕ). ltb n q)
      (counted_alike (λ j. inside ws r j && before ws j i) (λ j. inside vs r j && before vs j i) (λ j m. rw (inside_alike r j m, before_alike j i m l)))

  keeps_alike : (d : ℕ) (r : Region) (q i : ℕ) → i < points_in ws → keeps ws d r q i ≡ keeps vs d r q i
  unfolding keeps
  keeps_alike zero r q i l = rw (inside_alike r i l, many_alike r, best_alike r q i l)
  keeps_alike (suc d) r q i l =
      rw (inside_alike r i l, many_alike r, best_alike r q i l, some_same 4 (λ k. keeps ws d (quarter r k) (share q k) i) (λ k. keeps vs d (quarter r k) (share q k) i) (λ k. keeps_alike d (quarter r k) (share q k) i l))

  kept_alike : (d : ℕ) (r : Region) (q : ℕ) → kept ws d r q ≡ kept vs d r q
  unfolding kept
  kept_alike d r q =
      passed_same 0 (points_in ws) (keeps ws d r q) (keeps vs d r q) (λ i x l. keeps_alike d r q i l) ∙ ap (λ (n : ℕ). passed 0 n (keeps vs d r q)) a.many

-- ---- a quarter of a region that is cut keeps what the region keeps in it, and so no more than its share

quarter_keeps : (ws : List ℕ) (d : ℕ) (r : Region) (q k i : ℕ) → Ordered r → q < many ws r → 4 ≤ q → k < 4 → keeps ws (suc d) r q i ≡ true → inside ws (quarter r k) i ≡ true
    → keeps ws d (quarter r k) (share q k) i ≡ true
quarter_keeps ws d r q k i o l z m h e =
    some_elim (λ j. keeps ws d (quarter r j) (share q j) i) 4
    (λ j n x. subst (λ (y : ℕ). keeps ws d (quarter r y) (share q y) i ≡ true) (quarters_apart ws r j k i n m (keeps_inside ws d (quarter r j) (share q j) i x) e) x)
    (sym (keeps_quarters ws d r q i o l z) ∙ h)

quarter_few : (ws : List ℕ) (d : ℕ) (r : Region) (q k : ℕ) → Sound ws → Ordered r → q < many ws r → 4 ≤ q → k < 4
    → counted 0 (points_in ws) (λ i. keeps ws (suc d) r q i && inside ws (quarter r k) i) ≤ share q k
quarter_few ws d r q k s o l z m =
    let c = counted_mono 0 (points_in ws) (λ i. keeps ws (suc d) r q i && inside ws (quarter r k) i) (keeps ws d (quarter r k) (share q k))
    (λ i a b h. quarter_keeps ws d r q k i o l z m (and_left (keeps ws (suc d) r q i) (inside ws (quarter r k) i) h) (and_right (keeps ws (suc d) r q i) (inside ws (quarter r k) i) h)) in
    let f = keeps_few ws s d (quarter r k) (share q k) (quarter_ordered r k o) in
    omega arith

-- ---- the promises, by their names

kept_few : (ws : List ℕ) (d : ℕ) (r : Region) (q : ℕ) → Sound ws → Ordered r → length (kept ws d r q) ≤ q
unfolding kept
kept_few ws d r q s o = let e = length_passed 0 (points_in ws) (keeps ws d r q) in let f = keeps_few ws s d r q o in omega arith

kept_listed : (ws : List ℕ) (d : ℕ) (r : Region) (q i : ℕ) → i < length (kept ws d r q) → get_or (kept ws d r q) i 0 < points_in ws
unfolding kept
kept_listed ws d r q i l = each_at (below 0 (points_in ws) (keeps ws d r q)) 0 i l

kept_ascends : (ws : List ℕ) (d : ℕ) (r : Region) (q : ℕ) → Ascends (kept ws d r q)
unfolding kept
kept_ascends ws d r q = ascends 0 (points_in ws) (keeps ws d r q)

pub cover_rule : CoverRule
cover_rule =
    record {
      few = kept_few;
      listed = kept_listed;
      ascending = kept_ascends;
      whole = λ ws d r q i l h. keeps_all ws d r q i l ∙ h;
      shares = quarter_few;
      alike = λ ws vs d r q a. kept_alike ws vs a d r q;
    }
