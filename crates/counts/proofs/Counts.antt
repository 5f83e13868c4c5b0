-- Laws of counting: a range in two, one test by others, and what it means that none passes. Assumes nothing.
use Prim.Native.Nat.{ℕ, zero, suc, ◌+◌, ◌-◌, ◌≤◌, ◌<◌}
use mathlib.Core.Path.{◌≡◌, refl, sym, ap, ◌∙◌}
use mathlib.Core.Bool.{Bool, true, false, cond, ◌&&◌, ◌||◌, false≢true}
use mathlib.Core.List.{[], ◌∷◌}
use mathlib.Core.Logic.{◌⊎◌, inl, inr, ⊎_elim}
use native.Mathlib.Nat.{le_refl}
use native.Mathlib.Numerals.{add-one}
use native.Mathlib.Omega.{arith}
use borrow.Author.Tests.{leb-true, le-leb, lt-leb}
use lib.Dec.{leb}
use lib.ListN.{length, length-append}
use Rattle.lists.proofs.Naturals.{le_or_lt}
use Rattle.lists.proofs.Bools.{or_cases}
use Rattle.lists.proofs.Ranges.{joined_none, joined_more}
use Rattle.counts.specs.Counts.{counted, passed, some}

pub either : (b : Bool) → (b ≡ true) ⊎ (b ≡ false)
either true = inl refl
either false = inr refl

-- a test beside a harder one
pub absorbed : (a b : Bool) → (b ≡ true → a ≡ true) → (a && b) ≡ b
absorbed true b p = refl
absorbed false true p = p refl
absorbed false false p = refl

-- one for a test that is passed
abbrev pub one : Bool → ℕ
one b = cond b 1 0

pub one_le : (a b : Bool) → (a ≡ true → b ≡ true) → one a ≤ one b
one_le true true p = le_refl 1
one_le true false p = absurd (false≢true (p refl))
one_le false b p = omega arith

-- ---- from the left end to the right one

pub counted_none : (lo hi : ℕ) (f : ℕ → Bool) → hi ≤ lo → counted lo hi f ≡ 0
unfolding counted
counted_none lo zero f h = refl
counted_none lo (suc hi) f h = rw (lt-leb lo hi h) (let r = counted_none lo hi f (omega arith) in omega arith)

pub counted_next : (lo hi : ℕ) (f : ℕ → Bool) → lo ≤ hi → counted lo (hi + 1) f ≡ counted lo hi f + one (f hi)
unfolding counted
counted_next lo hi f h = rw (add-one, le-leb lo hi h)

-- the numbers up to a middle, and from it on
pub counted_split : (lo mid hi : ℕ) (f : ℕ → Bool) → lo ≤ mid → mid ≤ hi → counted lo hi f ≡ counted lo mid f + counted mid hi f
counted_split lo mid zero f a b =
    let x = counted_none lo 0 f (omega arith) in
    let y = counted_none lo mid f (omega arith) in
    let z = counted_none mid 0 f (omega arith) in
    omega arith
counted_split lo mid (suc hi) f a b =
    ⊎_elim
    (λ h. let x = counted_next lo hi f (omega arith) in
    let y = counted_next mid hi f h in
    let r = counted_split lo mid hi f a h in
    rw (← add-one hi) (omega arith))
    (λ l. let e : mid ≡ suc hi = omega arith in rw e (let w = counted_none (suc hi) (suc hi) f (le_refl (suc hi)) in omega arith))
    (le_or_lt mid hi)

pub counted_first : (lo hi : ℕ) (f : ℕ → Bool) → lo < hi → counted lo hi f ≡ one (f lo) + counted (lo + 1) hi f
counted_first lo hi f h =
    let s = counted_split lo (lo + 1) hi f (omega arith) (omega arith) in
    let n = counted_next lo lo f (le_refl lo) in
    let z = counted_none lo lo f (le_refl lo) in
    omega arith

-- ---- one test by two others

-- where each number that passes f passes one of g and h, and no other does
pub counted_sum : (lo hi : ℕ) (f g h : ℕ → Bool) → ((k : ℕ) → lo ≤ k → k < hi → one (f k) ≡ one (g k) + one (h k)) → counted lo hi f ≡ counted lo hi g + counted lo hi h
unfolding counted
counted_sum lo zero f g h p = refl
counted_sum lo (suc hi) f g h p =
    let r = counted_sum lo hi f g h (λ k a b. p k a (omega arith)) in
    let w = when (leb lo hi) (f hi) (g hi) (h hi) (λ e. p hi (leb-true lo hi e) (omega arith)) in
    omega arith
  where
    when : (b x y z : Bool) → (b ≡ true → one x ≡ one y + one z) → one (b && x) ≡ one (b && y) + one (b && z)
    when true x y z q = q refl
    when false x y z q = refl

-- where it passes at most as much as g and h do together
pub counted_or : (lo hi : ℕ) (f g h : ℕ → Bool) → ((k : ℕ) → lo ≤ k → k < hi → one (f k) ≤ one (g k) + one (h k)) → counted lo hi f ≤ counted lo hi g + counted lo hi h
unfolding counted
counted_or lo zero f g h p = omega arith
counted_or lo (suc hi) f g h p =
    let r = counted_or lo hi f g h (λ k a b. p k a (omega arith)) in
    let w = when (leb lo hi) (f hi) (g hi) (h hi) (λ e. p hi (leb-true lo hi e) (omega arith)) in
    omega arith
  where
    when : (b x y z : Bool) → (b ≡ true → one x ≤ one y + one z) → one (b && x) ≤ one (b && y) + one (b && z)
    when true x y z q = q refl
    when false x y z q = omega arith

counted_never' : (lo hi : ℕ) → counted lo hi (λ k. false) ≡ 0
counted_never' lo hi = let s = counted_sum lo hi (λ k. false) (λ k. false) (λ k. false) (λ k a b. refl) in omega arith

pub counted_same : (lo hi : ℕ) (f g : ℕ → Bool) → ((k : ℕ) → lo ≤ k → k < hi → f k ≡ g k) → counted lo hi f ≡ counted lo hi g
counted_same lo hi f g p =
    let s = counted_sum lo hi f g (λ k. false) (λ k a b. let e = ap one (p k a b) in omega arith) in
    let z = counted_never' lo hi in
    omega arith

pub counted_mono : (lo hi : ℕ) (f g : ℕ → Bool) → ((k : ℕ) → lo ≤ k → k < hi → f k ≡ true → g k ≡ true) → counted lo hi f ≤ counted lo hi g
counted_mono lo hi f g p =
    let s = counted_or lo hi f g (λ k. false) (λ k a b. let e = one_le (f k) (g k) (p k a b) in omega arith) in
    let z = counted_never' lo hi in
    omega arith

-- ---- none passes

pub counted_never : (lo hi : ℕ) (f : ℕ → Bool) → ((k : ℕ) → lo ≤ k → k < hi → f k ≡ false) → counted lo hi f ≡ 0
counted_never lo hi f p = counted_same lo hi f (λ k. false) p ∙ counted_never' lo hi

pub counted_zero : (lo hi : ℕ) (f : ℕ → Bool) → counted lo hi f ≡ 0 → (k : ℕ) → lo ≤ k → k < hi → f k ≡ false
counted_zero lo hi f z k a b =
    ⊎_elim
    (λ e. absurd
    (let s = counted_split lo k hi f a (omega arith) in
    let t = counted_first k hi f b in
    let o : one (f k) ≡ 1 = rw e in
    omega arith))
    (λ e. e)
    (either (f k))

-- ---- all pass

pub counted_all : (lo hi : ℕ) → lo ≤ hi → counted lo hi (λ k. true) ≡ hi - lo
counted_all lo zero h = let z = counted_none lo 0 (λ k. true) (omega arith) in omega arith
counted_all lo (suc hi) h =
    ⊎_elim
    (λ l. let n = counted_next lo hi (λ k. true) l in let r = counted_all lo hi l in rw (← add-one hi) (omega arith))
    (λ l. let z = counted_none lo (suc hi) (λ k. true) l in omega arith)
    (le_or_lt lo hi)

pub counted_most : (lo hi : ℕ) (f : ℕ → Bool) → lo ≤ hi → counted lo hi f ≤ hi - lo
counted_most lo hi f h =
    let m = counted_mono lo hi f (λ k. true) (λ k a b e. refl) in
    let a = counted_all lo hi h in
    omega arith

-- ---- a harder test, and one that a single number passes

-- f is harder than g, and x fails it that passes g
pub counted_strict : (lo hi : ℕ) (f g : ℕ → Bool) → ((k : ℕ) → lo ≤ k → k < hi → f k ≡ true → g k ≡ true) → (x : ℕ) → lo ≤ x → x < hi → f x ≡ false → g x ≡ true → counted lo hi f < counted lo hi g
counted_strict lo hi f g p x a b u v =
    let s = counted_split lo x hi f a (omega arith) in
    let t = counted_split lo x hi g a (omega arith) in
    let c = counted_first x hi f b in
    let d = counted_first x hi g b in
    let l = counted_mono lo x f g (λ k i j. p k i (omega arith)) in
    let r = counted_mono (x + 1) hi f g (λ k i j. p k (omega arith) j) in
    let y : one (f x) ≡ 0 = rw u in
    let z : one (g x) ≡ 1 = rw v in
    omega arith

pub counted_single : (lo hi : ℕ) (f : ℕ → Bool) → ((i j : ℕ) → lo ≤ i → i < hi → lo ≤ j → j < hi → f i ≡ true → f j ≡ true → i ≡ j) → counted lo hi f ≤ 1
counted_single lo zero f h = let z = counted_none lo 0 f (omega arith) in omega arith
counted_single lo (suc hi) f h =
    ⊎_elim
    (λ l. ⊎_elim (yes l) (no l (counted_single lo hi f (λ i j a b c d s t. h i j a (omega arith) c (omega arith) s t))) (either (f hi)))
    (λ l. let z = counted_none lo (suc hi) f l in omega arith)
    (le_or_lt lo hi)
  where
    yes : lo ≤ hi → f hi ≡ true → counted lo (suc hi) f ≤ 1
    yes l e =
        let n = counted_next lo hi f l in
        let z = counted_never lo hi f (λ k a b. ⊎_elim (λ t. absurd (let w = h k hi a (omega arith) l (omega arith) t e in omega arith)) (λ t. t) (either (f k))) in
        let o : one (f hi) ≡ 1 = rw e in
        rw (← add-one hi) (omega arith)

    no : lo ≤ hi → counted lo hi f ≤ 1 → f hi ≡ false → counted lo (suc hi) f ≤ 1
    no l r e =
        let n = counted_next lo hi f l in
        let o : one (f hi) ≡ 0 = rw e in
        rw (← add-one hi) (omega arith)

-- ---- the list of those that pass

one_long : (b : Bool) (i : ℕ) → length (cond b (i ∷ []) []) ≡ one b
one_long true i = refl
one_long false i = refl

pub length_passed : (lo hi : ℕ) (f : ℕ → Bool) → length (passed lo hi f) ≡ counted lo hi f
length_passed lo zero f = ap length (joined_none lo 0 (λ i. cond (f i) (i ∷ []) []) (omega arith)) ∙ sym (counted_none lo 0 f (omega arith))
length_passed lo (suc hi) f =
    ⊎_elim
    (λ l. let j = ap length (joined_more lo hi (λ i. cond (f i) (i ∷ []) []) l) ∙ length-append (passed lo hi f) (cond (f hi) (hi ∷ []) []) in
    let o = one_long (f hi) hi in
    let n = counted_next lo hi f l in
    let r = length_passed lo hi f in
    rw (← add-one hi) (omega arith))
    (λ l. ap length (joined_none lo (suc hi) (λ i. cond (f i) (i ∷ []) []) l) ∙ sym (counted_none lo (suc hi) f l))
    (le_or_lt lo hi)

-- ---- one of the numbers below n

pub some_next : (n : ℕ) (f : ℕ → Bool) → some (n + 1) f ≡ (some n f || f n)
unfolding some
some_next n f = rw add-one

pub some_none : (f : ℕ → Bool) → some 0 f ≡ false
unfolding some
some_none f = refl

pub some_elim : {C : Type 0} (f : ℕ → Bool) (n : ℕ) → ((k : ℕ) → k < n → f k ≡ true → C) → some n f ≡ true → C
unfolding some
some_elim f zero g h = absurd (false≢true h)
some_elim f (suc n) g h = ⊎_elim (λ x. some_elim f n (λ k l. g k (omega arith)) x) (λ x. g n (omega arith) x) (or_cases (some n f) (f n) h)
