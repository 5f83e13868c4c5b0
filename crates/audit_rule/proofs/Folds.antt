-- Steps that each compare some records, or stop where a test fails: after all of them the records of all are compared, or it stopped. Assumes nothing.
use Prim.Native.Nat.{ℕ, zero, suc}
use mathlib.Core.Path.{◌≡◌, refl, sym, ap, ◌∙◌}
use mathlib.Core.Bool.{Bool, true, false, cond, ◌&&◌}
use mathlib.Core.List.Memᴰ
use mathlib.Core.List.{List, [], ◌∷◌, ◌++◌, map, flat_map, foldl, foldl-append, append_assoc}
use lib.Dec.{leb}
use Rattle.lists.specs.Ranges.{joined}
use Rattle.sheet.specs.Layout.{Layout}
use Rattle.road.specs.Road.{Among}
use Rattle.audit_compare.specs.Standing.{refused, compared, Standing}
use Rattle.audit_compare.proofs.Bare.{compared_good}
use Rattle.audit_rule.specs.Entry.{all_of}

-- a record that is compared refuses nothing
pub all_good_lem : (l : Layout) (stated : List (List ℕ)) (rs : List (List ℕ)) (st : Standing) → st.good ≡ true → (foldl (compared l stated) st rs).good ≡ true
all_good_lem l stated [] st g = g
all_good_lem l stated (r ∷ rs) st g = all_good_lem l stated rs (compared l stated st r) (compared_good l stated st r g)

module _ {A : Type 0} (l : Layout) (stated : List (List ℕ)) (step : Standing → A → Standing) (test : A → Bool) (records : A → List (List ℕ)) (stops : (x : A) → step refused x ≡ refused) where
  abbrev after : Standing → List (List ℕ) → Standing
  after st rs = foldl (compared l stated) st rs

  stay : (xs : List A) → foldl step refused xs ≡ refused
  stay [] = refl
  stay (x ∷ xs) = ap (λ (st : Standing). foldl step st xs) (stops x) ∙ stay xs

  -- what each step does, to a standing that is good
  abbrev pub Steps : A → Type 0
  Steps x = (st : Standing) → st.good ≡ true → step st x ≡ cond (test x) (after st (records x)) refused

  pub run : (xs : List A) → ((x : A) → Among x xs → Steps x) → (st : Standing) → st.good ≡ true → foldl step st xs ≡ cond (all_of test xs) (after st (flat_map records xs)) refused
  unfolding flat_map all_of
  run [] each st g = refl
  run (x ∷ xs) each st g = ap (λ (a : Standing). foldl step a xs) (each x (Memᴰ.head refl) st g) ∙ go (test x) (run xs (λ y m. each y (Memᴰ.tail m)) (after st (records x)) (all_good_lem l stated (records x) st g))
    where
      go : (b : Bool) → foldl step (after st (records x)) xs ≡ cond (all_of test xs) (after (after st (records x)) (flat_map records xs)) refused
          → foldl step (cond b (after st (records x)) refused) xs ≡ cond (b && all_of test xs) (after st (records x ++ flat_map records xs)) refused
      go true rest =
          rest
          ∙ ap (λ (a : Standing). cond (all_of test xs) a refused) (sym (foldl-append (compared l stated) st (records x) (flat_map records xs)))
      go false rest = stay xs

-- one record for each
pub flat_one : {A : Type 0} (f : A → List ℕ) (xs : List A) → flat_map (λ x. f x ∷ []) xs ≡ map f xs
unfolding flat_map
flat_one f [] = refl
flat_one f (x ∷ xs) = ap {B = List (List ℕ)} (λ r. f x ∷ r) (flat_one f xs)

-- the parts of a range, each flattened
flat_append : {A : Type 0} (f : A → List (List ℕ)) (xs ys : List A) → flat_map f (xs ++ ys) ≡ flat_map f xs ++ flat_map f ys
unfolding flat_map
flat_append f [] ys = refl
flat_append f (x ∷ xs) ys = ap {B = List (List ℕ)} (λ r. f x ++ r) (flat_append f xs ys) ∙ sym (append_assoc (f x) (flat_map f xs) (flat_map f ys))

pub flat_joined : {A : Type 0} (f : A → List (List ℕ)) (lo hi : ℕ) (part : ℕ → List A) → flat_map f (joined lo hi part) ≡ joined lo hi (λ i. flat_map f (part i))
unfolding joined flat_map
flat_joined f lo zero part = refl
flat_joined f lo (suc hi) part = either (leb lo hi) (flat_joined f lo hi part)
  where
    either : (b : Bool) → flat_map f (joined lo hi part) ≡ joined lo hi (λ i. flat_map f (part i))
        → flat_map f (cond b (joined lo hi part ++ part hi) []) ≡ cond b (joined lo hi (λ i. flat_map f (part i)) ++ flat_map f (part hi)) []
    either true less = flat_append f (joined lo hi part) (part hi) ∙ ap {B = List (List ℕ)} (λ r. r ++ flat_map f (part hi)) less
    either false less = refl
