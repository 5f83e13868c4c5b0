-- The cells of a run are those of the window that lie in it. Assumes nothing.
use Prim.Native.Nat.{ℕ, zero, suc, ◌+◌, ◌-◌, ◌<◌, ◌≤◌, min, max}
use mathlib.Core.Path.{◌≡◌, refl, sym, ◌∙◌}
use mathlib.Core.Bool.{Bool, true, false, not, ◌&&◌, cond}
use mathlib.Core.List.{List, [], append-nil}
use mathlib.Core.Logic.{⊎_elim}
use native.Mathlib.Numerals.{add-one}
use native.Mathlib.Omega.{arith}
use borrow.Author.Tests.{lt-ltb, le-ltb, le-leb, lt-leb}
use lib.Dec.{leb, ltb}
use lib.IntN.{pos, ◌-ℤ◌}
use lib.Ieee.{neg}
use Rattle.lists.proofs.Naturals.{le_or_lt}
use Rattle.ieee.specs.F32.{◌<ᶠ◌, floor_of, to_i32}
use Rattle.lists.specs.Ranges.{joined}
use Rattle.lists.proofs.Ranges.{joined_none, joined_more, joined_split}
use Rattle.picture.specs.Picture.{first_in, past_in}
use Rattle.descriptor_patch.specs.Patch.{grid_at}
use Rattle.descriptor_patch.specs.Place.{Lies}
use Rattle.descriptor_patch.specs.declared.Patch.{Patch}
use Rattle.descriptor_run.specs.Cells.{in_run, ends_of, used_at, over_cells}
use Rattle.descriptor_run.specs.Run.{shifted, columns, run_of, over_run, row_of}
use Rattle.descriptor_run.specs.Place.{Inner}
use Rattle.descriptor_run.specs.declared.Ends.{Ends}
use Rattle.descriptor_run.specs.declared.Run.{Run}
use Rattle.descriptor_run.proofs.Whole.{same_test, low_end, high_end}

-- ---- lists joined over a range

module _ {A : Type 0} where
  pub joined_same : (lo hi : ℕ) (f g : ℕ → List A) → ((c : ℕ) → lo ≤ c → c < hi → f c ≡ g c) → joined lo hi f ≡ joined lo hi g
  joined_same lo zero f g e = rw (joined_none lo zero f (omega arith), joined_none lo zero g (omega arith))
  joined_same lo (suc hi) f g e =
      ⊎_elim
      (λ h. rw (← add-one hi, joined_more lo hi f h, joined_more lo hi g h, joined_same lo hi f g (λ c a b. e c a (omega arith)), e hi h (omega arith)))
      (λ h. rw (joined_none lo (suc hi) f h, joined_none lo (suc hi) g h))
      (le_or_lt lo hi)

  pub joined_void : (lo hi : ℕ) (f : ℕ → List A) → ((c : ℕ) → lo ≤ c → c < hi → f c ≡ []) → joined lo hi f ≡ []
  joined_void lo zero f e = joined_none lo zero f (omega arith)
  joined_void lo (suc hi) f e =
      ⊎_elim
      (λ h. rw (← add-one hi, joined_more lo hi f h, joined_void lo hi f (λ c a b. e c a (omega arith)), e hi h (omega arith)))
      (λ h. joined_none lo (suc hi) f h)
      (le_or_lt lo hi)

  -- what stands only from a to below b may be joined over those alone
  pub joined_run : (lo hi a b : ℕ) (f g : ℕ → List A) → lo ≤ a → b ≤ hi → ((c : ℕ) → lo ≤ c → c < hi → f c ≡ cond (leb a c && ltb c b) (g c) []) → joined lo hi f ≡ joined a b g
  joined_run lo hi a b f g h k e = ⊎_elim long short (le_or_lt a b)
    where
      before : (c : ℕ) → c < a → cond (leb a c && ltb c b) (g c) [] ≡ []
      before c l = rw (lt-leb a c l)

      after : (c : ℕ) → b ≤ c → a ≤ b → cond (leb a c && ltb c b) (g c) [] ≡ []
      after c l m = rw (le-leb a c (omega arith), le-ltb c b l)

      inside : (c : ℕ) → a ≤ c → c < b → cond (leb a c && ltb c b) (g c) [] ≡ g c
      inside c l m = rw (le-leb a c l, lt-ltb c b m)

      short : b < a → joined lo hi f ≡ joined a b g
      short m =
          joined_void lo hi f (λ c p q. e c p q ∙ ⊎_elim (λ r. rw (le-leb a c r, le-ltb c b (omega arith))) (λ r. before c r) (le_or_lt a c))
          ∙ sym (joined_none a b g (omega arith))

      long : a ≤ b → joined lo hi f ≡ joined a b g
      long m =
          sym (joined_split lo a hi f h (omega arith))
          ∙ rw (joined_void lo a f (λ c p q. e c p (omega arith) ∙ before c q), ← joined_split a b hi f m k, joined_void b hi f (λ c p q. e c (omega arith) q ∙ after c p m), append-nil)
          (joined_same a b f g (λ c p q. e c (omega arith) (omega arith) ∙ inside c p q))

-- ---- the run

abbrev lowest : ℕ → Ends → ℕ
lowest px e = shifted px (to_i32 (floor_of e.lo))

abbrev highest : ℕ → Ends → ℕ
highest px e = shifted (px + 2) (to_i32 (neg (floor_of (neg e.hi))))

abbrev none : ℕ → Run
none a = record { first = a; past = 0 }

abbrev some : ℕ → ℕ → ℕ → Ends → Run
some a b px e = record { first = max a (lowest px e - 1); past = min b (highest px e) }

pub run_start : (a b px : ℕ) (e : Ends) → a ≤ (columns a b px e).first
unfolding columns
run_start a b px e = go (e.hi <ᶠ e.lo)
  where
    go : (t : Bool) → a ≤ (cond t (none a) (some a b px e)).first
    go true = omega arith
    go false = omega arith

pub run_end : (a b px : ℕ) (e : Ends) → (columns a b px e).past ≤ b
unfolding columns
run_end a b px e = go (e.hi <ᶠ e.lo)
  where
    go : (t : Bool) → (cond t (none a) (some a b px e)).past ≤ b
    go true = omega arith
    go false = omega arith

pub run_is : (a b px : ℕ) (e : Ends) (c : ℕ) → a ≤ c → c < b → in_run e (pos c -ℤ pos px) ≡ (leb (columns a b px e).first c && ltb c (columns a b px e).past)
unfolding columns in_run
run_is a b px e c h k = rw (low_end px c (to_i32 (floor_of e.lo)), high_end px c (to_i32 (neg (floor_of (neg e.hi))))) (go (e.hi <ᶠ e.lo))
  where
    low : leb (lowest px e) (c + 1) ≡ leb (max a (lowest px e - 1)) c
    low = same_test (lowest px e) (c + 1) (max a (lowest px e - 1)) c (λ l. omega arith) (λ l. omega arith)

    high : ltb c (highest px e) ≡ ltb c (min b (highest px e))
    high = same_test (suc c) (highest px e) (suc c) (min b (highest px e)) (λ l. omega arith) (λ l. omega arith)

    go : (t : Bool) → (not t && (leb (lowest px e) (c + 1) && ltb c (highest px e))) ≡ (leb (cond t (none a) (some a b px e)).first c && ltb c (cond t (none a) (some a b px e)).past)
    go true = rw (le-leb a c h, le-ltb c 0 (omega arith))
    go false = rw (low, high)

-- ---- the rows

cond_and : {A : Type 0} (a b : Bool) (x : List A) → cond (a && b) x [] ≡ cond a (cond b x []) []
cond_and true b x = refl
cond_and false b x = refl

pub over_row : {A : Type 0} (t : Patch) (part : ℕ → ℕ → List A) (r : ℕ)
    → joined (first_in t.px t.radius) (past_in t.px t.radius t.size.width) (λ c. cond (used_at t r c) (part r c) []) ≡ row_of t part r
unfolding row_of over_run run_of used_at
over_row t part r =
    let a = first_in t.px t.radius in
    let b = past_in t.px t.radius t.size.width in
    let e = ends_of t r in
    joined_run a b (columns a b t.px e).first (columns a b t.px e).past _ _ (run_start a b t.px e) (run_end a b t.px e)
    (λ c p q. cond_and (in_run e (pos c -ℤ pos t.px)) (grid_at t r c) (part r c) ∙ rw (run_is a b t.px e c p q))

-- what is said of each used cell is what the rows' runs say of theirs
pub over_cells_lem : {A : Type 0} (t : Patch) (part : ℕ → ℕ → List A)
    → joined (first_in t.py t.radius) (past_in t.py t.radius t.size.height) (row_of t part) ≡ over_cells t part
unfolding over_cells
over_cells_lem t part = joined_same _ _ _ _ (λ r p q. sym (over_row t part r))

-- a loop over a range ends at its end, or does nothing
pub joined_done : {A : Type 0} (lo hi c : ℕ) (f : ℕ → List A) → c ≤ max lo hi → hi ≤ c → joined lo c f ≡ joined lo hi f
joined_done lo hi c f h k =
    ⊎_elim
    (λ l. let e : c ≡ hi = omega arith in rw e)
    (λ l. rw (joined_none lo c f (omega arith), joined_none lo hi f (omega arith)))
    (le_or_lt lo hi)

-- the columns of a row's run have their neighbours
pub run_within : (t : Patch) (r : ℕ) → Lies t → (1 ≤ (run_of t r).first) × ((run_of t r).past + 1 ≤ t.size.width)
unfolding run_of
run_within t r l =
    let a = first_in t.px t.radius in
    let b = past_in t.px t.radius t.size.width in
    let s = run_start a b t.px (ends_of t r) in
    let e = run_end a b t.px (ends_of t r) in
    (omega (arith, s), omega (arith, e, l.col))

inner_first : {r : ℕ} (at radius : ℕ) → first_in at radius ≤ r → 1 ≤ r
inner_first at radius h = omega arith

inner_last : {r : ℕ} (at radius side : ℕ) → r < past_in at radius side → r + 1 < side
inner_last at radius side h = omega arith

pub inner : (t : Patch) (r : ℕ) → Lies t → first_in t.py t.radius ≤ r → r < past_in t.py t.radius t.size.height → Inner t r (run_of t r)
inner t r l a b =
    let q = run_within t r l in
    record { up = inner_first t.py t.radius a; down = inner_last t.py t.radius t.size.height b; left = q.0; right = q.1 }
