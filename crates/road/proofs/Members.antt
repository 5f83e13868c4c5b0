-- What stands in a list: its place, the part of a joined list that it comes from, and a test that all pass. Assumes nothing.
use Prim.Native.Nat.{ℕ, zero, suc, ◌<◌, ◌≤◌, suc-le-suc}
use native.Mathlib.Nat.{zero-lt-suc}
use native.Mathlib.Omega.{arith}
use mathlib.Core.Path.{◌≡◌, refl, sym}
use mathlib.Core.Bool.{Bool, true, false, cond}
use mathlib.Core.Logic.{⊎_elim}
use mathlib.Core.List.Memᴰ
use mathlib.Core.List.{List, [], ◌∷◌, ◌++◌, map, flat_map, Memᴰ}
use borrow.Author.Tests.{leb-true}
use lib.Dec.{leb}
use lib.ListN.{length, get_or}
use Rattle.lists.specs.Ranges.{joined}
use Rattle.sheet.specs.Sheet.{all_pass}
use Rattle.road.specs.Road.{Among}

-- a place at which it stands; what stands past the list's end is never read
pub record Place {A : Type 0} (x : A) (xs : List A) : Type 0 where
  pub at : ℕ
  pub below : at < length xs
  pub is : (past : A) → get_or xs at past ≡ x

pub place : {A : Type 0} {x : A} {xs : List A} → Among x xs → Place x xs
place (Memᴰ.head {x} {xs} e) = record { at = 0; below = zero-lt-suc (length xs); is = λ past. sym e }
place (Memᴰ.tail m) = let p = place m in record { at = suc p.at; below = suc-le-suc p.below; is = λ past. p.is past }

-- an element of a list of parts comes from a part
pub record From {A B : Type 0} (f : A → List B) (xs : List A) (y : B) : Type 0 where
  pub source : A
  pub among : Among source xs
  pub inside : Among y (f source)

pub from_flat : {A B : Type 0} (f : A → List B) (xs : List A) (y : B) → Among y (flat_map f xs) → From f xs y
unfolding flat_map
from_flat f [] y m = absurd (Memᴰ.not-nil m)
from_flat f (x ∷ xs) y m =
    ⊎_elim
    (λ here. record { source = x; among = Memᴰ.head refl; inside = here })
    (λ later. let p = from_flat f xs y later in record { source = p.source; among = Memᴰ.tail p.among; inside = p.inside })
    (Memᴰ.append_cases (f x) m)

-- of a list of images, from an element
pub record Image {A B : Type 0} (g : A → B) (xs : List A) (y : B) : Type 0 where
  pub source : A
  pub among : Among source xs
  pub is : y ≡ g source

pub from_map : {A B : Type 0} (g : A → B) (xs : List A) (y : B) → Among y (map g xs) → Image g xs y
from_map g [] y m = absurd (Memᴰ.not-nil m)
from_map g (x ∷ xs) y m =
    ⊎_elim
    (λ e. record { source = x; among = Memᴰ.head refl; is = e })
    (λ later. let p = from_map g xs y later in record { source = p.source; among = Memᴰ.tail p.among; is = p.is })
    (Memᴰ.cases_cons m)

-- of the parts of a range, from a number of the range
pub record Step {B : Type 0} (lo hi : ℕ) (f : ℕ → List B) (y : B) : Type 0 where
  pub step : ℕ
  pub from : lo ≤ step
  pub below : step < hi
  pub inside : Among y (f step)

pub from_joined : {B : Type 0} (lo hi : ℕ) (f : ℕ → List B) (y : B) → Among y (joined lo hi f) → Step lo hi f y
unfolding joined
from_joined lo zero f y m = absurd (Memᴰ.not-nil m)
from_joined {B} lo (suc hi) f y m = go (leb lo hi) refl m (λ before. from_joined lo hi f y before)
  where
    go : (b : Bool) → leb lo hi ≡ b → Among y (cond b (joined lo hi f ++ f hi) []) → (Among y (joined lo hi f) → Step lo hi f y) → Step lo (suc hi) f y
    go false e n less = absurd (Memᴰ.not-nil n)
    go true e n less =
        ⊎_elim
        (λ before. let p = less before in record { step = p.step; from = p.from; below = omega (arith, p.below); inside = p.inside })
        (λ last. record { step = hi; from = leb-true lo hi e; below = omega arith; inside = last })
        (Memᴰ.append_cases (joined lo hi f) n)

-- a test that each passes
pub pass_all : (p : List ℕ → Bool) (rs : List (List ℕ)) → ((r : List ℕ) → Among r rs → p r ≡ true) → all_pass p rs ≡ true
unfolding all_pass
pass_all p [] h = refl
pass_all p (r ∷ rs) h = rw (h r (Memᴰ.head refl), pass_all p rs (λ x m. h x (Memᴰ.tail m)))
