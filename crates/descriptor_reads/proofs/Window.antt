-- Where the window and the cells round it are good, all that is read is. Assumes nothing.
use Prim.Native.Nat.{ℕ, zero, suc, ◌+◌, ◌*◌, ◌<◌, ◌≤◌}
use mathlib.Core.Path.{◌≡◌, refl, sym, ◌∙◌}
use mathlib.Core.Bool.{Bool, true, false, cond}
use mathlib.Core.List.{List, []}
use mathlib.Core.Logic.{⊎_elim}
use native.Mathlib.Numerals.{add-one}
use native.Mathlib.Omega.{arith}
use lib.ListN.{length}
use lib.Ieee.{Float}
use Rattle.lists.proofs.Naturals.{le_or_lt}
use Rattle.lists.specs.Ranges.{joined}
use Rattle.lists.proofs.Ranges.{joined_none, joined_more}
use Rattle.params.specs.Table.{all_good}
use Rattle.picture.specs.Picture.{first_in, past_in}
use Rattle.samples.specs.Area.{Inset, area_good}
use Rattle.samples.specs.declared.Area.{Area}
use Rattle.samples.proofs.Runs.{good_append}
use Rattle.samples.proofs.Strips.{area_four}
use Rattle.descriptor_run.specs.Cells.{used_at, over_cells, reads_of}
use Rattle.descriptor_patch.specs.Place.{Lies}
use Rattle.descriptor_patch.specs.declared.Patch.{Patch}

-- ---- what is joined of good parts is good

good_all : (lo hi : ℕ) (f : ℕ → List Float) → ((i : ℕ) → lo ≤ i → i < hi → all_good (f i) ≡ true) → all_good (joined lo hi f) ≡ true
unfolding all_good
good_all lo zero f e = rw (joined_none lo zero f (omega arith))
good_all lo (suc hi) f e =
    ⊎_elim
    (λ h. rw (← add-one hi, joined_more lo hi f h, good_append (joined lo hi f) (f hi), good_all lo hi f (λ i a b. e i a (omega arith)), e hi h (omega arith)))
    (λ h. rw (joined_none lo (suc hi) f h))
    (le_or_lt lo hi)

good_if : (u : Bool) (xs : List Float) → all_good xs ≡ true → all_good (cond u xs []) ≡ true
unfolding all_good
good_if true xs e = e
good_if false xs e = refl

-- ---- the window of a patch

abbrev window_of : Patch → Area
window_of t =
    record {
      top = first_in t.py t.radius;
      bottom = past_in t.py t.radius t.size.height;
      left = first_in t.px t.radius;
      right = past_in t.px t.radius t.size.width;
    }

-- an area of such sides lies in the picture with the cells round it, whatever the radius of each
module _ (at : ℕ) where
  first_some : (a radius : ℕ) → a ≡ first_in at radius → 1 ≤ a
  first_some a radius e = omega arith

  past_inside : (b radius side : ℕ) → b ≡ past_in at radius side → at < side → b + 1 ≤ side
  past_inside b radius side e h = omega arith

  in_order : (a b radius radius' side : ℕ) → a ≡ first_in at radius → b ≡ past_in at radius' side → at < side → a ≤ b + 1
  in_order a b radius radius' side e f h = omega arith

pub window_in : {len a b c d : ℕ} (t : Patch) (i j k l : ℕ) → len ≡ t.size.height * t.size.width → Lies t
    → a ≡ first_in t.py i → b ≡ past_in t.py j t.size.height → c ≡ first_in t.px k → d ≡ past_in t.px l t.size.width
    → Inset len t.size (record { top = a; bottom = b; left = c; right = d })
window_in t i j k l whole lies p q r s =
    record {
      whole = whole;
      up = first_some t.py _ i p;
      down = past_inside t.py _ j t.size.height q lies.row;
      left = first_some t.px _ k r;
      right = past_inside t.px _ l t.size.width s lies.col;
      order = in_order t.px _ _ k l t.size.width r s lies.col;
    }

window_reads : (img : List Float) (t : Patch) → length img ≡ t.size.height * t.size.width → Lies t → area_good img t.size.width (window_of t) ≡ true → all_good (reads_of img t) ≡ true
unfolding reads_of over_cells
window_reads img t whole lies g =
    good_all _ _ _
    (λ r a b. good_all _ _ _ (λ c p q. good_if (used_at t r c) _ (area_four img t.size (window_of t) (window_in t t.radius t.radius t.radius t.radius whole lies refl refl refl refl) g r c a b p q)))

-- the same of a window that is worked out, and of its test
pub window_yes : (img : List Float) (t : Patch) {a b c d : ℕ} {ok : Bool} → length img ≡ t.size.height * t.size.width → Lies t
    → a ≡ first_in t.py t.radius → b ≡ past_in t.py t.radius t.size.height → c ≡ first_in t.px t.radius → d ≡ past_in t.px t.radius t.size.width
    → ok ≡ area_good img t.size.width (record { top = a; bottom = b; left = c; right = d }) → ok ≡ true → true ≡ all_good (reads_of img t)
window_yes img t whole lies p q r s e y = sym (window_reads img t whole lies (rw (← p, ← q, ← r, ← s) (sym e ∙ y)))
