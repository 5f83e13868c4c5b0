-- Good samples, one more at a time and one run more at a time. Assumes nothing.
use Prim.Native.Nat.{ℕ, zero, suc, ◌+◌, ◌-◌, ◌*◌, ◌<◌, ◌≤◌}
use mathlib.Core.Path.{◌≡◌, refl, sym, ap, ◌∙◌}
use mathlib.Core.Bool.{Bool, true, false, ◌&&◌}
use mathlib.Core.List.{List, [], ◌∷◌, ◌++◌}
use native.Mathlib.Nat.{mul-le-mul_right, suc-mul}
use native.Mathlib.Numerals.{add-one}
use native.Mathlib.Omega.{arith}
use lib.ListN.{length, get_or, take, drop, take-append-drop, drop_of_length-le, length-take, length-drop}
use lib.Seq.{drop-cons, drop-append-le, length-take-le, get_or-take, get_or-drop}
use Rattle.std.proofs.lemmas.List.{take_all, take_more, drop-take}
use lib.Ieee.{Float, nan}
use Rattle.lists.proofs.Bools.{and_assoc, and_left, and_right, and_true}
use Rattle.params.specs.Table.{good_sample, all_good}
use Rattle.picture.specs.Picture.{pixel, four_at}
use Rattle.picture.specs.Stack.{sample}
use Rattle.picture.specs.Place.{Inside, Within, Around}
use Rattle.picture.specs.declared.Shape.{Shape}
use Rattle.picture.specs.declared.Size.{Size}
use Rattle.samples.specs.Samples.{good_from}
use Rattle.picture.proofs.Index.{index, spot}

good_cons : (x : Float) (xs : List Float) → all_good (x ∷ xs) ≡ (good_sample x && all_good xs)
unfolding all_good
good_cons x xs = refl

pub good_append : (xs ys : List Float) → all_good (xs ++ ys) ≡ (all_good xs && all_good ys)
unfolding all_good
good_append [] ys = refl
good_append (x ∷ xs) ys =
    ap (λ (b : Bool). good_sample x && b) (good_append xs ys) ∙ sym (and_assoc (good_sample x) (all_good xs) (all_good ys))

-- the run that starts one later
pub good_next : (d : List Float) (i to : ℕ) → i < to → to ≤ length d → good_from i to d ≡ (good_sample (get_or d i nan) && good_from (i + 1) to d)
unfolding good_from
good_next d i to a b =
    let h : i < length (take to d) = rw (length-take-le to d b) a in
    rw (drop-cons (take to d) i nan h, add-one, get_or-take to d i nan a, good_cons)

pub good_none : (d : List Float) (to : ℕ) → good_from to to d ≡ true
unfolding good_from all_good
good_none d to =
    let h : length (take to d) ≤ to = rw length-take (omega arith) in
    rw (drop_of_length-le (take to d) h)

-- a run of one sample
pub good_one : (d : List Float) (i : ℕ) → i < length d → good_from i (i + 1) d ≡ good_sample (get_or d i nan)
good_one d i h = good_next d i (i + 1) (omega arith) (omega arith) ∙ rw (good_none d (i + 1), and_true)

-- a tested sample more, of a list from its start
pub good_more : (xs : List Float) (i : ℕ) (ok b : Bool) → i < length xs → ok ≡ all_good (take i xs) → b ≡ good_sample (get_or xs i nan) → (ok && b) ≡ all_good (take (i + 1) xs)
unfolding all_good
good_more xs i ok b h p q =
    rw (take_more xs i nan h, good_append (take i xs) (get_or xs i nan ∷ []), p, q, and_true) refl

-- all of the samples from `from` to below `to`
pub good_over : (d : List Float) (from to i : ℕ) {ok : Bool} → from ≤ to → length (take (to - from) (drop from d)) ≤ i → ok ≡ all_good (take i (take (to - from) (drop from d))) → ok ≡ good_from from to d
unfolding good_from
good_over d from to i a b k =
    let e : from + (to - from) ≡ to = omega arith in
    let f : drop from (take (from + (to - from)) d) ≡ take (to - from) (drop from d) = drop-take from (to - from) d in
    k ∙ ap all_good (take_all i (take (to - from) (drop from d)) b ∙ sym f ∙ ap (λ (n : ℕ). drop from (take n d)) e)

-- a tested run more
pub good_run : (d : List Float) (i to : ℕ) → i ≤ to → to ≤ length d → all_good (drop i d) ≡ (good_from i to d && all_good (drop to d))
unfolding good_from
good_run d i to a b =
    let h : i ≤ length (take to d) = rw (length-take-le to d b) a in
    let e : drop i d ≡ drop i (take to d) ++ drop to d = ap (λ (l : List Float). drop i l) (sym (take-append-drop to d)) ∙ drop-append-le i (take to d) (drop to d) h in
    ap all_good e ∙ good_append (drop i (take to d)) (drop to d)

pub good_end : (d : List Float) (i : ℕ) → length d ≤ i → all_good (drop i d) ≡ true
unfolding all_good
good_end d i h = rw (drop_of_length-le d h)

module _ (d : List Float) (i to : ℕ) (b : Bool) (order : i ≤ to) (inside : to ≤ length d) (is : b ≡ good_from i to d) where
  pub run_bad : b ≡ false → all_good d ≡ all_good (drop i d) → false ≡ all_good d
  run_bad e k = sym (k ∙ good_run d i to order inside ∙ rw (← is, e))

  pub run_good : b ≡ true → all_good d ≡ all_good (drop i d) → all_good d ≡ all_good (drop to d)
  run_good e k = k ∙ good_run d i to order inside ∙ rw (← is, e)

-- ---- one sample of all

good_each : (d : List Float) (i : ℕ) → all_good d ≡ true → i < length d → good_sample (get_or d i nan) ≡ true
unfolding all_good
good_each [] i e h = absurd (omega arith)
good_each (x ∷ xs) zero e h = and_left (good_sample x) (all_good xs) e
good_each (x ∷ xs) (suc i) e h = good_each xs i (and_right (good_sample x) (all_good xs) e) (omega arith)

-- a sample of a run whose samples are all good
pub good_in : (d : List Float) (from to i : ℕ) → good_from from to d ≡ true → to ≤ length d → from ≤ i → i < to → good_sample (get_or d i nan) ≡ true
unfolding good_from
good_in d from to i e h a b =
    let z : from + (i - from) ≡ i = omega arith in
    let l : i - from < length (drop from (take to d)) = rw (length-drop, length-take-le to d h) (omega arith) in
    let g : get_or (drop from (take to d)) (i - from) nan ≡ get_or d i nan = get_or-drop from (take to d) (i - from) nan ∙ ap (λ (k : ℕ). get_or (take to d) k nan) z ∙ get_or-take to d i nan b in
    rw (← g) (good_each (drop from (take to d)) (i - from) e l)

-- a place of a stack whose samples are all good
pub good_at : (d : List Float) (t : Shape) (p r c : ℕ) → all_good d ≡ true → Inside (length d) t p r c → good_sample (sample d t p r c) ≡ true
unfolding sample pixel
good_at d t p r c e i = good_each d ((p * t.height + r) * t.width + c) e (index i).below

-- four samples, tested one by one
pub four_good : (a b c d : Float) → (good_sample a && (good_sample b && (good_sample c && good_sample d))) ≡ all_good (a ∷ b ∷ c ∷ d ∷ [])
unfolding all_good
four_good a b c d = rw (and_true (good_sample d))

-- a cell of a picture whose samples are all good, and a cell's four neighbours
pub good_pixel : (img : List Float) (s : Size) (r c : ℕ) → all_good img ≡ true → Within (length img) s r c → good_sample (pixel img s.width r c) ≡ true
unfolding pixel
good_pixel img s r c e i = good_each img (r * s.width + c) e (spot i).below

row_end : (r h w : ℕ) → r < h → r * w + w ≤ h * w
row_end r h w l = omega (arith, mul-le-mul_right w l, suc-mul r w)

-- a cell of a row that is good from column `from` to below column `to`
pub good_cell : (img : List Float) (s : Size) (from to r c : ℕ) → length img ≡ s.height * s.width → to ≤ s.width → r < s.height → good_from (r * s.width + from) (r * s.width + to) img ≡ true → from ≤ c → c < to → good_sample (pixel img s.width r c) ≡ true
unfolding pixel
good_cell img s from to r c l w h e a b =
    let m : r * s.width + to ≤ length img = omega (arith, row_end r s.height s.width h, l) in
    good_in img (r * s.width + from) (r * s.width + to) (r * s.width + c) e m (omega arith) (omega arith)

pub good_four : (img : List Float) (s : Size) (r c : ℕ) → all_good img ≡ true → Around (length img) s r c → all_good (four_at img s.width r c) ≡ true
unfolding four_at
good_four img s r c e a =
    sym (four_good _ _ _ _)
    ∙ rw (good_pixel img s r (c + 1) e (record { whole = a.whole; row = omega arith; column = a.right }), good_pixel img s r (c - 1) e (record { whole = a.whole; row = omega arith; column = omega arith }), good_pixel img s (r - 1) c e (record { whole = a.whole; row = omega arith; column = omega arith }), good_pixel img s (r + 1) c e (record { whole = a.whole; row = a.down; column = omega arith }))

-- the same of a cell whose own row, the row above and the row below are good from column `from` to below column `to`
pub good_cross : (img : List Float) (s : Size) (from to r c : ℕ) → Around (length img) s r c → to ≤ s.width → from < c → c + 1 < to
    → good_from ((r - 1) * s.width + from) ((r - 1) * s.width + to) img ≡ true → good_from (r * s.width + from) (r * s.width + to) img ≡ true → good_from ((r + 1) * s.width + from) ((r + 1) * s.width + to) img ≡ true
    → all_good (four_at img s.width r c) ≡ true
unfolding four_at
good_cross img s from to r c a w l h up own down =
    sym (four_good _ _ _ _)
    ∙ rw (good_cell img s from to r (c + 1) a.whole w (omega arith) own (omega arith) h, good_cell img s from to r (c - 1) a.whole w (omega arith) own (omega arith) (omega arith), good_cell img s from to (r - 1) c a.whole w (omega arith) up (omega arith) (omega arith), good_cell img s from to (r + 1) c a.whole w a.down down (omega arith) (omega arith))
