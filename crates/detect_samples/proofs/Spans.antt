-- The cells of a row in every plane: where they lie, one plane more, one column more, and how two spans join. Assumes nothing.
use Prim.Native.Nat.{ℕ, zero, suc, ◌+◌, ◌*◌, ◌<◌, ◌≤◌}
use mathlib.Core.Path.{◌≡◌, refl, sym, ap, ◌∙◌}
use mathlib.Core.Bool.{Bool, true, false, ◌&&◌}
use mathlib.Core.Logic.{⊎_elim}
use mathlib.Core.List.{List}
use native.Mathlib.Nat.{mul-le-mul_right, suc-mul, add-mul, mul_assoc}
use native.Mathlib.Omega.{arith}
use lib.ListN.{length, get_or, take, length-take}
use lib.Seq.{take_all, take-take}
use lib.Ieee.{Float, nan}
use Rattle.lists.specs.Ranges.{every}
use Rattle.lists.proofs.Bools.{and_true, and_false}
use Rattle.lists.proofs.Every.{every_step, all_every}
use Rattle.lists.proofs.Naturals.{le_or_lt, packed}
use Rattle.params.specs.Table.{good_sample}
use Rattle.samples.specs.Samples.{good_from}
use Rattle.detect_samples.specs.Rows.{span_good}
use Rattle.picture.specs.declared.Shape.{Shape}
use Rattle.samples.proofs.Runs.{good_none, good_one, good_run, good_end}

-- ---- where a row lies

-- row r of plane p, of n planes of h rows of w samples: no step of working out where it starts passes the list's length
pub record Line (n h w p r : ℕ) : Type 0 where
  pub plane : h * w ≤ n * h * w
  pub planes : p * (h * w) ≤ n * h * w
  pub row : r * w ≤ n * h * w
  pub is : p * (h * w) + r * w ≡ (p * h + r) * w
  pub end : (p * h + r) * w + w ≤ n * h * w

pub line : (n h w p r : ℕ) → p < n → r < h → Line n h w p r
line n h w p r a b =
    let e : p * (h * w) + r * w ≡ (p * h + r) * w = simp (add-mul, mul_assoc) in
    let g : (p * h + r) * w + w ≤ n * h * w = omega (arith, mul-le-mul_right w (packed {q = p} {m = n} {c = r} {w = h} a b), suc-mul (p * h + r) w) in
    let q : h * w ≤ n * h * w = rw mul_assoc (omega (arith, mul-le-mul_right (h * w) a, suc-mul p (h * w))) in
    record { plane = q; planes = omega arith; row = omega arith; is = e; end = g }

-- ---- two runs of samples, one behind the other

goods_join : (d : List Float) (a b c : ℕ) → a ≤ b → b ≤ c → (good_from a b d && good_from b c d) ≡ good_from a c d
unfolding good_from
goods_join d a b c p q =
    ⊎_elim
    (λ h. sym (good_run (take c d) a b p h ∙ rw (take-take b c d q)))
    (λ h. let e : length d ≤ b = omega (arith, length-take c d) in
    rw (take_all b d e, take_all c d (omega arith), good_end d b e, and_true))
    (le_or_lt b (length (take c d)))

-- ---- in every plane

pairs : (a b c e : Bool) → ((a && b) && (c && e)) ≡ ((a && c) && (b && e))
pairs true true c e = refl
pairs true false c e = sym (and_false c)
pairs false b c e = refl

every_both : (n : ℕ) (f g h : ℕ → Bool) → ((i : ℕ) → (f i && g i) ≡ h i) → (every n f && every n g) ≡ every n h
unfolding every
every_both zero f g h e = refl
every_both (suc n) f g h e = pairs (every n f) (f n) (every n g) (g n) ∙ rw (every_both n f g h e, e n)

-- the cells of plane p
abbrev pub span_in : Shape → ℕ → ℕ → ℕ → List Float → ℕ → Bool
span_in t r lo hi d p = good_from ((p * t.height + r) * t.width + lo) ((p * t.height + r) * t.width + hi) d

-- one plane more
pub span_more : (t : Shape) (r lo hi : ℕ) (d : List Float) (p from : ℕ) (ok b : Bool) → from ≡ (p * t.height + r) * t.width → ok ≡ every p (span_in t r lo hi d)
    → b ≡ good_from (from + lo) (from + hi) d → (ok && b) ≡ every (p + 1) (span_in t r lo hi d)
span_more t r lo hi d p from ok b e o q = rw (o, q, e) (every_step p (span_in t r lo hi d))

-- one plane more of one column
pub column_more : (t : Shape) (r c : ℕ) (d : List Float) (p from : ℕ) (ok b : Bool) → from ≡ (p * t.height + r) * t.width → from + c < length d → ok ≡ every p (span_in t r c (c + 1) d)
    → b ≡ good_sample (get_or d (from + c) nan) → (ok && b) ≡ every (p + 1) (span_in t r c (c + 1) d)
column_more t r c d p from ok b e h o q =
    let z : from + c + 1 ≡ from + (c + 1) = omega arith in
    span_more t r c (c + 1) d p from ok b e o (q ∙ sym (good_one d (from + c) h) ∙ ap (λ (k : ℕ). good_from (from + c) k d) z)

-- no column
pub span_none : (t : Shape) (r c : ℕ) (d : List Float) → span_good t r c c d ≡ true
unfolding span_good
span_none t r c d = all_every t.planes _ (λ p h. good_none d _)

-- columns a to below b, and b to below c
pub span_join : (t : Shape) (r a b c : ℕ) (d : List Float) → a ≤ b → b ≤ c → (span_good t r a b d && span_good t r b c d) ≡ span_good t r a c d
unfolding span_good
span_join t r a b c d p q =
    every_both t.planes (span_in t r a b d) (span_in t r b c d) (span_in t r a c d) (λ i. goods_join d _ _ _ (omega arith) (omega arith))
