-- The laws of the peaks that specs/Rules.antt states. Assumes nothing.
use Prim.Native.Nat.{ℕ, zero, suc, ◌+◌, ◌-◌, ◌*◌, ◌%◌, ◌≤◌}
use mathlib.Core.Path.{◌≡◌, refl, ap, subst}
use mathlib.Core.Bool.{Bool, true, false, cond}
use mathlib.Core.List.{List, [], ◌∷◌}
use native.Mathlib.Omega.{arith}
use lib.ListN.{length, get_or, length-append}
use lib.Ieee.{Float, nan, lt}
use Rattle.lists.proofs.Bools.{and_left, and_right}
use Rattle.lists.specs.Ranges.{joined}
use Rattle.lists.proofs.Ranges.{joined_start, joined_more}
use Rattle.ieee_laws.proofs.Order.{lt_le, lt_not_le}
use Rattle.orient_tally.specs.Sample.{bins}
use Rattle.orient_peaks.specs.Peaks.{around, least_of, is_peak, peak_angle, peak_of, angles_in, angles_of, smoothed}
use Rattle.orient_peaks.specs.Rules.{max_peaks, PeakRule}
use Rattle.orient_peaks.proofs.Fill.{held_holds}

-- ---- two neighbours are not both peaks
same_place : (h : List Float) (j : ℕ) → around h (j + 1 + bins - 1) ≡ around h j
unfolding around
same_place h j = let z : (j + 1 + bins - 1) % bins ≡ j % bins = omega arith in ap (λ (k : ℕ). get_or h k nan) z

not_both : (h : List Float) (least : Float) (j : ℕ) → is_peak h least j ≡ true → is_peak h least (j + 1) ≡ true → ⊥
unfolding is_peak
not_both h least j p q =
    let a : lt (around h (j + 1)) (around h j) ≡ true = and_left (lt (around h (j + 1)) (around h j)) _ (and_right (lt (around h (j + bins - 1)) (around h j)) _ p) in
    let b : lt (around h (j + 1 + bins - 1)) (around h (j + 1)) ≡ true = and_left (lt (around h (j + 1 + bins - 1)) (around h (j + 1))) _ q in
    let c : lt (around h j) (around h (j + 1)) ≡ true = subst (λ (x : Float). lt x (around h (j + 1)) ≡ true) (same_place h j) b in
    lt_not_le (around h (j + 1)) (around h j) a (lt_le (around h j) (around h (j + 1)) c)

pair_short : (h : List Float) (least : Float) (j : ℕ) → length (peak_of h least j) + length (peak_of h least (j + 1)) ≤ 1
unfolding peak_of
pair_short h least j = go (is_peak h least j) (is_peak h least (j + 1)) refl refl
  where
    go : (a b : Bool) → is_peak h least j ≡ a → is_peak h least (j + 1) ≡ b → length (cond a (peak_angle h j ∷ []) []) + length (cond b (peak_angle h (j + 1) ∷ []) []) ≤ 1
    go true true p q = absurd (not_both h least j p q)
    go true false p q = omega arith
    go false true p q = omega arith
    go false false p q = omega arith

-- parts that are together at most one long, two by two
pairs : (f : ℕ → List Float) → ((j : ℕ) → length (f j) + length (f (j + 1)) ≤ 1) → (n : ℕ) → length (joined 0 (n * 2) f) ≤ n
pairs f s zero = rw (joined_start 0 f) (omega arith)
pairs f s (suc n) =
    let z : suc n * 2 ≡ n * 2 + 1 + 1 = omega arith in
    rw (z, joined_more 0 (n * 2 + 1) f (omega arith), joined_more 0 (n * 2) f (omega arith), length-append, length-append) (omega (arith, s (n * 2), pairs f s n))

few : (b : List Float) → length (angles_of b) ≤ max_peaks
unfolding angles_of angles_in
few b = pairs (peak_of (smoothed b) (least_of (smoothed b))) (pair_short (smoothed b) (least_of (smoothed b))) max_peaks

pub peak_rule : PeakRule
peak_rule = record { few = few; held = λ b. held_holds (angles_of b) (omega (arith, few b)) }
