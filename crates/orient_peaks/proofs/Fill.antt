-- Filling an array from the front with the parts of a range. Assumes nothing.
use Prim.Native.Nat.{ℕ, ◌+◌, ◌<◌, ◌≤◌}
use mathlib.Core.Path.{◌≡◌, refl, sym, ap, ◌∙◌}
use mathlib.Core.Bool.{Bool, true, false, cond}
use mathlib.Core.List.{List, [], ◌∷◌, ◌++◌, append-nil}
use native.Mathlib.Omega.{arith}
use lib.ListN.{length, take, drop, set, replicate, length-append}
use lib.Seq.{take_at}
use lib.Ieee.{Float}
use Rattle.ieee.specs.Numbers.{nought}
use Rattle.lists.specs.Ranges.{joined}
use Rattle.lists.specs.Pasted.{pasted}
use Rattle.lists.proofs.Ranges.{joined_start, joined_more}
use Rattle.lists.proofs.Pasted.{pasted_none, pasted_append, pasted_one, length_pasted}
use Rattle.orient_tally.specs.Sample.{bins}
use Rattle.orient_peaks.specs.Peaks.{least_of, is_peak, peak_angle, peak_of, angles_in}
use Rattle.orient_peaks.specs.Found.{held_of, Holds}

-- one more value behind those written
pub pasted_more : {A : Type 0} (l d : List A) (v : A) → length l < length d → set (pasted 0 l d) (length l) v ≡ pasted 0 (l ++ (v ∷ [])) d
pasted_more l d v h =
    let z : 0 + length l ≡ length l = omega arith in
    let r : 0 + length (l ++ (v ∷ [])) ≤ length d = rw length-append (omega arith) in
    let k : length (pasted 0 l d) ≡ length d = length_pasted 0 l d (omega arith) in
    sym (pasted_append 0 l (v ∷ []) d r ∙ rw (z, pasted_one (length l) v (pasted 0 l d) (omega arith)))

-- what was written stands in front
pub pasted_front : {A : Type 0} (l d : List A) → take (length l) (pasted 0 l d) ≡ l
unfolding pasted
pasted_front l d = take_at l (drop (0 + length l) d) (length l) refl

pub record Filled {A : Type 0} (f : ℕ → List A) (n : ℕ) (d now : List A) (count : ℕ) : Type 0 where
  pub short : ((i : ℕ) → length (f i) ≤ 1)
  pub values : now ≡ pasted 0 (joined 0 n f) d
  pub many : count ≡ length (joined 0 n f)
  pub few : count ≤ n

module _ {A : Type 0} (f : ℕ → List A) where
  pub filled_none : (d : List A) → ((i : ℕ) → length (f i) ≤ 1) → Filled f 0 d d 0
  filled_none d s = record { short = s; values = sym (rw (joined_start 0 f, pasted_none)); many = sym (rw (joined_start 0 f)); few = omega arith }

  -- the next part is empty
  pub filled_pass : {n count : ℕ} {d now : List A} → Filled f n d now count → f n ≡ [] → Filled f (n + 1) d now count
  filled_pass {n} {count} {d} {now} r e =
      let z : joined 0 (n + 1) f ≡ joined 0 n f = joined_more 0 n f (omega arith) ∙ rw (e, append-nil) in
      record { short = r.short; values = rw z r.values; many = rw z r.many; few = omega arith }

  -- the next part is one value
  pub filled_more : {n count : ℕ} {d now : List A} (v : A) → Filled f n d now count → f n ≡ v ∷ [] → n < length d → Filled f (n + 1) d (set now count v) (count + 1)
  filled_more {n} {count} {d} {now} v r e h =
      let z : joined 0 (n + 1) f ≡ joined 0 n f ++ (v ∷ []) = joined_more 0 n f (omega arith) ∙ rw e in
      let l : length (joined 0 n f) < length d = omega arith in
      record {
        short = r.short;
        values = rw (z, r.values, r.many) (pasted_more (joined 0 n f) d v l);
        many = rw (z, length-append) (omega arith);
        few = omega arith;
      }

-- a bin gives at most one angle
pub peak_short : (h : List Float) (least : Float) (j : ℕ) → length (peak_of h least j) ≤ 1
unfolding peak_of
peak_short h least j = go (is_peak h least j)
  where
    go : (b : Bool) → length (cond b (peak_angle h j ∷ []) []) ≤ 1
    go true = omega arith
    go false = omega arith

pub peak_yes : (h : List Float) (least : Float) (j : ℕ) (b : Bool) (v : Float) → b ≡ is_peak h least j → b ≡ true → v ≡ peak_angle h j → peak_of h least j ≡ v ∷ []
unfolding peak_of
peak_yes h least j b v e t p = let z : is_peak h least j ≡ true = sym e ∙ t in rw (z, p)

pub peak_none : (h : List Float) (least : Float) (j : ℕ) (b : Bool) → b ≡ is_peak h least j → b ≡ false → peak_of h least j ≡ []
unfolding peak_of
peak_none h least j b e t = let z : is_peak h least j ≡ false = sym e ∙ t in rw z

pub peaks_held : (h : List Float) (least : Float) {n count : ℕ} {d all : List Float} → least ≡ least_of h → d ≡ replicate bins nought → Filled (peak_of h least) n d all count → n ≡ bins → record { all = all; count = count } ≡ held_of (angles_in h)
unfolding angles_in held_of
peaks_held h least {n} {count} {d} {all} p z r e =
    let l : joined 0 n (peak_of h least) ≡ joined 0 bins (peak_of h (least_of h)) = rw (e, p) in
    let a : all ≡ pasted 0 (joined 0 bins (peak_of h (least_of h))) (replicate bins nought) = r.values ∙ rw (l, z) in
    let c : count ≡ length (joined 0 bins (peak_of h (least_of h))) = r.many ∙ ap length l in
    (λ i. record { all = a i; count = c i })

-- a list that fits is read back
pub held_holds : (list : List Float) → length list ≤ bins → Holds (held_of list) list
unfolding held_of
held_holds list h = record { count = refl; few = h; first = pasted_front list (replicate bins nought) }
