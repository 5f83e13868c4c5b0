-- How full a bin can be, whatever the number of samples: in 0 to 2 ^ 46 where a sample adds at most 2 ^ 22, since 2 ^ 46 + 2 ^ 22 is rounded back to 2 ^ 46; and 0 where none adds anything. So it is of the smoothed bins. Assumes nothing.
use Prim.Native.Nat.{ℕ, zero, suc, ◌+◌, ◌-◌, ◌*◌, ◌%◌, ◌<◌, ◌≤◌}
use mathlib.Core.Path.{◌≡◌, refl, ap, ◌∙◌, subst}
use mathlib.Core.Bool.{Bool, true, false, cond}
use mathlib.Core.List.{List, [], ◌∷◌}
use native.Mathlib.Nat.{mod-lt, zero-add}
use native.Mathlib.Omega.{arith}
use borrow.Author.Tests.{eqb-true, eqb-false}
use lib.Dec.{T, eqb}
use lib.ListN.{length, get_or, set, length-set, length-replicate, get_or-replicate}
use lib.Seq.{get_or-set_same, get_or-set_other}
use lib.IntN.{pos}
use lib.Ieee.{Float, nan, fin, binary32, add, mul, le, of_bits, fits}
use lib.Ieee.Scale.{finite}
use Rattle.ieee.specs.Fused.{fma}
use Rattle.ieee.specs.F32.{◌⊕◌, ◌⊗◌, fused}
use Rattle.ieee_laws.proofs.Monotone.{nil}
use Rattle.ieee_laws.proofs.Bounds.{Bounds, bounds_wider, bounds_point, add_bounds, mul_bounds, fma_bounds}
use Rattle.ieee.proofs.Held.{fma_fits}
use Rattle.lists.specs.Ranges.{joined}
use Rattle.ieee.specs.Numbers.{one, nought}
use Rattle.orient_tally.specs.Tally.{sample_of, share_of, added, tallied, empty, tally_of}
use Rattle.orient_window.specs.Place.{cell_at}
use Rattle.orient_window.specs.declared.Window.{Window}
use Rattle.orient_tally.specs.declared.Sample.{Sample}
use Rattle.orient_tally.specs.declared.Tally.{Tally}
use Rattle.orient_window.proofs.Cells.{part_at}
use Rattle.orient_tally.proofs.After.{after, after_none, after_more, after_all}
use Rattle.orient_tally.specs.Sample.{bins}
use Rattle.orient_peaks.specs.Peaks.{around, outer, inner, middle, smooth_at, smoothed}

-- A bin that holds at most `brim` still does after a sample of a magnitude up to `heap`, and after smoothing: what is worked out at the ends.
pub record Ceiling (heap brim : Float) : Type 0 where
  pub top : finite brim ≡ true
  pub some : le nil brim ≡ true
  pub late : (finite (fused one heap brim) ≡ true) × (le (fused one heap brim) brim ≡ true)
  pub share : finite (one ⊗ heap) ≡ true
  pub early : (finite (brim ⊕ one ⊗ heap) ≡ true) × (le (brim ⊕ one ⊗ heap) brim ≡ true)
  pub pair : finite (brim ⊕ brim) ≡ true
  pub own : finite (brim ⊗ middle) ≡ true
  pub near : finite (fused (brim ⊕ brim) inner (brim ⊗ middle)) ≡ true
  pub far : (finite (fused (brim ⊕ brim) outer (fused (brim ⊕ brim) inner (brim ⊗ middle))) ≡ true) × (le (fused (brim ⊕ brim) outer (fused (brim ⊕ brim) inner (brim ⊗ middle))) brim ≡ true)

abbrev pub heap : Float
heap = fin false 1 (pos 22)

abbrev pub brim : Float
brim = fin false 1 (pos 46)

pub full : Ceiling heap brim
unfolding of_bits add mul fma le
full = record { top = refl; some = refl; late = (refl, refl); share = refl; early = (refl, refl); pair = refl; own = refl; near = refl; far = (refl, refl) }

pub bare : Ceiling nil nil
unfolding of_bits add mul fma le
bare = record { top = refl; some = refl; late = (refl, refl); share = refl; early = (refl, refl); pair = refl; own = refl; near = refl; far = (refl, refl) }

pub record Weighed (heap : Float) (s : Sample) : Type 0 where
  pub weight : Bounds nil one s.weight
  pub magnitude : Bounds nil heap s.magnitude

-- 36 bins, each from 0 to the brim
pub record Filled (brim : Float) (b : List Float) : Type 0 where
  pub size : length b ≡ bins
  pub each : (i : ℕ) → i < bins → Bounds nil brim (get_or b i nan)

sixteenths : (finite outer ≡ true) × ((le nil outer ≡ true) × ((finite inner ≡ true) × ((le nil inner ≡ true) × ((finite middle ≡ true) × (le nil middle ≡ true)))))
unfolding of_bits le
sixteenths = (refl, (refl, (refl, (refl, (refl, refl)))))

smoothed_at : (b : List Float) (k : ℕ) → around (smoothed b) k ≡ smooth_at b (k % bins)
unfolding smoothed around
smoothed_at b k =
    let e : k % bins ≡ k % bins * 1 + 0 = omega arith in
    ap (λ (i : ℕ). get_or (joined 0 bins (λ i. smooth_at b i ∷ [])) i nan) e ∙ part_at 0 1 (λ i. smooth_at b i ∷ []) (λ i. refl) bins nan (k % bins) 0 (mod-lt k (omega arith)) (omega arith) ∙ ap (smooth_at b) (zero-add (k % bins))

module _ (heap brim : Float) (c : Ceiling heap brim) where
  -- ---- one sample more
  late_in : (old : Float) (s : Sample) → Bounds nil brim old → Weighed heap s → Bounds nil brim (fused s.weight s.magnitude old)
  unfolding fma le
  late_in old s u w = bounds_wider nil brim refl c.top refl c.late.1 (fma_bounds binary32 refl refl refl c.late.0 w.weight w.magnitude u)

  early_in : (old : Float) (s : Sample) → Bounds nil brim old → Weighed heap s → Bounds nil brim (old ⊕ s.weight ⊗ s.magnitude)
  unfolding add mul le
  early_in old s u w = bounds_wider nil brim refl c.top refl c.early.1 (add_bounds binary32 refl c.early.0 u (mul_bounds binary32 refl refl refl c.share w.weight w.magnitude))

  share_in : (old : Float) (s : Sample) → Bounds nil brim old → Weighed heap s → Bounds nil brim (share_of old s)
  unfolding share_of
  share_in old s u w = go s.late
    where
      go : (b : Bool) → Bounds nil brim (cond b (fused s.weight s.magnitude old) (old ⊕ s.weight ⊗ s.magnitude))
      go true = late_in old s u w
      go false = early_in old s u w

  empty_filled : Filled brim empty.bins
  unfolding empty of_bits le
  empty_filled = record { size = length-replicate bins nought; each = λ i h. rw (get_or-replicate bins i nought nan h) (bounds_wider nil brim refl c.top refl c.some (bounds_point nil refl)) }

  added_filled : (b : List Float) (s : Sample) → Filled brim b → Weighed heap s → Filled brim (added b s)
  unfolding added share_of
  added_filled b s f w = record { size = length-set b s.bin _ ∙ f.size; each = each }
    where
      each : (i : ℕ) → i < bins → Bounds nil brim (get_or (set b s.bin (share_of (get_or b s.bin nan) s)) i nan)
      each i h = go (eqb i s.bin) refl
        where
          go : (p : Bool) → eqb i s.bin ≡ p → Bounds nil brim (get_or (set b s.bin (share_of (get_or b s.bin nan) s)) i nan)
          go true e =
              let z = eqb-true i s.bin e in
              rw (← z, get_or-set_same b i (share_of (get_or b i nan) s) nan (omega (arith, f.size))) (share_in (get_or b i nan) s (f.each i h) w)
          go false e = rw (get_or-set_other b s.bin i (share_of (get_or b s.bin nan) s) nan (eqb-false i s.bin e)) (f.each i h)

  tallied_filled : (t : Tally) (s : Sample) → Filled brim t.bins → Weighed heap s → Filled brim (tallied t s).bins
  unfolding tallied
  tallied_filled t s f w = added_filled t.bins s f w

  -- ---- the samples of a window
  module _ (img : List Float) (win : Window) (weighed : (k : ℕ) → k < win.rows * win.cols → Weighed heap (sample_of img win (win.rows * win.cols) k (cell_at win k))) where
    after_filled : (k : ℕ) → k ≤ win.rows * win.cols → Filled brim (after img win k).bins
    after_filled zero h = subst (λ (t : Tally). Filled brim t.bins) (after_none img win) empty_filled
    after_filled (suc k) h =
        let n = win.rows * win.cols in
        let s = sample_of img win n k (cell_at win k) in
        let z : k + 1 ≡ suc k = omega arith in
        let m : tallied (after img win k) s ≡ after img win (suc k) = after_more img win n k s (tallied (after img win k) s) refl (omega arith) refl refl ∙ ap (after img win) z in
        subst (λ (t : Tally). Filled brim t.bins) m (tallied_filled (after img win k) s (after_filled k (omega arith)) (weighed k (omega arith)))

    pub tally_filled : Filled brim (tally_of img win).bins
    tally_filled = subst (λ (t : Tally). Filled brim t.bins) (after_all img win (win.rows * win.cols) refl) (after_filled (win.rows * win.cols) (omega arith))

  -- ---- smoothing
  around_in : (b : List Float) → Filled brim b → (k : ℕ) → Bounds nil brim (around b k)
  unfolding around
  around_in b f k = f.each (k % bins) (mod-lt k (omega arith))

  smooth_in : (v w x y z : Float) → Bounds nil brim v → Bounds nil brim w → Bounds nil brim x → Bounds nil brim y → Bounds nil brim z
      → Bounds nil brim (fused (v ⊕ w) outer (fused (x ⊕ y) inner (z ⊗ middle)))
  unfolding of_bits add mul fma le
  smooth_in v w x y z a b p d e =
      let k = sixteenths in
      let far : Bounds nil (brim ⊕ brim) (v ⊕ w) = bounds_wider nil (brim ⊕ brim) refl c.pair refl (bounds_point (brim ⊕ brim) c.pair).low (add_bounds binary32 refl c.pair a b) in
      let near : Bounds nil (brim ⊕ brim) (x ⊕ y) = bounds_wider nil (brim ⊕ brim) refl c.pair refl (bounds_point (brim ⊕ brim) c.pair).low (add_bounds binary32 refl c.pair p d) in
      let own = mul_bounds binary32 refl k.1.1.1.1.1 refl c.own e (bounds_point middle k.1.1.1.1.0) in
      let part = fma_bounds binary32 refl k.1.1.1.0 refl c.near near (bounds_point inner k.1.1.0) own in
      bounds_wider nil brim refl c.top refl c.far.1 (fma_bounds binary32 refl k.1.0 refl c.far.0 far (bounds_point outer k.0) part)

  smooth_at_in : (b : List Float) → Filled brim b → (i : ℕ) → Bounds nil brim (smooth_at b i)
  unfolding smooth_at
  smooth_at_in b f i =
      smooth_in (around b (i + bins - 2)) (around b (i + 2)) (around b (i + bins - 1)) (around b (i + 1)) (around b i)
      (around_in b f (i + bins - 2)) (around_in b f (i + 2)) (around_in b f (i + bins - 1)) (around_in b f (i + 1)) (around_in b f i)

  pub smoothed_in : (b : List Float) → Filled brim b → (k : ℕ) → Bounds nil brim (around (smoothed b) k)
  smoothed_in b f k = rw (smoothed_at b k) (smooth_at_in b f (k % bins))

pub smoothed_fits : (b : List Float) (k : ℕ) → T (fits binary32 (around (smoothed b) k))
unfolding smooth_at
smoothed_fits b k = rw (smoothed_at b k) (fma_fits binary32 _ _ _)
