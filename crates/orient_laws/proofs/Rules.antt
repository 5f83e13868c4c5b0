-- The law of orientation's angles that specs/Rules.antt states. Assumes nothing.
use Prim.Native.Nat.{ℕ, ◌+◌, ◌-◌, ◌*◌, ◌/◌, ◌%◌, ◌^◌, ◌<◌, ◌≤◌}
use mathlib.Core.Path.{◌≡◌, refl, sym, ap, subst}
use mathlib.Core.Bool.{Bool, true, false, not, ◌&&◌}
use mathlib.Core.List.{List, [], ◌∷◌, map}
use native.Mathlib.Omega.{arith}
use borrow.Author.Tests.{eqb-true, not-false}
use lib.Dec.{T, lit≤}
use lib.ListN.{length, get_or, get_or-map}
use lib.IntN.{pos}
use lib.Ieee.{Float, nan, inf, fin, binary32, lt, eq, of_bits}
use lib.Ieee.Bits.{is_true}
use lib.Ieee.Scale.{finite}
use Rattle.lists.proofs.Bools.{and_both, is_T}
use Rattle.ieee.specs.F32.{◌⊖◌, ◌<ᶠ◌, ◌≤ᶠ◌, abs_of}
use Rattle.ieee.specs.Numbers.{nought, one}
use Rattle.ieee_laws.proofs.Monotone.{nil}
use Rattle.ieee_laws.proofs.Order.{le_lt_trans, le_trans_float, lt_not_le, Marked, endless, ended}
use Rattle.ieee_laws.proofs.Bounds.{Bounds, bounds_finite, bounds_point, marked_nonneg, zero_is}
use Rattle.ieee_laws.proofs.Level.{eq_both, sub_finite, sub_level}
use Rattle.lists.proofs.Ranges.{joined_empty}
use Rattle.params.specs.Table.{first_fault, line, shape_wrong, length_wrong}
use Rattle.detect_keypoint.specs.declared.RawKeypoint.{RawKeypoint}
use Rattle.hal_reach.specs.Reach.{in_reach, in_angle}
use Rattle.hal.specs.Rules.{In}
use Rattle.hal_reach.proofs.Reach.{reach_nan, reach_inf}
use Rattle.hal.proofs.Rules.{exp_rule}
use Rattle.hal_magnitude.proofs.Rules.{magnitude_rule}
use Rattle.lists.specs.Each.{Each}
use Rattle.lists.proofs.Each.{each_one, each_at, each_when, each_joined}
use Rattle.picture.specs.Picture.{pixel, slope_at}
use Rattle.picture.specs.Place.{Around}
use Rattle.picture.specs.declared.Size.{Size}
use Rattle.picture.proofs.Index.{spot}
use Rattle.orient_window.specs.Window.{window_of}
use Rattle.orient_window.specs.Good.{window_good}
use Rattle.orient_tally.specs.Sample.{bins, weight_at}
use Rattle.orient_tally.specs.Tally.{sample_of, tally_of}
use Rattle.orient_window.specs.Place.{Fits, cell_at}
use Rattle.orient_window.specs.declared.Window.{Window}
use Rattle.orient_window.proofs.Cells.{cell_around, at_cell}
use Rattle.orient_window.proofs.Cells as cells
use Rattle.orient_tally.proofs.Rules.{tally_rule}
use Rattle.orient_peaks.specs.Peaks.{around, is_peak, least_of, peak_angle, peak_of, angles_in, angles_of, smoothed, wrapped, crest_of}
use Rattle.orient_words.specs.Oriented.{oriented_of}
use Rattle.orient_words.specs.declared.OrientedKeypoint.{OrientedKeypoint}
use Rattle.std.proofs.lemmas.List.{length-map}
use Rattle.orient.specs.Keypoint.{keypoint_wrong, scale_of}
use Rattle.orient.specs.Accepted.{Aimed}
use Rattle.orient.specs.Entry.{window_at, orient_fault, angles_at, oriented_list}
use Rattle.orient.proofs.Checks.{aimed, aimed_fits}
use Rattle.orient_laws.specs.Rules.{Turn, Still, AnglesRule}
use Rattle.orient_laws.proofs.Units.{At, Units, units_of, value_at, at_less}
use Rattle.orient_laws.proofs.Offset.{offset_in}
use Rattle.orient_laws.proofs.Wrap.{Angle, crest_in, wrapped_in, degrees_in}
use Rattle.orient_laws.proofs.Pattern.{angle_finite, pattern}
use Rattle.orient_laws.proofs.Bins.{heap, brim, full, bare, Weighed, Filled, tally_filled, smoothed_in, smoothed_fits}

-- ---- a peak's angle
abbrev over : Float
over = fin false 1 (pos 47)

over_at : At over (2 ^ 196)
over_at = value_at over (2 ^ 196) (refl, refl)

eight : (m o c : ℕ) → m < o → 8 * o ≤ c → 8 * m < c
eight m o c a b = omega arith

module _ (b : List Float) (f : Filled brim b) where
  abbrev h : List Float
  h = smoothed b

  units : (k : ℕ) → Units (around h k)
  units k = units_of (around h k) (smoothed_fits b k) (bounds_finite (smoothed_in heap brim full b f k)) (smoothed_in heap brim full b f k).low

  few : (k : ℕ) → 8 * ((units k).digits * 2 ^ (units k).place) < 2 ^ 276
  unfolding lt
  few k = eight ((units k).digits * 2 ^ (units k).place) (2 ^ 196) (2 ^ 276) (at_less (around h k) over _ (2 ^ 196) (units k).at over_at (le_lt_trans (around h k) brim over (smoothed_in heap brim full b f k).high refl)) (lit≤ tt)

  peak_angle_lem : (least : Float) (j : ℕ) → j < bins → is_peak h least j ≡ true → Angle (peak_angle h j)
  unfolding peak_angle is_peak
  peak_angle_lem least j l p =
      let x = around h (j + bins - 1) in
      let y = around h j in
      let z = around h (j + 1) in
      let a = and_both (lt x y) _ p in
      let c = and_both (lt z y) _ a.1 in
      let o = offset_in x y z (units (j + bins - 1)) (units j) (units (j + 1)) a.0 c.0 (2 ^ 276) refl (few j) in
      degrees_in (wrapped (crest_of j x y z)) (wrapped_in (crest_of j x y z) (crest_in j x y z l o))

-- ---- all of them
each_peak : (b : List Float) → Filled brim b → (j : ℕ) → j < bins → Each Angle (peak_of (smoothed b) (least_of (smoothed b)) j)
unfolding peak_of
each_peak b f j l =
    each_when (is_peak (smoothed b) (least_of (smoothed b)) j) (peak_angle (smoothed b) j ∷ [])
    (λ e. each_one (peak_angle_lem b f (least_of (smoothed b)) j l e))

each_angle : (b : List Float) → Filled brim b → Each Angle (angles_of b)
unfolding angles_of angles_in
each_angle b f = each_joined 0 bins (peak_of (smoothed b) (least_of (smoothed b))) (λ j a l. each_peak b f j l)

-- ---- no bin holds anything: no peak
module _ (b : List Float) (f : Filled nil b) where
  level_bins : (least : Float) (j : ℕ) → is_peak (smoothed b) least j ≡ false
  unfolding is_peak
  level_bins least j = go (lt l m) refl
    where
      l : Float
      l = around (smoothed b) (j + bins - 1)

      m : Float
      m = around (smoothed b) j

      go : (p : Bool) → lt l m ≡ p → (p && ((around (smoothed b) (j + 1) <ᶠ m) && (least ≤ᶠ m))) ≡ false
      go false e = refl
      go true e = absurd (lt_not_le l m e (le_trans_float m nil l (smoothed_in nil nil bare b f j).high (smoothed_in nil nil bare b f (j + bins - 1)).low))

  no_angle : angles_of b ≡ []
  unfolding angles_of angles_in peak_of
  no_angle = joined_empty 0 bins _ (λ j. rw (level_bins (least_of (smoothed b)) j))

reach_finite : (x : Float) → in_reach (abs_of x) ≡ true → finite x ≡ true
reach_finite nan h = absurd (reach_nan (is_T _ h))
reach_finite (inf s) h = absurd (reach_inf s (is_T _ h))
reach_finite (fin s m e) h = refl

-- two that equal the same number have the difference 0, where it is in the angle's range
level_pair : (x y v : Float) → in_reach (abs_of (x ⊖ y)) ≡ true → eq x v ≡ true → eq y v ≡ true → eq (x ⊖ y) nought ≡ true
level_pair x y v r p q = rw (zero_is binary32) (sub_level binary32 x y (sub_finite binary32 x y (reach_finite (x ⊖ y) r)) (eq_both x y v p q))

-- ---- accepted arguments
in_bounds : {lo hi r : Float} → finite lo ≡ true → finite hi ≡ true → In lo hi r → Bounds lo hi r
in_bounds {lo} {hi} {r} p q i = record { from = p; to = q; low = is_true _ i.least; high = is_true _ i.most }

record Right (img : List Float) (s : Size) (k : RawKeypoint) : Type 0 where
  pub shape : shape_wrong s.width s.height ≡ false
  pub whole : length_wrong (length img) (s.height * s.width) ≡ false
  pub keypoint : keypoint_wrong s k ≡ false
  pub good : window_good img (window_at s k) ≡ true

right_of : (img : List Float) (s : Size) (k : RawKeypoint) → orient_fault img s k ≡ 0 → Right img s k
unfolding orient_fault first_fault
right_of img s k e = go (shape_wrong s.width s.height) (length_wrong (length img) (s.height * s.width)) (keypoint_wrong s k) (window_good img (window_at s k)) refl refl refl refl e
  where
    go : (p q r g : Bool) → shape_wrong s.width s.height ≡ p → length_wrong (length img) (s.height * s.width) ≡ q → keypoint_wrong s k ≡ r → window_good img (window_at s k) ≡ g
        → first_fault (line 1 p ∷ line 3 q ∷ line 5 r ∷ line 6 (not g) ∷ []) ≡ 0 → Right img s k
    go true q r g a b c d f = absurd (omega arith)
    go false true r g a b c d f = absurd (omega arith)
    go false false true g a b c d f = absurd (omega arith)
    go false false false false a b c d f = absurd (omega arith)
    go false false false true a b c d f = record { shape = a; whole = b; keypoint = c; good = d }

module _ (img : List Float) (s : Size) (k : RawKeypoint) (fine : orient_fault img s k ≡ 0) where
  right : Right img s k
  right = right_of img s k fine

  same_length : length img ≡ s.height * s.width
  unfolding length_wrong
  same_length = eqb-true (length img) (s.height * s.width) (not-false _ right.whole)

  aim : Aimed s k
  aim = aimed s k right.shape right.keypoint

  abbrev win : Window
  win = window_at s k

  -- what is asked of each cell's sample
  place : (i : ℕ) → i < win.rows * win.cols → cells.At win i
  place i l = at_cell win (win.rows * win.cols) i refl l

  weight_in : (i : ℕ) → i < win.rows * win.cols → Bounds nil one (weight_at win (cell_at win i))
  unfolding window_at weight_at of_bits
  weight_in i l =
      let p = place i l in
      in_bounds refl refl (exp_rule.within _ (is_T _ (tally_rule.exponents s k.rr k.cc (scale_of k) (i / win.cols) (i % win.cols) aim.row aim.column aim.scale p.row p.col)))

  slope_in : (i : ℕ) → i < win.rows * win.cols → T (in_angle (slope_at img win.size.width (cell_at win i).row (cell_at win i).col).dx (slope_at img win.size.width (cell_at win i).row (cell_at win i).col).dy)
  slope_in i l = let p = place i l in is_T _ (tally_rule.slopes img win (i / win.cols) (i % win.cols) right.good p.row p.col)

  heavy : (i : ℕ) → i < win.rows * win.cols → Weighed heap (sample_of img win (win.rows * win.cols) i (cell_at win i))
  unfolding sample_of of_bits
  heavy i l = record { weight = weight_in i l; magnitude = in_bounds refl refl (magnitude_rule.within _ _ (slope_in i l)) }

  filled : Filled brim (tally_of img win).bins
  filled = tally_filled heap brim full img win heavy

  plain : {a : Float} → Marked false a → abs_of a ≡ a
  unfolding abs_of
  plain endless = refl
  plain ended = refl

  turn_of_lem : (a : Float) → Angle a → Turn a
  unfolding of_bits
  turn_of_lem a g = record { least = marked_nonneg g.clear; below = g.below; ends = angle_finite a g.clear g.below; plain = plain g.clear; held = g.held; bits = pattern a g }

  angle : (i : ℕ) → i < length (oriented_list img s k) → Turn (get_or (oriented_list img s k) i (oriented_of k nan)).angle
  unfolding oriented_list angles_at
  angle i l =
      let e = get_or-map (oriented_of k) (angles_at img s k) i nan in
      subst (λ (o : OrientedKeypoint). Turn o.angle) (sym e) (turn_of_lem _ (each_at (each_angle _ filled) nan i (subst (λ (n : ℕ). i < n) (length-map (angles_at img s k) (oriented_of k)) l)))

  -- ---- nothing rises or falls
  module _ (still : (i j : ℕ) → i < win.rows → j < win.cols → Still (slope_at img win.size.width (win.top + i) (win.left + j))) where
    light : (i : ℕ) → i < win.rows * win.cols → Weighed nil (sample_of img win (win.rows * win.cols) i (cell_at win i))
    unfolding sample_of of_bits
    light i l =
        let p = place i l in
        let z = still (i / win.cols) (i % win.cols) p.row p.col in
        let e = magnitude_rule.none _ _ (slope_in i l) (is_T _ z.dx) (is_T _ z.dy) in
        record { weight = weight_in i l; magnitude = rw e (bounds_point nil refl) }

    none_still : oriented_list img s k ≡ []
    unfolding oriented_list angles_at
    none_still = ap (map (oriented_of k)) (no_angle (tally_of img win).bins (tally_filled nil nil bare img win light))

  -- ---- a level picture
  module _ (v : Float) (same : (i : ℕ) → i < length img → eq (get_or img i nan) v ≡ true) where
    fits : Fits (length img) win
    fits = aimed_fits s k (length img) same_length aim

    at : (y x : ℕ) → y < win.size.height → x < win.size.width → eq (pixel img win.size.width y x) v ≡ true
    unfolding pixel
    at y x c d = same (y * win.size.width + x) (spot {s = win.size} {r = y} {c = x} (record { whole = fits.whole; row = c; column = d })).below

    level_slope : (y x : ℕ) → Around (length img) win.size y x → in_angle (slope_at img win.size.width y x).dx (slope_at img win.size.width y x).dy ≡ true → Still (slope_at img win.size.width y x)
    unfolding slope_at
    level_slope y x p r =
        let w = win.size.width in
        let up = p.up in
        let down = p.down in
        let left = p.left in
        let right = p.right in
        let q = and_both (in_reach (abs_of (pixel img w y (x + 1) ⊖ pixel img w y (x - 1)))) (in_reach (abs_of (pixel img w (y - 1) x ⊖ pixel img w (y + 1) x))) r in
        record {
          dx = level_pair _ _ v q.0 (at y (x + 1) (omega arith) right) (at y (x - 1) (omega arith) (omega arith));
          dy = level_pair _ _ v q.1 (at (y - 1) x (omega arith) (omega arith)) (at (y + 1) x down (omega arith));
        }

    all_still : (i j : ℕ) → i < win.rows → j < win.cols → Still (slope_at img win.size.width (win.top + i) (win.left + j))
    all_still i j a b =
        level_slope (win.top + i) (win.left + j) (cell_around fits i j a b) (tally_rule.slopes img win i j right.good a b)

    none_level : oriented_list img s k ≡ []
    none_level = none_still all_still

-- the window's picture is the one that it was asked of
same_width : (s : Size) (k : RawKeypoint) → (window_at s k).size.width ≡ s.width
unfolding window_at window_of
same_width s k = refl

pub angles_rule : AnglesRule
unfolding of_bits
angles_rule =
    record {
      bin = λ img s k i e l. let u = (filled img s k e).each i l in (u.low, u.high);
      angle = λ img s k i e l. angle img s k e i l;
      still = λ img s k e z. none_still img s k e (λ i j a b. rw (same_width s k) (z i j a b));
      level = λ img s k v e z. none_level img s k e v z;
    }
