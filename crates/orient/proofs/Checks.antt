-- What the checks leave known, and the last fault. Assumes nothing.
use Prim.Native.Nat.{ℕ, ◌*◌, ◌≤◌}
use mathlib.Core.Path.{◌≡◌, refl}
use mathlib.Core.Bool.{true, false}
use mathlib.Core.List.{List}
use native.Mathlib.Nat.{mul-le-mul}
use borrow.Author.Tests.{ltb-true, ltb-false, not-false, eq-eqb}
use lib.Dec.{ltb}
use lib.ListN.{length}
use lib.Ieee.{Float}
use Rattle.lists.proofs.Bools.{and_both}
use Rattle.params.specs.Limits.{max_side, max_octave}
use Rattle.params.specs.Table.{first_fault, side_wrong, shape_wrong, length_wrong}
use Rattle.params.proofs.Bools.{or_neither, in_range}
use Rattle.picture.specs.declared.Size.{Size}
use Rattle.detect_keypoint.specs.declared.RawKeypoint.{RawKeypoint}
use Rattle.orient_window.specs.Window.{cells_read}
use Rattle.orient_window.specs.Good.{window_good}
use Rattle.orient_tally.specs.Tally.{gathered_of}
use Rattle.orient_tally.specs.declared.Gathered.{Gathered}
use Rattle.orient_window.specs.declared.Window.{Window}
use Rattle.orient_peaks.specs.Peaks.{angles_of}
use Rattle.orient_peaks.specs.Found.{held_of, Holds}
use Rattle.orient_peaks.proofs.Rules.{peak_rule}
use Rattle.orient_peaks.specs.declared.Angles.{Angles}
use Rattle.orient_window.specs.Place.{Fits}
use Rattle.orient_tally.specs.Place.{InRange}
use Rattle.orient_window.proofs.Spans.{window_fits}
use Rattle.orient_tally.proofs.Rules.{tally_rule}
use Rattle.orient.specs.Keypoint.{octave_in, cell_wrong, octave_wrong, floats_wrong, scale_of, scale_wrong, keypoint_wrong}
use Rattle.orient.specs.Entry.{window_at, angles_at, orient_fault}
use Rattle.orient.specs.Given.{directions_of}
use Rattle.orient.specs.Accepted.{Aimed, Ready}

pub sides : (s : Size) → shape_wrong s.width s.height ≡ false → (s.width ≤ max_side) × (s.height ≤ max_side)
unfolding shape_wrong
sides s e =
    let p = or_neither (side_wrong s.width) (side_wrong s.height) e in
    ((in_range s.width max_side p.0).1, (in_range s.height max_side p.1).1)

pub octave_right_lem : (word : ℕ) → octave_wrong word ≡ false → octave_in word ≤ max_octave
unfolding octave_wrong
octave_right_lem word e = ltb-false max_octave (octave_in word) (or_neither (ltb max_octave (octave_in word)) _ e).0

module _ (s : Size) (k : RawKeypoint) where
  pub aimed : shape_wrong s.width s.height ≡ false → keypoint_wrong s k ≡ false → Aimed s k
  unfolding keypoint_wrong cell_wrong scale_wrong
  aimed p e =
      let z = sides s p in
      let a = or_neither (cell_wrong s k) _ e in
      let c = and_both (ltb k.rr s.height) (ltb k.cc s.width) (not-false _ a.0) in
      let b = or_neither (octave_wrong k.octave) _ a.1 in
      let d = or_neither (floats_wrong k) _ b.1 in
      record {
        high = z.1;
        wide = z.0;
        row = ltb-true k.rr s.height c.0;
        column = ltb-true k.cc s.width c.1;
        octave = octave_right_lem k.octave b.0;
        scale = not-false _ d.1;
      }

  pub aimed_fits : (len : ℕ) → len ≡ s.height * s.width → Aimed s k → Fits len (window_at s k)
  unfolding window_at
  aimed_fits len e a = window_fits len s k.rr k.cc (scale_of k) e a.high a.wide a.row a.column a.scale

  pub ready_range : (img : List Float) → Ready img s k → InRange img (window_at s k)
  unfolding window_at
  ready_range img r =
      let a = r.aimed in
      record { fits = aimed_fits (length img) r.whole a; good = r.good; down = λ i j p q. tally_rule.exponents s k.rr k.cc (scale_of k) i j a.row a.column a.scale p q }

  module _ (img : List Float) where
    -- the angles of the tally that was gathered
    pub about : (win : Window) (g : Gathered) (a : Angles) → win ≡ window_at s k → g ≡ gathered_of img win → a ≡ held_of (angles_of g.tally.bins) → record { angles = a; read = g.read } ≡ directions_of img s k
    unfolding directions_of angles_at gathered_of
    about win g a p q r = rw (r, q, p)

    pub about_holds : Holds (directions_of img s k).angles (angles_at img s k)
    unfolding directions_of angles_at
    about_holds = peak_rule.held _

    pub about_read : (directions_of img s k).read ≡ cells_read (window_at s k)
    unfolding directions_of
    about_read = refl

    module _ (shape : shape_wrong s.width s.height ≡ false) where
      pub size_small : s.height * s.width ≤ max_side * max_side
      size_small = let z = sides s shape in mul-le-mul {n₁ = s.height} {m₁ = s.width} {n₂ = max_side} {m₂ = max_side} z.1 z.0

      module _ (whole : length img ≡ s.height * s.width) (right : keypoint_wrong s k ≡ false) where
        pub fault_sample : window_good img (window_at s k) ≡ false → 6 ≡ orient_fault img s k
        unfolding orient_fault first_fault length_wrong
        fault_sample e = rw (shape, eq-eqb (length img) (s.height * s.width) whole, right, e)

        pub fault_none : window_good img (window_at s k) ≡ true → 0 ≡ orient_fault img s k
        unfolding orient_fault first_fault length_wrong
        fault_none e = rw (shape, eq-eqb (length img) (s.height * s.width) whole, right, e)

        pub ready : window_good img (window_at s k) ≡ true → Ready img s k
        ready e = record { whole = whole; aimed = aimed shape right; good = e }
