-- The first check of the form that fails; and what is known where none does: every layer can be searched, and there is a picture for each. Assumes nothing.
use Prim.Native.Nat.{ℕ, ◌+◌, ◌*◌, ◌≤◌}
use native.Mathlib.Nat.{mul-le-mul}
use native.Mathlib.Omega.{arith}
use mathlib.Core.Path.{◌≡◌, sym}
use mathlib.Core.Bool.{Bool, true, false, not, ◌||◌}
use mathlib.Core.List.{List}
use borrow.Author.Tests.{eqb-true, eq-eqb, le-leb, le-ltb}
use lib.Dec.{eqb}
use lib.ListN.{length}
use lib.Ieee.{Float}
use Rattle.params.specs.Limits.{max_side, max_layers, max_planes}
use Rattle.params.specs.Table.{first_fault, side_wrong, shape_wrong, layers_wrong, length_wrong, contrast_wrong, settings_wrong, all_good}
use Rattle.params.specs.declared.Settings.{Settings}
use Rattle.params.proofs.Bools.{or_neither, in_range}
use Rattle.params.proofs.Accepted.{accepted}
use Rattle.picture.specs.declared.Shape.{Shape}
use Rattle.picture.specs.declared.Size.{Size}
use Rattle.sheet.specs.Layout.{record_size}
use Rattle.sheet_edition.specs.Edition.{layout_for}
use Rattle.sheet_edition.specs.declared.Edition.{Edition}
use Rattle.audit_keypoint.specs.Ready.{Stated, Pictured}
use Rattle.detect.specs.Entry as Detection
use Rattle.detect.proofs.Faults.{layers_right, shape_right, products, not_is, first_none}
use Rattle.audit_rule.specs.Entry.{form_fault}
use Rattle.audit_rule.specs.Fine.{Fine}

-- ---- the first check that fails

module _ (dogs gausses : ℕ) (t : Shape) (octave : ℕ) (s : Settings) (base : Size) where
  abbrev fault : ℕ
  fault = form_fault dogs gausses t octave s base

  abbrev lengths_wrong : Bool
  lengths_wrong = not (eqb dogs (t.planes * t.height * t.width)) || not (eqb gausses ((t.planes + 1) * (t.height * t.width)))

  -- two tests, as they were answered
  module _ (a b : Bool) (these : a ≡ shape_wrong t.width t.height) (those : b ≡ shape_wrong base.width base.height) where
    pub fault_sides : (a || b) ≡ true → 1 ≡ fault
    unfolding form_fault first_fault
    fault_sides e = rw (sym these, sym those, e)

    module _ (sides : (a || b) ≡ false) where
      sides_right : (shape_wrong t.width t.height || shape_wrong base.width base.height) ≡ false
      sides_right = rw (sym these, sym those, sides)

      pub fault_layers : layers_wrong t.planes 1 s.layers ≡ true → 2 ≡ fault
      unfolding form_fault first_fault
      fault_layers e = rw (sides_right, e)

      module _ (layers : layers_wrong t.planes 1 s.layers ≡ false) where
        -- the lengths that the shape gives do not wrap
        pub fits : (t.planes + 1 ≤ 18) × (t.planes * t.height ≤ max_planes * max_side) × (t.planes * t.height * t.width ≤ max_planes * max_side * max_side)
            × (t.height * t.width ≤ max_side * max_side) × ((t.planes + 1) * (t.height * t.width) ≤ 18 * (max_side * max_side))
        fits =
            let most = shape_right t.width t.height (or_neither (shape_wrong t.width t.height) (shape_wrong base.width base.height) sides_right).0 in
            let deep = (layers_right t.planes 1 s.layers layers).most in
            let p = products t.planes t.height t.width deep most.1 most.0 in
            let size : t.height * t.width ≤ max_side * max_side = mul-le-mul {n₁ = t.height} {m₁ = t.width} {n₂ = max_side} {m₂ = max_side} most.1 most.0 in
            let one : t.planes + 1 ≤ 18 = omega (arith, deep) in
            (one, p.0, p.1, size, mul-le-mul {n₁ = t.planes + 1} {m₁ = t.height * t.width} {n₂ = 18} {m₂ = max_side * max_side} one size)

        pub fault_lengths : lengths_wrong ≡ true → 3 ≡ fault
        unfolding form_fault first_fault length_wrong
        fault_lengths e = rw (sides_right, layers, e)

        module _ (lengths : lengths_wrong ≡ false) where
          pub fault_settings : settings_wrong s octave ≡ true → 4 ≡ fault
          unfolding form_fault first_fault length_wrong
          fault_settings e = rw (sides_right, layers, lengths, e)

          pub fault_none : settings_wrong s octave ≡ false → 0 ≡ fault
          unfolding form_fault first_fault length_wrong
          fault_none e = rw (sides_right, layers, lengths, e)

-- ---- what is known where none does

pub fine : (dogs gausses : ℕ) (t : Shape) (octave : ℕ) (s : Settings) (base : Size) → form_fault dogs gausses t octave s base ≡ 0 → Fine dogs gausses t octave s base
unfolding form_fault length_wrong shape_wrong settings_wrong
fine dogs gausses t octave s base z =
    let a = first_none 0 (shape_wrong t.width t.height || shape_wrong base.width base.height) _ z in
    let b = first_none 1 (layers_wrong t.planes 1 s.layers) _ a.1 in
    let c = first_none 2 (not (eqb dogs (t.planes * t.height * t.width)) || not (eqb gausses ((t.planes + 1) * (t.height * t.width)))) _ b.1 in
    let d = first_none 3 (settings_wrong s octave) _ c.1 in
    let sides = or_neither (shape_wrong t.width t.height) (shape_wrong base.width base.height) a.0 in
    let long = or_neither (not (eqb dogs (t.planes * t.height * t.width))) (not (eqb gausses ((t.planes + 1) * (t.height * t.width)))) c.0 in
    let these = or_neither (side_wrong base.width) (side_wrong base.height) sides.1 in
    let most = shape_right t.width t.height sides.0 in
    let deep = layers_right t.planes 1 s.layers b.0 in
    record {
      shape = sides.0;
      layers = deep.last;
      planes = deep.most;
      settings = d.0;
      searchable =
          record {
            whole = eqb-true dogs (t.planes * t.height * t.width) (not_is _ long.0);
            wide = most.0;
            high = most.1;
            planes = deep.room;
            many = deep.few;
            low = (accepted s octave d.0).octave;
            contrast = (or_neither (contrast_wrong s.contrast) _ d.0).0;
          };
      pictures = eqb-true gausses ((t.planes + 1) * (t.height * t.width)) (not_is _ long.1);
      across = in_range base.width max_side these.0;
      down = in_range base.height max_side these.1;
    }

-- then detection accepts each of the layers, where the samples are good
layer_right_lem : (planes layer layers : ℕ) → layers + 2 ≤ planes → layers ≤ max_layers → planes ≤ max_planes → 1 ≤ layer → layer ≤ layers → layers_wrong planes layer layers ≡ false
unfolding layers_wrong
layer_right_lem planes layer layers room few most a b =
    rw (le-leb 1 layer a, le-leb layer layers b, le-leb (layers + 2) planes room, le-ltb max_layers layers few, le-ltb max_planes planes most)

pub searched : (dog : List Float) (gausses : ℕ) (t : Shape) (octave : ℕ) (s : Settings) (base : Size) → Fine (length dog) gausses t octave s base → all_good dog ≡ true
    → (layer : ℕ) → 1 ≤ layer → layer ≤ s.layers → Detection.fault_of dog t layer octave s ≡ 0
unfolding Detection.fault_of first_fault length_wrong
searched dog gausses t octave s base f good layer a b =
    rw (f.shape, layer_right_lem t.planes layer s.layers f.searchable.planes f.searchable.many f.planes a b, eq-eqb (length dog) (t.planes * t.height * t.width) f.searchable.whole, f.settings, good)

-- and the walk has what it asks
module _ (dogs gausses : ℕ) (t : Shape) (octave : ℕ) (s : Settings) (base : Size) (f : Fine dogs gausses t octave s base) (e : Edition) (n : ℕ) where
  pub stated_in_lem : (len : ℕ) → record_size (layout_for e) * n ≤ len → Stated len (record { shape = t; octave = octave; edition = e; count = n })
  stated_in_lem len h = record { records = h; low = f.searchable.low }

  pub pictured : Pictured gausses (record { shape = t; octave = octave; edition = e; count = n })
  pictured = record { whole = f.pictures; wide = f.searchable.wide; high = f.searchable.high; deep = f.planes }
