-- What settings that the table accepts give: their bounds, and those of their narrowed values. Assumes nothing.
use Prim.Native.Nat.{ℕ, ◌≤◌}
use mathlib.Core.Path.{◌≡◌, refl, sym, ap, ◌∙◌}
use mathlib.Core.Bool.{true, false, not}
use borrow.Author.Tests.{ltb-false}
use lib.Ieee.{Float, binary32, of_bits}
use lib.Ieee.Scale.{finite}
use Rattle.lists.proofs.Bools.{not_not}
use Rattle.ieee.specs.Fused.{convert}
use Rattle.ieee.specs.F32.{f32, narrowed}
use Rattle.ieee.specs.Numbers.{nought, one, half}
use Rattle.ieee_laws.proofs.Bounds.{Bounds, convert_bounds}
use Rattle.params.specs.Limits.{max_octave, contrast_low, contrast_high, edge_low, edge_high, sigma_low, sigma_high}
use Rattle.params.specs.Table.{within, contrast_wrong, settings_wrong}
use Rattle.params.specs.declared.Settings.{Settings}
use Rattle.params.proofs.Bools.{or_neither}
use Rattle.params.proofs.Within.{within_bounds}

-- the test that the table makes
in_bounds : (lo hi x : Float) → finite lo ≡ true → finite hi ≡ true → not (within lo hi x) ≡ false → Bounds lo hi x
in_bounds lo hi x f g e = within_bounds lo hi x f g (sym (not_not (within lo hi x)) ∙ ap not e)

pub contrast_bounds : (contrast : Float) → contrast_wrong contrast ≡ false → Bounds contrast_low contrast_high contrast
unfolding contrast_wrong of_bits
contrast_bounds contrast right = in_bounds contrast_low contrast_high contrast refl refl right

-- ---- the settings that refinement narrows

-- contrast in 0 to 1, edge in 1 to 1,000 and sigma in 0.5 to 16, as f32s; and the octave
pub record Accepted (s : Settings) (o : ℕ) : Type 0 where
  pub contrast : Bounds nought one (narrowed s.contrast)
  pub edge : Bounds one (f32 0x447a_0000) (narrowed s.edge)
  pub sigma : Bounds half (f32 0x4180_0000) (narrowed s.sigma)
  pub octave : o ≤ max_octave

pub accepted : (s : Settings) (octave : ℕ) → settings_wrong s octave ≡ false → Accepted s octave
unfolding settings_wrong of_bits convert
accepted s octave e =
    let a = or_neither (contrast_wrong s.contrast) _ e in
    let b = or_neither (not (within edge_low edge_high s.edge)) _ a.1 in
    let g = or_neither (not (within sigma_low sigma_high s.sigma)) _ b.1 in
    record {
      contrast = convert_bounds binary32 {a = contrast_low} {b = contrast_high} refl refl (contrast_bounds s.contrast a.0);
      edge = convert_bounds binary32 {a = edge_low} {b = edge_high} refl refl (in_bounds edge_low edge_high s.edge refl refl b.0);
      sigma = convert_bounds binary32 {a = sigma_low} {b = sigma_high} refl refl (in_bounds sigma_low sigma_high s.sigma refl refl g.0);
      octave = ltb-false max_octave octave g.1;
    }
