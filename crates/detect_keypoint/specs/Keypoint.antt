-- The tests of contrast and edge, and the keypoint's fields: rules D13 to D16. Definitions only.
use Rattle.std.specs.Prelude.{ℕ, ◌-◌, ◌*◌, ◌%◌, ◌^◌, Bool, ◌||◌, ℤ, pos, negsuc, ◌+ℤ◌, ◌*ℤ◌, Float}
use Rattle.ieee.specs.F32.{◌⊕◌, ◌⊗◌, ◌⊘◌, ◌<ᶠ◌, ◌≤ᶠ◌, fused, abs_of, narrowed, float}
use Rattle.ieee.specs.Numbers.{top_byte, one, two, nought, half}
use Rattle.hal.specs.Exp.{exp2_of}
use Rattle.params.specs.declared.Settings.{Settings}
use Rattle.detect_fit.specs.Fit.{img_scale, gradient_of, bend_of, mul_sub}
use Rattle.detect_fit.specs.declared.Patch.{Patch}
use Rattle.detect_fit.specs.declared.Offset.{Offset}
use Rattle.detect_keypoint.specs.Offsets.{cv_round}
use Rattle.detect_keypoint.specs.declared.Cell.{Cell}
use Rattle.detect_keypoint.specs.declared.Search.{Search}
use Rattle.detect_keypoint.specs.declared.RawKeypoint.{RawKeypoint}

-- the contrast at the offset: the cell / 255, and half of gradient · offset
unfoldable pub contrast_of : Patch → Offset → Float
contrast_of patch o =
    let g = gradient_of patch in
    let s = fused g.ds o.xi (fused g.dy o.xr (g.dx ⊗ o.xc)) in
    fused patch.im img_scale (s ⊗ half)

-- |contrast| * layers is below the setting, narrowed
unfoldable pub dim : Settings → Float → Bool
dim s contrast = (abs_of contrast ⊗ float s.layers) <ᶠ narrowed s.contrast

-- the determinant of the plane's bend is not above 0, or trace² * edge ≥ (edge + 1)² * determinant
unfoldable pub edgy : Settings → Patch → Bool
edgy s patch =
    let b = bend_of patch in
    let tr = b.xx ⊕ b.yy in
    let det = mul_sub b.xx b.yy b.xy b.xy in
    let et = narrowed s.edge in
    (det ≤ᶠ nought) || ((et ⊕ one) ⊗ (et ⊕ one) ⊗ det ≤ᶠ tr ⊗ tr ⊗ et)

-- cv_round((xi + 0.5) * 255): how far between the layers, from 0 to 255 where xi is below 0.5 in magnitude
unfoldable pub code_of : Float → ℤ
code_of xi = cv_round ((xi ⊕ half) ⊗ top_byte)

-- a signed number as a word of 32 bits, in two's complement
abbrev pub word_of : ℤ → ℕ
word_of (pos n) = n % 2 ^ 32
word_of (negsuc n) = 2 ^ 32 - 1 - n % 2 ^ 32

-- octave + (layer << 8) + (code << 16), rule D16
unfoldable pub octave_word : ℕ → ℕ → ℤ → ℕ
octave_word octave layer code = word_of (pos octave +ℤ pos (layer * 2 ^ 8) +ℤ code *ℤ pos (2 ^ 16))

-- the fields of a keypoint that settled at the cell k with the offset o after so many moves, where its response is given
unfoldable pub keypoint_with : Search → ℕ → Cell → Offset → Float → RawKeypoint
keypoint_with s moves k o response =
    let scale = float (2 ^ s.octave) in
    let power = exp2_of ((float k.p ⊕ o.xi) ⊘ float s.settings.layers) in
    record {
      x = (float k.c ⊕ o.xc) ⊗ scale;
      y = (float k.r ⊕ o.xr) ⊗ scale;
      size = narrowed s.settings.sigma ⊗ power ⊗ scale ⊗ two;
      response = response;
      octave = octave_word s.octave k.p (code_of o.xi);
      layer = k.p;
      xi = o.xi;
      cc = k.c;
      rr = k.r;
      moves = moves;
    }

-- its response is the magnitude of the contrast there
unfoldable pub keypoint_of : Search → ℕ → Cell → Patch → Offset → RawKeypoint
keypoint_of s moves k patch o = keypoint_with s moves k o (abs_of (contrast_of patch o))
