-- The span of a window's rows or columns, and that the window fits the picture. Assumes nothing.
use Rattle.std.proofs.Common.{◌≡◌, ℕ, suc, ◌+◌, ◌-◌, ◌*◌, ◌<◌, ◌≤◌, max, true, refl, arith}
use lib.Ieee.{Float}
use Rattle.params.specs.Limits.{max_side, scale_low, scale_high}
use Rattle.params.specs.Table.{within}
use Rattle.picture.specs.Picture.{first_in, past_in}
use Rattle.picture.specs.declared.Size.{Size}
use Rattle.orient_window.specs.Window.{radius_of, falloff_of, window_of}
use Rattle.orient_window.specs.declared.Window.{Window}
use Rattle.orient_window.specs.Place.{max_reach, Fits}
use Rattle.orient_window.proofs.Radius.{radius_cuts}

pub record Spans (at radius side first count : ℕ) : Type 0 where
  pub starts : 1 ≤ first
  pub ends : first + count ≤ max 1 (side - 1)
  pub back : at ≤ first + radius
  pub forth : first + count ≤ suc (at + radius)

pub spans : (at radius side : ℕ) → at < side → Spans at radius side (first_in at radius) (past_in at radius side - first_in at radius)
spans at radius side h = record { starts = omega arith; ends = omega arith; back = omega arith; forth = omega arith }

pub radius_small : (s : Float) → within scale_low scale_high s ≡ true → radius_of s ≤ max_reach
unfolding radius_of
radius_small s h = (radius_cuts s h).size

-- a window about a cell of a picture fits it
pub window_fits : (len : ℕ) (s : Size) (row col : ℕ) (scale : Float) → len ≡ s.height * s.width → s.height ≤ max_side → s.width ≤ max_side → row < s.height → col < s.width → within scale_low scale_high scale ≡ true → Fits len (window_of s row col scale)
unfolding window_of
window_fits len s row col scale l h w r c k =
    let m = radius_small scale k in
    let y = spans row (radius_of scale) s.height r in
    let x = spans col (radius_of scale) s.width c in
    record {
      whole = l;
      high = h;
      wide = w;
      top = y.starts;
      left = x.starts;
      bottom = y.ends;
      right = x.ends;
      above = omega (arith, y.back);
      below = omega (arith, y.forth);
      before = omega (arith, x.back);
      after = omega (arith, x.forth);
    }
