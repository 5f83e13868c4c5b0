-- Inner: the sample of a cell of a run, as the code asks for it. Definitions only.
use Rattle.std.specs.Prelude.{ℕ, ◌+◌, List, Float}
use Rattle.hal_angle.specs.Angle.{angle_of}
use Rattle.hal_magnitude.specs.Magnitude.{magnitude_of}
use Rattle.picture.specs.Picture.{slope_at}
use Rattle.orient_window.specs.Window.{cell}
use Rattle.orient_tally.specs.Sample.{weight_at, bin_of}
use Rattle.orient_tally.specs.declared.Sample.{Sample}
use Rattle.orient_tally.specs.declared.Run.{Run}

-- the sample of cell i of a run
unfoldable pub sample_in : List Float → Run → ℕ → Sample
sample_in img run i =
    let s = slope_at img run.win.size.width run.y (run.from + i) in
    record {
      bin = bin_of (angle_of s.dx s.dy);
      weight = weight_at run.win (cell run.y (run.from + i));
      magnitude = magnitude_of s.dx s.dy;
      late = run.late;
    }
