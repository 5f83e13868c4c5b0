-- The tally of 36 bins that the samples of a window make one after the other (rules O5 and O6). Definitions only.
use Rattle.std.specs.Prelude.{ℕ, ◌+◌, ◌-◌, ◌%◌, cond, List, [], ◌∷◌, get_or, set, replicate, leb, Float}
use Rattle.std.specs.Float.{nan}
use Rattle.ieee.specs.F32.{◌⊕◌, ◌⊗◌, fused}
use Rattle.ieee.specs.Numbers.{nought}
use Rattle.hal_angle.specs.Angle.{angle_of}
use Rattle.hal_magnitude.specs.Magnitude.{magnitude_of}
use Rattle.picture.specs.Picture.{slope_at}
use Rattle.orient_window.specs.Window.{Cell, cells_of, cells_read}
use Rattle.orient_tally.specs.Sample.{bins, weight_at, bin_of}
use Rattle.orient_window.specs.declared.Window.{Window}
use Rattle.orient_tally.specs.declared.Sample.{Sample}
use Rattle.orient_tally.specs.declared.Tally.{Tally}
use Rattle.orient_tally.specs.declared.Gathered.{Gathered}

-- how many of n samples are early: rule O5
abbrev pub early : ℕ → ℕ
early n = n - n % 4

-- the sample of a cell, of n cells read the one after k others: whether it is late goes by the cells read
unfoldable pub sample_of : List Float → Window → ℕ → ℕ → Cell → Sample
sample_of img win n k c =
    let s = slope_at img win.size.width c.row c.col in
    record {
      bin = bin_of (angle_of s.dx s.dy);
      weight = weight_at win c;
      magnitude = magnitude_of s.dx s.dy;
      late = leb (early n) k;
    }

-- a bin with one sample more: weight × magnitude rounded twice, or by the fused form where the sample is late
unfoldable pub share_of : Float → Sample → Float
share_of old s = cond s.late (fused s.weight s.magnitude old) (old ⊕ s.weight ⊗ s.magnitude)

unfoldable pub added : List Float → Sample → List Float
added b s = set b s.bin (share_of (get_or b s.bin nan) s)

-- a tally with one sample more
unfoldable pub tallied : Tally → Sample → Tally
tallied t s = record { bins = added t.bins s }

-- 36 times +0
unfoldable pub empty : Tally
empty = record { bins = replicate bins nought }

-- Cells are read one after the other, and k counts those that were read before. Each cell that is read is used: its sample is added.
unfoldable pub counted : (ℕ → Cell → Sample) → ℕ → List Cell → Tally → Tally
counted f k [] t = t
counted f k (c ∷ cs) t = counted f (k + 1) cs (tallied t (f k c))

unfoldable pub tally_of : List Float → Window → Tally
tally_of img win = counted (sample_of img win (cells_read win)) 0 (cells_of win) empty

-- the tally, and the number of cells read
unfoldable pub gathered_of : List Float → Window → Gathered
gathered_of img win = record { tally = tally_of img win; read = cells_read win }
