-- Inner: the angles found about a keypoint and the number of cells read, as they are handed on. No part of what a caller is promised. Definitions only.
use Rattle.std.specs.Prelude.{List, Float}
use Rattle.picture.specs.declared.Size.{Size}
use Rattle.detect_keypoint.specs.declared.RawKeypoint.{RawKeypoint}
use Rattle.orient_window.specs.Window.{cells_read}
use Rattle.orient_peaks.specs.Found.{held_of}
use Rattle.orient_words.specs.declared.Directions.{Directions}
use Rattle.orient.specs.Entry.{window_at, angles_at}

unfoldable pub directions_of : List Float → Size → RawKeypoint → Directions
directions_of img s k = record { angles = held_of (angles_at img s k); read = cells_read (window_at s k) }
