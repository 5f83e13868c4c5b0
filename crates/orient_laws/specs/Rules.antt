-- Law: what is proved of the angles that orientation gives: proofs/Rules.antt proves each. Definitions only.
use Rattle.std.specs.Prelude.{ℕ, ◌+◌, ◌<◌, ◌≤◌, ◌≡◌, true, false, List, [], T, length, get_or, pos, Float}
use Rattle.std.specs.Float.{nan, fin, binary32}
use Rattle.std.specs.Float.Ieee.{fits}
use Rattle.std.specs.Float.Ieee.Scale.{finite}
use Rattle.ieee.specs.F32.{◌<ᶠ◌, ◌≤ᶠ◌, ◌=ᶠ◌, bits_of, abs_of}
use Rattle.ieee.specs.Numbers.{nought, whole_turn}
use Rattle.sheet.specs.Layout.{largest_angle}
use Rattle.picture.specs.Picture.{slope_at}
use Rattle.picture.specs.declared.Size.{Size}
use Rattle.picture.specs.declared.Slope.{Slope}
use Rattle.detect_keypoint.specs.declared.RawKeypoint.{RawKeypoint}
use Rattle.orient_tally.specs.Sample.{bins}
use Rattle.orient_tally.specs.Tally.{tally_of}
use Rattle.orient_words.specs.Oriented.{oriented_of}
use Rattle.orient.specs.Entry.{window_at, orient_fault, oriented_list}

-- in 0 to below 360, and written with bits that a sheet takes: finite, with the sign bit clear, so that no angle is −0
pub record Turn (angle : Float) : Type 0 where
  pub least : (nought ≤ᶠ angle) ≡ true
  pub below : (angle <ᶠ whole_turn) ≡ true
  pub ends : finite angle ≡ true
  pub plain : abs_of angle ≡ angle
  pub held : T (fits binary32 angle)
  pub bits : bits_of angle ≤ largest_angle

-- neither rises nor falls, in either direction
pub record Still (s : Slope) : Type 0 where
  pub dx : (s.dx =ᶠ nought) ≡ true
  pub dy : (s.dy =ᶠ nought) ≡ true

-- the most that a bin of the tally holds: 2 ^ 46
abbrev pub fullest : Float
fullest = fin false 1 (pos 46)

pub record AnglesRule : Type 0 where
  -- of accepted arguments every bin of the tally lies in 0 to 2 ^ 46, however many samples there are
  pub bin : (img : List Float) (s : Size) (k : RawKeypoint) (i : ℕ) → orient_fault img s k ≡ 0 → i < bins
      → ((nought ≤ᶠ get_or (tally_of img (window_at s k)).bins i nan) ≡ true) × ((get_or (tally_of img (window_at s k)).bins i nan ≤ᶠ fullest) ≡ true)
  -- and the angle of every oriented keypoint lies in 0 to below 360
  pub angle : (img : List Float) (s : Size) (k : RawKeypoint) (i : ℕ) → orient_fault img s k ≡ 0 → i < length (oriented_list img s k)
      → Turn (get_or (oriented_list img s k) i (oriented_of k nan)).angle
  -- a window in which nothing rises or falls gives no direction
  pub still : (img : List Float) (s : Size) (k : RawKeypoint) → orient_fault img s k ≡ 0
      → ((i j : ℕ) → i < (window_at s k).rows → j < (window_at s k).cols → Still (slope_at img s.width ((window_at s k).top + i) ((window_at s k).left + j)))
      → oriented_list img s k ≡ []
  -- so does a level picture: all of its samples equal one number, +0 and −0 being equal
  pub level : (img : List Float) (s : Size) (k : RawKeypoint) (v : Float) → orient_fault img s k ≡ 0
      → ((i : ℕ) → i < length img → (get_or img i nan =ᶠ v) ≡ true) → oriented_list img s k ≡ []
