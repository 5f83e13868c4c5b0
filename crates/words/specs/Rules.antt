-- Law: a keypoint's words read back as the keypoint, and so do those of an oriented one: what C passes from one entry to the next is what the first one gave.
-- proofs/Rules.antt proves each. Definitions only.
use Rattle.std.specs.Prelude.{ℕ, ◌*◌, ◌<◌, ◌≡◌, List, T, length, get_or, take, drop, Float}
use Rattle.std.specs.Float.{binary32}
use Rattle.std.specs.Float.Ieee.{fits}
use Rattle.params.specs.Limits.{keypoint_words}
use Rattle.params.specs.declared.Settings.{Settings}
use Rattle.detect_keypoint.specs.Sound.{Sound}
use Rattle.detect_keypoint.specs.declared.RawKeypoint.{RawKeypoint}
use Rattle.detect_extrema.specs.Scan as raw
use Rattle.orient_words.specs.Oriented as orient
use Rattle.orient_words.specs.declared.OrientedKeypoint.{OrientedKeypoint}
use Rattle.words.specs.Keypoint.{keypoint_in}
use Rattle.words.specs.Oriented.{oriented_in}

-- each float of a keypoint is one that an f32 holds, as it is in every such struct; the not-a-number is one
pub record Held (k : RawKeypoint) : Type 0 where
  pub x : T (fits binary32 k.x)
  pub y : T (fits binary32 k.y)
  pub size : T (fits binary32 k.size)
  pub response : T (fits binary32 k.response)
  pub xi : T (fits binary32 k.xi)

pub record OrientedHeld (o : OrientedKeypoint) : Type 0 where
  pub x : T (fits binary32 o.x)
  pub y : T (fits binary32 o.y)
  pub size : T (fits binary32 o.size)
  pub response : T (fits binary32 o.response)
  pub angle : T (fits binary32 o.angle)

pub record WordsRule : Type 0 where
  -- ten words read back
  pub keypoint : (k : RawKeypoint) → Held k → keypoint_in (raw.words_of k) ≡ k
  -- six words read back
  pub oriented : (o : OrientedKeypoint) → OrientedHeld o → oriented_in (orient.words_of o) ≡ o
  -- every keypoint that detection gives is held
  pub found : (w h octave : ℕ) (s : Settings) (k : RawKeypoint) → Sound w h s octave k → Held k
  -- and with an angle that is held, so is the oriented keypoint that orientation makes of it
  pub directed : (k : RawKeypoint) (angle : Float) → Held k → T (fits binary32 angle) → OrientedHeld (orient.oriented_of k angle)
  -- the words of the keypoint i of a list stand in the list's words from 10 × i on, ten of them
  pub keypoint_at : (ks : List RawKeypoint) (i : ℕ) (d : RawKeypoint) → i < length ks → take keypoint_words (drop (keypoint_words * i) (raw.words ks)) ≡ raw.words_of (get_or ks i d)
  -- and of an oriented one from 6 × i on, six of them
  pub oriented_at : (os : List OrientedKeypoint) (i : ℕ) (d : OrientedKeypoint) → i < length os → take orient.oriented_words (drop (orient.oriented_words * i) (orient.words os)) ≡ orient.words_of (get_or os i d)
