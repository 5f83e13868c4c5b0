-- Inner: how a keypoint is tested, what is known of a list that was not refused, and what is then answered. Definitions only.
use Rattle.std.specs.Prelude.{ℕ, ◌^◌, ◌≤◌, ◌<◌, ◌≡◌, Bool, true, ◌&&◌, cond, List, leb, length, Option, None, Some}
use Rattle.ieee.specs.F32.{float, ◌<ᶠ◌, ◌≤ᶠ◌}
use Rattle.params.specs.Answers.{Answer, answer_of, landed}
use Rattle.thin_rule.specs.Rule.{points_in, word_at, x_of, y_of, inside}
use Rattle.thin_rule.specs.Strength.{Ordered, Sound}
use Rattle.thin.specs.Entry.{frame}
use Rattle.thin.specs.declared.Sides.{Sides}

-- the frame's sides as floats, and that a keypoint lies between them
abbrev pub sides_of : ℕ → ℕ → Sides
sides_of w h = record { width = float w; height = float h }

unfoldable pub sided : List ℕ → Sides → ℕ → Bool
sided ws e i = ((float 0 ≤ᶠ x_of ws i) && (x_of ws i <ᶠ e.width)) && ((float 0 ≤ᶠ y_of ws i) && (y_of ws i <ᶠ e.height))

-- the words that thinning reads have 32 bits
pub record Words (ws : List ℕ) (i : ℕ) : Type 0 where
  pub x : word_at ws i 0 < 2 ^ 32
  pub y : word_at ws i 1 < 2 ^ 32
  pub response : word_at ws i 3 < 2 ^ 32

pub record Accepted (ws : List ℕ) (w h q : ℕ) : Type 0 where
  pub ordered : Ordered (frame w h)
  pub sound : Sound ws
  pub some : 1 ≤ q
  pub inside : (i : ℕ) → i < points_in ws → inside ws (frame w h) i ≡ true

-- the answer with `new` to give, and the lent list afterwards
pub record Given (new old : List ℕ) (a : Answer) (out : List ℕ) : Type 0 where
  pub answer : a ≡ answer_of 0 (length new) (length new) (length old)
  pub left : out ≡ landed (answer_of 0 (length new) (length new) (length old)) new old

-- none where `new` has room, and else its length
unfoldable pub missing : List ℕ → ℕ → Option ℕ
missing new room = cond (leb (length new) room) None (Some (length new))
