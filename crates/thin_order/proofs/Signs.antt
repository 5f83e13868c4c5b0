-- A float's place, by the sign of its bits. Assumes nothing.
use Prim.Native.Nat.{ℕ, ◌+◌, ◌-◌, ◌^◌, ◌≤◌, ◌<◌}
use mathlib.Core.Path.{◌≡◌}
use borrow.Author.Tests.{lt-ltb, le-ltb}
use Rattle.thin_order.specs.Place.{place}

pub place_low : (w : ℕ) → w < 2 ^ 31 → place w ≡ w + 2 ^ 31
unfolding place
place_low w h = rw (lt-ltb w (2 ^ 31) h)

pub place_high : (w : ℕ) → 2 ^ 31 ≤ w → place w ≡ 2 ^ 32 - w
unfolding place
place_high w h = rw (le-ltb w (2 ^ 31) h)
