-- Law: a float's place among the numbers, from its bits. `proofs/Order.antt` shows `PlaceRule`, `proofs/Bare.antt` shows `BareRule`. Definitions only.
use Rattle.std.specs.Prelude.{ℕ, ◌+◌, ◌-◌, ◌%◌, ◌^◌, ◌<◌, ◌≡◌, true, cond, ltb}
use Rattle.std.specs.Float.Ieee.Scale.{finite}
use Rattle.ieee.specs.F32.{f32, float, ◌<ᶠ◌, ◌≤ᶠ◌}

-- up from 2^31 for a clear sign, down from it for a set one. Both zeros have the place 2^31
unfoldable pub place : ℕ → ℕ
place w = cond (ltb w (2 ^ 31)) (w + 2 ^ 31) (2 ^ 32 - w)

-- of finite floats the one that is less has the lower place, and no other
abbrev pub PlaceRule : Type 0
PlaceRule = (a b : ℕ) → a < 2 ^ 32 → b < 2 ^ 32 → finite (f32 a) ≡ true → finite (f32 b) ≡ true → (f32 a <ᶠ f32 b) ≡ ltb (place a) (place b)

-- the bits without the sign
abbrev pub bare : ℕ → ℕ
bare w = w % 2 ^ 31

-- a finite float that is not below zero: its bits without the sign are its place
pub record Upward (w : ℕ) : Type 0 where
  pub word : w < 2 ^ 32
  pub number : finite (f32 w) ≡ true
  pub above : (float 0 ≤ᶠ f32 w) ≡ true

abbrev pub BareRule : Type 0
BareRule = (a b : ℕ) → Upward a → Upward b → (f32 a <ᶠ f32 b) ≡ ltb (bare a) (bare b)
