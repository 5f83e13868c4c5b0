-- Law: what rules F3 to F5 ask of the routines, of the definitions beside this page; and what callers ask besides.
-- proofs/Rules.antt proves each: `table_rule : TableRule`, and so on. Accuracy (rule F9) is no statement here: `run_hal` measures it. Definitions only.
use Rattle.std.specs.Prelude.{◌≡◌, Bool, false, ℕ, ◌+◌, ◌*◌, ◌/◌, ◌%◌, ◌^◌, ◌≤◌, ◌<◌, T, length, pos, Float}
use Rattle.std.specs.Float.{nan, fin, binary32}
use Rattle.std.specs.Float.Ieee.{fits}
use Rattle.std.specs.Float.Ieee.Exact.{HasValue}
use Rattle.std.specs.Float.Ieee.Positive.{num, den}
use Rattle.ieee.specs.F32.{◌<ᶠ◌, ◌≤ᶠ◌}
use Rattle.ieee.specs.Numbers.{nought, one, four}
use Rattle.hal.specs.Powers.{powers, entry_of}
use Rattle.hal.specs.Exp.{scaled_of, in_up, exp2_of, in_down, exp_of}

-- r lies in lo to hi, and so is a finite number where those are
pub record In (lo hi r : Float) : Type 0 where
  pub least : T (lo ≤ᶠ r)
  pub most : T (r ≤ᶠ hi)

-- ---- the table: rule F3
pub record TableRule : Type 0 where
  pub entries : length powers ≡ 256
  -- entry i is the largest whole number that is not above 2 ^ (23 + i / 256)
  pub floor : (i : ℕ) → i < 256 → (entry_of i ^ 256 ≤ 2 ^ (i + 5888)) × (2 ^ (i + 5888) < (entry_of i + 1) ^ 256)
  -- and behind the last stands 2 ^ 24
  pub after : entry_of 256 ≡ 16777216

-- ---- exp2: rule F4

-- the whole part of 256 * x. x lies from there to the next, in 256ths; the entries of the first 256 stand for 1 to 2, of the next for 2 to 4
abbrev pub place_of : Float → ℕ
place_of x = num x * 256 / den x

-- entry i scaled: entry i * 2 ^ k / 2 ^ 23
unfoldable pub scaled_entry : ℕ → ℕ → Float
scaled_entry i k = scaled_of (entry_of i) (104 + k)

pub record Exp2Rule : Type 0 where
  -- the result is not below the entry of its place, scaled, and not above the next
  pub between : (x : Float) → T (in_up x) → In (scaled_entry (place_of x % 256) (place_of x / 256)) (scaled_entry (place_of x % 256 + 1) (place_of x / 256)) (exp2_of x)
  -- where 256 * x is whole it is that entry, scaled
  pub at : (x : Float) → T (in_up x) → place_of x * den x ≡ num x * 256 → exp2_of x ≡ scaled_entry (place_of x % 256) (place_of x / 256)
  pub scaled : (i k : ℕ) → i ≤ 256 → k ≤ 2 → HasValue (scaled_entry i k) false (entry_of i * 2 ^ k) (2 ^ 23)
  pub within : (x : Float) → T (in_up x) → In one four (exp2_of x)
  pub outside : (x : Float) → in_up x ≡ false → exp2_of x ≡ nan
  pub held : (x : Float) → T (fits binary32 (exp2_of x))

-- ---- exp: rule F5
pub record ExpRule : Type 0 where
  pub within : (x : Float) → T (in_down x) → In nought one (exp_of x)
  -- 1 at zero, at both of them
  pub zero : (s : Bool) → exp_of (fin s 0 (pos 0)) ≡ one
  pub above : (x : Float) → T (in_down x) → T (nought <ᶠ exp_of x)
  pub outside : (x : Float) → in_down x ≡ false → exp_of x ≡ nan
  pub held : (x : Float) → T (fits binary32 (exp_of x))
