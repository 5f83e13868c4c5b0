-- A float that can be cut to a u64, and how large the whole number then is. Assumes nothing.
use Rattle.std.proofs.Common.{◌≡◌, ℕ, ◌≤◌, true, false, T, pos, arith}
use lib.Ieee.{Float, fin, lt, to_unsigned}
use Rattle.lists.proofs.Bools.{is_T}
use Rattle.ieee_laws.proofs.Order.{lt_le_trans, le_lt_trans}
use Rattle.ieee_laws.proofs.Monotone.{to_unsigned_le}
use Rattle.ieee_laws.proofs.Bounds.{Bounds}

-- above -1, below 2 ^ 64, and at most `top` once cut
pub record Cuts (top : ℕ) (x : Float) : Type 0 where
  pub above : T (lt (fin true 1 (pos 0)) x)
  pub below : T (lt x (fin false 1 (pos 64)))
  pub size : to_unsigned 64 x ≤ top

-- so is each float between bounds of which that holds
pub cuts : {lo hi x : Float} (top : ℕ) → lt (fin true 1 (pos 0)) lo ≡ true → lt hi (fin false 1 (pos 64)) ≡ true → to_unsigned 64 hi ≤ top → Bounds lo hi x → Cuts top x
cuts {lo} {hi} {x} top a b s u =
    record {
      above = is_T _ (lt_le_trans (fin true 1 (pos 0)) lo x a u.low);
      below = is_T _ (le_lt_trans x hi (fin false 1 (pos 64)) u.high b);
      size = omega (arith, to_unsigned_le 64 x hi u.high);
    }
