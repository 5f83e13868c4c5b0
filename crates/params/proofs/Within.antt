-- A number that passes a test of its range lies between the range's ends. Assumes nothing.
use mathlib.Core.Path.{◌≡◌, refl}
use mathlib.Core.Bool.{true}
use lib.Ieee.{Float, of_bits, le}
use lib.Ieee.Scale.{finite}
use Rattle.lists.proofs.Bools.{and_both}
use Rattle.ieee_laws.proofs.Bounds.{Bounds}
use Rattle.params.specs.Limits.{scale_low, scale_high}
use Rattle.params.specs.Table.{within}

pub within_bounds : (lo hi x : Float) → finite lo ≡ true → finite hi ≡ true → within lo hi x ≡ true → Bounds lo hi x
within_bounds lo hi x f g h = let p = and_both (le lo x) (le x hi) h in record { from = f; to = g; low = p.0; high = p.1 }

-- a scale
pub scale_bounds : (s : Float) → within scale_low scale_high s ≡ true → Bounds scale_low scale_high s
unfolding of_bits
scale_bounds s h = within_bounds scale_low scale_high s refl refl h
