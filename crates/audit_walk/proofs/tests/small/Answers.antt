-- The contrast 0.04 is one that the table accepts. Assumes nothing.
use mathlib.Core.Path.{refl}
use native.Mathlib.Omega.{arith}
use lib.Ieee.{of_bits, le}
use Rattle.params.specs.Table.{contrast_wrong}
use Rattle.audit_walk.proofs.tests.small.Goals as goal

pub returns-clause-searchable : goal.returns-clause-searchable
unfolding contrast_wrong of_bits le
returns-clause-searchable c = record { whole = refl; wide = omega arith; high = omega arith; planes = omega arith; many = omega arith; low = omega arith; contrast = refl }
