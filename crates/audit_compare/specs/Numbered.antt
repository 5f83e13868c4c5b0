-- Inner: the numbers that the field of a difference can have; no part of a public contract. And that this is a fact with one value.
use Rattle.std.specs.Prelude.{ℕ, ◌≢◌, Option, None, Some}
use Rattle.std.specs.Coded.{×_prop, →_prop, Unit-prop}
use mathlib.Core.HLevel.{⊥_prop}
use Rattle.audit_compare.specs.declared.agreement.Difference.{Difference}
use Rattle.audit_compare.specs.declared.agreement.Difference.TheVariants.{Field, Missing}

-- stands for a field where a sheet has no record: no field has this number
abbrev pub missing : ℕ
missing = 141

-- not 0, which stands for no difference, and not what stands for a missing record
abbrev pub IsField : ℕ → Type 0
IsField n = (n ≢ 0) × (n ≢ missing)

abbrev pub Numbered : Option Difference → Type 0
Numbered None = Unit
Numbered (Some (Field n)) = IsField n
Numbered (Some Missing) = Unit

pub numbered_prop : (d : Option Difference) → IsProp (Numbered d)
numbered_prop None = Unit-prop
numbered_prop (Some (Field n)) = ×_prop (→_prop ⊥_prop) (→_prop ⊥_prop)
numbered_prop (Some Missing) = Unit-prop
