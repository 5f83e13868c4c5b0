-- An agreement in the rules' words: it differs where its field has a number. Assumes nothing.
use mathlib.Core.Path.{◌≡◌, refl, sym}
use mathlib.Core.Bool.{true, false, false≢true}
use native.Mathlib.Omega.{arith}
use Rattle.std.specs.Option.{is_some}
use Rattle.std.specs.Prelude.{Option, None, Some}
use Rattle.audit_compare.specs.declared.agreement.Difference.{Difference}
use Rattle.audit_compare.specs.declared.agreement.Difference.TheVariants.{Field, Missing}
use Rattle.audit_compare.specs.Numbered.{Numbered}
use Rattle.audit_compare.specs.Standing.{field_of}

pub some_field : (d : Option Difference) → Numbered d → true ≡ is_some d → field_of d ≡ 0 → ⊥
some_field None n s e = false≢true (sym s)
some_field (Some (Field k)) n s e = n.0 e
some_field (Some Missing) n s e = omega (arith, e)

pub none_field : (d : Option Difference) → false ≡ is_some d → field_of d ≡ 0
none_field None s = refl
none_field (Some d) s = absurd (false≢true s)
