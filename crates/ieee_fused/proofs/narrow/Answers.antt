-- `narrow` meets its contract: the short path where it answers, the packed significand, or what is not finite as it is. Assumes nothing.
use mathlib.Core.Path.{◌≡◌, sym, ap, ◌∙◌, subst}
use mathlib.Core.Bool.{Bool, true, false}
use Prim.Native.Nat.{ℕ}
use lib.Dec.{T}
use lib.Ieee.{Float, nan, inf, binary32, binary64, div, neg, of_bits}
use lib.Ieee.Bits.{of_bits-to_bits}
use lib.Ieee.Scale.{finite}
use Rattle.std.specs.Float.{float_is_finite}
use Rattle.ieee.specs.Fused.{convert}
use Rattle.ieee.specs.Operations.{IsConverted}
use Rattle.packing.proofs.Fields.{finite_is}
use Rattle.ieee.proofs.Doubled.{converted}
use Rattle.ieee.proofs.Infinite.{above_inf, below_inf, neither_nan}
use Rattle.ieee.proofs.Operations.{convert_ieee}
use Rattle.ieee_fused.proofs.narrow.Goals as goal

-- both clauses from the first
both : (x r : Float) → r ≡ convert binary32 x → (r ≡ convert binary32 x) × IsConverted binary32 x r
both x r e = (e, subst (IsConverted binary32 x) (sym e) (convert_ieee binary32 x))

-- the library's test
tested : (x : Float) (r b : Bool) → r ≡ float_is_finite x → r ≡ b → finite x ≡ b
tested x r b e h = sym (finite_is x) ∙ sym e ∙ h

pub unpack64-p-requires : goal.unpack64-p-requires
unpack64-p-requires c = tested _ _ _ c.is_finite.ensures.value c.if-is_finite.true

pub narrow_once-requires : goal.narrow_once-requires
narrow_once-requires c = c.rounds_once.ensures.0 c.if-rounds_once.true

pub returns-then-rounds_once : goal.returns-then-rounds_once
returns-then-rounds_once c =
    let n = c.f64_to_bits_with_nan-n in
    let w = both _ _ (c.narrow_once.ensures ∙ ap (λ (b : ℕ). convert binary32 (of_bits binary64 b)) n.ensures ∙ ap (convert binary32) (of_bits-to_bits binary64 c.args.x (subst T (sym c.well_formed.0.1) tt))) in
    record { value = w.0; ieee = w.1 }

pub returns-then-is_finite : goal.returns-then-is_finite
returns-then-is_finite c =
    let w = both _ _ (c.pack.ensures ∙ sym (converted _ _ _ 1074 c.unpack64-p.ensures.value)) in
    record { value = w.0; ieee = w.1 }

pub returns-then-x : goal.returns-then-x
unfolding div of_bits convert
returns-then-x c =
    let w = both c.args.x (inf false) (sym (ap (convert binary32) (above_inf c.args.x (tested _ _ _ c.is_finite.ensures.value c.if-is_finite.false) c.if-x.true))) in
    record { value = w.0; ieee = w.1 }

pub returns-then-x-2 : goal.returns-then-x-2
unfolding div neg of_bits convert
returns-then-x-2 c =
    let w = both c.args.x (inf true) (sym (ap (convert binary32) (below_inf c.args.x (tested _ _ _ c.is_finite.ensures.value c.if-is_finite.false) c.if-x-2.true))) in
    record { value = w.0; ieee = w.1 }

pub returns-else-x-2 : goal.returns-else-x-2
unfolding div of_bits convert
returns-else-x-2 c =
    let w = both c.args.x nan (sym (ap (convert binary32) (neither_nan c.args.x (tested _ _ _ c.is_finite.ensures.value c.if-is_finite.false) c.if-x.false c.if-x-2.false))) in
    record { value = w.0; ieee = w.1 }
