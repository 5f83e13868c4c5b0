-- `sqrt` meets its contract: a normal number by its pattern, and any other by the general path. Assumes nothing.
use mathlib.Core.Path.{◌≡◌, sym, ap, ◌∙◌, subst}
use lib.Dec.{T}
use lib.Ieee.{Float, binary32, fits}
use lib.Ieee.Bits.{of_bits-to_bits}
use Rattle.ieee.specs.Root.{sqrt}
use Rattle.ieee.specs.Operations.{IsRoot}
use Rattle.packing.proofs.Plain.{above_no_nan}
use Rattle.ieee_root.proofs.Midpoints.{root_ieee}
use Rattle.ieee_root.proofs.sqrt.Goals as goal
use Rattle.ieee_root.proofs.sqrt.Goals.{Start}

held : (c : Start) → T (fits binary32 c.args.x)
held c = subst T (sym c.well_formed.0.1) tt

-- both clauses from the first
both : (x r : Float) → T (fits binary32 x) → r ≡ sqrt binary32 x → (r ≡ sqrt binary32 x) × IsRoot binary32 x r
both x r h e = (e, subst (IsRoot binary32 x) (sym e) (root_ieee x h))

pub float_to_bits-b : goal.float_to_bits-b
float_to_bits-b c = above_no_nan _ c.args.x c.if-x.true

pub returns-then-b-lt2139095040 : goal.returns-then-b-lt2139095040
returns-then-b-lt2139095040 c =
    let w = let s = c.before.before.before.before in both s.args.x c.normal_root.result (held s) (c.normal_root.ensures ∙ ap (sqrt binary32) (of_bits-to_bits binary32 s.args.x (held s))) in
    record { value = w.0; ieee = w.1 }

pub returns : goal.returns
returns c =
    let w = let s = c.before.before in both s.args.x c.root_general.result (held s) c.root_general.ensures in
    record { value = w.0; ieee = w.1 }
