use mathlib.Core.Path.{sym, subst}
use mathlib.Core.Bool.{not}
use lib.Dec.{T}
use lib.Ieee.{binary32, binary64, fits, is_nan}
use lib.Ieee.Fits.{and_i, fits_widens}
use Rattle.packing.proofs.Fields.{finite_no_nan}
use Rattle.ieee.proofs.Doubled.{split32, wide_is}
use Rattle.ieee_fused.proofs.wide_fma.Goals as goal
use Rattle.ieee_fused.proofs.wide_fma.Goals.{Start}

held_a : (c : Start) → T (fits binary32 c.args.a)
held_a c = subst T (sym c.well_formed.0.1) tt

held_b : (c : Start) → T (fits binary32 c.args.b)
held_b c = subst T (sym c.well_formed.1.0.1) tt

held_c : (c : Start) → T (fits binary32 c.args.c)
held_c c = subst T (sym c.well_formed.1.1.0.1) tt

pub float_to_float-p : goal.float_to_float-p
float_to_float-p c = let s = c.before.before in and_i (fits binary64 s.args.a) (not (is_nan s.args.a)) (fits_widens s.args.a (held_a s)) (finite_no_nan s.args.a s.requires.0)

pub float_to_float-p-2 : goal.float_to_float-p-2
float_to_float-p-2 c = let s = c.before.before.before in and_i (fits binary64 s.args.b) (not (is_nan s.args.b)) (fits_widens s.args.b (held_b s)) (finite_no_nan s.args.b s.requires.1)

pub float_to_float-result : goal.float_to_float-result
float_to_float-result c = let s = c.before.before.before in and_i (fits binary64 s.args.c) (not (is_nan s.args.c)) (fits_widens s.args.c (held_c s)) (finite_no_nan s.args.c s.requires.2)

pub returns : goal.returns
returns c = let s = c.before.before.before in wide_is s.args.a s.args.b s.args.c (split32 s.args.a (held_a s) s.requires.0) (split32 s.args.b (held_b s) s.requires.1) (split32 s.args.c (held_c s) s.requires.2)
