-- `signed_f32` meets its contract: a cast, and the sign before its bits. Assumes nothing.
use mathlib.Core.Path.{◌≡◌, refl, sym, ap, ◌∙◌, subst}
use mathlib.Core.Bool.{false, not, cond}
use Prim.Native.Nat.{ℕ, ◌+◌, ◌^◌, ◌≤◌}
use lib.Dec.{T, le→leb}
use lib.IntN.{pos}
use lib.Ieee.{Float, binary32, round, of_int, in_float, is_nan, top, of_bits, to_bits}
use Rattle.ieee.proofs.Doubled.{round_no_nan}
use Rattle.ieee.proofs.Patterns.{round_low, round_signed}
use Rattle.ieee_whole.proofs.signed_f32.Goals as goal

inside : (a : ℕ) → a ≤ 2 ^ 24 → T (in_float binary32 (pos a))
unfolding in_float
inside a h = le→leb a (2 ^ 24) h

is_round : (k : ℕ) → of_int binary32 (pos k) ≡ round binary32 false k 1
unfolding of_int
is_round k = refl

pub int_to_float-k : goal.int_to_float-k
int_to_float-k c = inside c.args.k c.requires

pub float_to_bits-k : goal.float_to_bits-k
float_to_bits-k c = subst (λ (v : Float). T (not (is_nan v))) (sym (is_round c.args.k)) (round_no_nan binary32 false c.args.k 1)

pub with_sign-requires : goal.with_sign-requires
with_sign-requires c = subst (λ (v : Float). to_bits binary32 v ≤ 2139095040) (sym (is_round c.args.k)) (round_low binary32 c.args.k 1)

pub returns : goal.returns
returns c =
    c.with_sign.ensures
    ∙ ap (λ (v : Float). of_bits binary32 (cond c.args.s (top binary32) 0 + to_bits binary32 v)) (is_round c.args.k)
    ∙ round_signed binary32 c.args.k 1 c.args.s
