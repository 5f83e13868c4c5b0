-- `length` meets its contract: the zeros, the root of the pattern that the short path gives, or the two general paths. Assumes nothing.
use Rattle.std.proofs.Common.{◌≡◌, ℕ, ◌<◌, ◌≤◌, Bool, true, false, T, pos, sym, refl, ap, ◌∙◌, subst, ap₂, lt_of_lt_of_le, lit≤, arith}
use lib.Ieee.{Float, fin, binary32, binary64, mul, of_bits}
use Rattle.ieee.specs.Root.{sqrt}
use Rattle.ieee.specs.Fused.{fma, convert}
use Rattle.ieee.specs.Parts.{RoundsOnce, narrow_bits}
use Rattle.ieee.proofs.Equal.{zero_of}
use Rattle.ieee.proofs.Doubled.{plain_normal, plain_is}
use Rattle.ieee_length.proofs.length.Goals as goal

-- the zeros
zeros_at : (s t : Bool) → of_bits binary32 0 ≡ sqrt binary32 (fma binary32 (fin s 0 (pos 0)) (fin s 0 (pos 0)) (mul binary32 (fin t 0 (pos 0)) (fin t 0 (pos 0))))
unfolding of_bits sqrt fma mul
zeros_at true true = refl
zeros_at true false = refl
zeros_at false true = refl
zeros_at false false = refl

zeros : (x y : Float) → ((s : Bool) × (x ≡ fin s 0 (pos 0))) → ((t : Bool) × (y ≡ fin t 0 (pos 0))) → of_bits binary32 0 ≡ sqrt binary32 (fma binary32 x x (mul binary32 y y))
zeros x y (s, e) (t, g) = zeros_at s t ∙ sym (ap₂ (λ (a b : Float). sqrt binary32 (fma binary32 a a (mul binary32 b b))) e g)

-- the root of what the short path gives
root_of_lem : (n b : ℕ) (r v : Float) → r ≡ sqrt binary32 (of_bits binary32 b) → b ≡ narrow_bits n → RoundsOnce n → n < 5183643170566569984 → convert binary32 (of_bits binary64 n) ≡ v → r ≡ sqrt binary32 v
root_of_lem n b r v e f k h g = e ∙ ap (λ (x : ℕ). sqrt binary32 (of_bits binary32 x)) f ∙ ap (sqrt binary32) (plain_is n k (lt_of_lt_of_le h (lit≤ tt)) ∙ g)

pub returns-then-y : goal.returns-then-y
returns-then-y c =
    zeros c.args.x c.args.y (zero_of c.args.x (subst T (sym c.well_formed.0.1) tt) c.if-x.true) (zero_of c.args.y (subst T (sym c.well_formed.1.0.1) tt) c.if-y.true)

pub narrow_bits-requires : goal.narrow_bits-requires
narrow_bits-requires c = c.in-Some.ensures.once

pub normal_root-requires : goal.normal_root-requires
normal_root-requires c =
    subst (λ (b : ℕ). (8388608 ≤ b) × (b < 2139095040)) (sym c.narrow_bits.ensures) (plain_normal c.in-Some.n c.in-Some.ensures.once (omega arith))

pub returns-in-Some : goal.returns-in-Some
returns-in-Some c =
    root_of_lem c.in-Some.n _ _ _ c.normal_root.ensures c.narrow_bits.ensures c.in-Some.ensures.once (omega arith) c.in-Some.ensures.right

pub returns-in_default : goal.returns-in_default
returns-in_default c = c.root_general.ensures ∙ ap (sqrt binary32) c.fma_general.ensures
