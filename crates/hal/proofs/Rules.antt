-- The rules of specs/Rules.antt hold. Assumes nothing.
use mathlib.Core.Path.{◌≡◌, refl, sym, ap, ◌∙◌, subst}
use mathlib.Core.Bool.{Bool, true, false, ◌&&◌, cond}
use Prim.Native.Nat.{ℕ, ◌+◌, ◌-◌, ◌*◌, ◌^◌, ◌≤◌, ◌<◌}
use native.Mathlib.Nat.{mul-pos}
use native.Mathlib.Numerals.{add-one}
use native.Mathlib.Omega.{arith}
use lib.IntN.{pos}
use lib.ListN.{length}
use lib.Dec.{T, ltb→lt, lt→ltb}
use lib.Ieee.{Float, nan, inf, fin, binary32, binary64, up, down, lt, le, mul, add, round, to_unsigned, of_int, of_bits, fits}
use lib.Ieee.Exact.{HasValue}
use lib.Ieee.Fits.{cond-fits, nan-fits, mul-fits, up_pos}
use lib.Ieee.Positive.{positive, between}
use Rattle.ieee_laws.specs.Sign.{Same}
use Rattle.ieee_laws.proofs.Turned.{le_turned, add_turned, mul_turned}
use Rattle.ieee_laws.proofs.TurnedOps.{same, to_unsigned_same}
use Rattle.ieee.specs.Numbers.{nought, one, two, four}
use Rattle.hal.specs.Numbers.{minus32}
use Rattle.hal.specs.Powers.{powers, entry_of}
use Rattle.hal.specs.Exp.{scaled_of, power_of, fixed_of, in_up, up_start, up_rate, up_field, exp2_of, in_down, down_start, down_rate, down_field, exp_of}
use Rattle.hal.specs.Rules.{In, TableRule, Exp2Rule, ExpRule}
use Rattle.hal.proofs.Entries.{entry_rule}
use Rattle.hal.proofs.Range.{Within, ge_of, le_of}
use Rattle.hal.proofs.ExpLaws.{entry_after, exp2_between, exp2_at, entry_value, exp2_within, exp_within, exp_least, exp_at_zero}

-- ---- the named numbers are what their pages say
pub named : (nought ≡ fin false 0 (pos 0)) × (one ≡ fin false 1 (pos 0)) × (two ≡ fin false 1 (pos 1)) × (four ≡ fin false 1 (pos 2)) × (minus32 ≡ fin true 1 (pos 5))
unfolding of_bits
named = (refl, refl, refl, refl, refl)

-- ---- where exp's exponent starts and where it ends, as docs/ROUTINES.md says
pub down_ends : (fixed_of down_start down_rate minus32 ≡ 1790483156) × (fixed_of down_start down_rate nought ≡ 47 * 2147483648)
unfolding fixed_of to_unsigned add mul round of_bits
down_ends = (refl, refl)

pub in_of : (z lo hi : Float) (a b : ℕ) → HasValue lo false a 1 → HasValue hi false b 1 → Within a b z → In lo hi z
in_of z lo hi a b h k w = record { least = ge_of z lo a b w h; most = le_of z hi a b w k }

pub otherwise : (b : Bool) (x : Float) → b ≡ false → cond b x nan ≡ nan
otherwise b x e = simp e

-- ---- the table
entries_are : length powers ≡ 256
unfolding powers
entries_are = refl

pub table_rule : TableRule
table_rule = record {
  entries = entries_are;
  floor = λ i h. subst (λ (k : ℕ). (entry_of i ^ 256 ≤ 2 ^ (i + 5888)) × (2 ^ (i + 5888) < k ^ 256)) (sym (add-one (entry_of i))) (entry_rule i h);
  after = entry_after;
}

-- ---- exp2 and exp
power_fits : (s v : ℕ) → T (fits binary32 (power_of s v))
unfolding power_of scaled_of
power_fits s v = mul-fits binary32 _ _

exp2_fits : (x : Float) → T (fits binary32 (exp2_of x))
unfolding exp2_of
exp2_fits x = cond-fits binary32 (in_up x) _ nan (power_fits up_field _) (nan-fits binary32)

exp2_outside : (x : Float) → in_up x ≡ false → exp2_of x ≡ nan
unfolding exp2_of
exp2_outside x e = otherwise (in_up x) _ e

pub exp2_rule : Exp2Rule
unfolding of_bits
exp2_rule = record {
  between = λ x t. let p = exp2_between x t in record { least = p.0; most = p.1 };
  at = exp2_at;
  scaled = entry_value;
  within = λ x t. in_of (exp2_of x) one four 1 4 (refl, refl) (refl, refl) (exp2_within x t);
  outside = exp2_outside;
  held = exp2_fits;
}

exp_fits : (x : Float) → T (fits binary32 (exp_of x))
unfolding exp_of
exp_fits x = cond-fits binary32 (in_down x) _ nan (power_fits down_field _) (nan-fits binary32)

exp_outside : (x : Float) → in_down x ≡ false → exp_of x ≡ nan
unfolding exp_of
exp_outside x e = otherwise (in_down x) _ e

-- 2 ^ -47
least_above : T (positive (scaled_of 8388608 57))
unfolding scaled_of mul round of_int of_bits
least_above = tt

above_zero : (z : Float) → T (positive z) → T (lt nought z)
unfolding lt of_bits
above_zero nan t = t
above_zero (inf s) t = absurd t
above_zero (fin true m e) t = absurd t
above_zero (fin false m e) t = lt→ltb (0 * 1 * down e) (m * up e * 1) (let p : 0 < m * up e = mul-pos (ltb→lt 0 m t) (up_pos e) in omega arith)

pub exp_rule : ExpRule
unfolding of_bits
exp_rule = record {
  within = λ x t. in_of (exp_of x) nought one 0 1 (refl, refl) (refl, refl) (exp_within x t);
  zero = exp_at_zero;
  above = λ x t. above_zero (exp_of x) (between (scaled_of 8388608 57) (exp_of x) one least_above tt (exp_least x t) (le_of (exp_of x) one 0 1 (exp_within x t) (refl, refl)));
  outside = exp_outside;
  held = exp_fits;
}

-- ---- the sign of a zero is free: where two numbers are the same, so is exp2 of them
same_range : {x y : Float} → Same x y → in_up y ≡ in_up x
same_range {x} {y} s = ap (λ (b : Bool). b && le y two) (le_turned (same nought) s) ∙ ap (λ (b : Bool). le nought x && b) (le_turned s (same two))

pub exp2_same : {x y : Float} → Same x y → exp2_of y ≡ exp2_of x
unfolding exp2_of fixed_of
exp2_same {x} {y} s =
    ap (λ (b : Bool). cond b (power_of up_field (fixed_of up_start up_rate y)) nan) (same_range s)
    ∙ ap (λ (n : ℕ). cond (in_up x) (power_of up_field (n - 4503599627370496)) nan) (to_unsigned_same 64 (add_turned binary64 (same up_start) (mul_turned binary64 s (same up_rate))))
