-- The rounding of a fraction below zero is that of its size, with the sign. Over either format. Assumes nothing.
use mathlib.Core.Path.{◌≡◌, refl, sym, ap, ◌∙◌}
use mathlib.Core.Bool.{Bool, true, false, cond}
use Prim.Native.Nat.{ℕ, zero, suc, ◌+◌, ◌*◌, ◌^◌}
use lib.Dec.{ltb}
use lib.Ieee.{Float, inf, Format, prec, low, emax, odd, units, round, neg}
use lib.Ieee.Fits.{round_is}
use lib.Ieee.Order.{drop, kept}

neg_odd : (d q k l : ℕ) → neg (odd d false q k l) ≡ odd d true q k l
unfolding neg odd
neg_odd d zero k l = refl
neg_odd d (suc q) k l = refl

neg_cond : (b : Bool) (x y x' y' : Float) → neg x ≡ x' → neg y ≡ y' → neg (cond b x y) ≡ cond b x' y'
neg_cond true x y x' y' e f = e
neg_cond false x y x' y' e f = f

neg_inf : neg (inf false) ≡ inf true
unfolding neg
neg_inf = refl

neg_units : (f : Format) (q k : ℕ) → neg (units f false q k) ≡ units f true q k
unfolding units
neg_units f q k = neg_cond (ltb (q * 2 ^ k) (2 ^ (low f + suc (emax f)))) (odd (suc (prec f)) false q k (low f)) (inf false) (odd (suc (prec f)) true q k (low f)) (inf true) (neg_odd (suc (prec f)) q k (low f)) neg_inf

pub neg_round : (f : Format) (a c : ℕ) → neg (round f false a c) ≡ round f true a c
neg_round f a c = ap neg (round_is f false a c) ∙ neg_units f (kept (prec f) (a * 2 ^ low f) c) (drop (prec f) (a * 2 ^ low f) c) ∙ sym (round_is f true a c)
