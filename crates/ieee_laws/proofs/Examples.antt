-- The examples, by computation: the answer is `round`'s and `fma`'s, and there is no other. Assumes nothing.
use Rattle.std.proofs.Common.{◌≡◌, ℕ, ◌-◌, ◌^◌, ◌<◌, Bool, true, false, refl, subst, lit<}
use lib.Ieee.{Float, Format, binary32, binary64, round, sum, add, mul}
use Rattle.ieee.specs.Rounding.{RoundTiesToEven}
use Rattle.ieee.specs.Fused.{fma}
use Rattle.ieee.specs.Operations.{IsFma}
use Rattle.ieee.proofs.Rounded.{round_ties}
use Rattle.ieee.proofs.Operations.{fma_ieee}
use Rattle.ieee_laws.specs.Examples.{Rounds, Roundings, Fuses, Fusings}
use Rattle.ieee_laws.proofs.Laws.{one_result}

rounds : (f : Format) (s : Bool) (n d : ℕ) (r : Float) → 0 < d → round f s n d ≡ r → Rounds f s n d r
rounds f s n d r D e =
    let h = subst (RoundTiesToEven f s n d) e (round_ties f s n d D) in
    record { is = h; only = λ t u. (one_result f).rounding s n d t r D u h }

pub roundings : Roundings
unfolding round
roundings =
    record {
      tenth = rounds binary32 false 1 10 _ (lit< tt) refl;
      tenth_64 = rounds binary64 false 1 10 _ (lit< tt) refl;
      tie_down = rounds binary32 false 16777217 1 _ (lit< tt) refl;
      tie_up = rounds binary32 true 16777219 1 _ (lit< tt) refl;
      least_half = rounds binary32 true 1 (2 ^ 150) _ (lit< tt) refl;
      least_more = rounds binary32 true 3 (2 ^ 151) _ (lit< tt) refl;
      threshold_at = rounds binary32 true (2 ^ 128 - 2 ^ 103) 1 _ (lit< tt) refl;
      threshold_under = rounds binary32 false (2 ^ 128 - 2 ^ 103 - 1) 1 _ (lit< tt) refl;
    }

fuses : (x y z r : Float) → fma binary32 x y z ≡ r → Fuses x y z r
fuses x y z r e =
    let h = subst (IsFma binary32 x y z) e (fma_ieee binary32 x y z) in
    record { is = h; only = λ t u. (one_result binary32).fma x y z t r u h }

pub fusings : Fusings
unfolding fma sum add mul round
fusings =
    record {
      cancelled = fuses _ _ _ _ refl;
      minus_zeros = fuses _ _ _ _ refl;
      once = fuses _ _ _ _ refl;
      no_overflow = fuses _ _ _ _ refl;
      zero_infinity = fuses _ _ _ _ refl;
      unlike_infinities = fuses _ _ _ _ refl;
      like_infinities = fuses _ _ _ _ refl;
    }
