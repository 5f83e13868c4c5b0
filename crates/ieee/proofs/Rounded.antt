-- `round` is roundTiesToEven, for both formats and every fraction. Assumes nothing.
use mathlib.Core.Path.{◌≡◌, refl, sym, ap, ◌∙◌, subst}
use mathlib.Core.Logic.{inl, inr}
use mathlib.Core.Bool.{Bool}
use Prim.Native.Nat.{ℕ, suc, ◌+◌, ◌-◌, ◌*◌, ◌^◌, ◌≤◌, ◌<◌}
use native.Mathlib.Nat.{mul_comm, mul_left_comm, pow-suc}
use native.Mathlib.Omega.{arith}
use lib.Dec.{ltb, lit<}
use lib.Arith.{le→nltb}
use lib.Pow.{pow-add, pow_pos}
use lib.Ieee.{Float, nan, inf, fin, Format, binary32, binary64, prec, emax, low, odd, units, round}
use lib.Ieee.Fits.{two, round_is, round-fits}
use lib.Ieee.Bits.{cond_no}
use lib.Ieee.Exact.{HasValue, units_val}
use lib.Ieee.Order.{drop, kept}
use Rattle.lists.proofs.Naturals.{le_or_lt}
use Rattle.ieee.specs.Rounding.{Size, Signed, Within, Beyond, Nearest, RoundTiesToEven}
use Rattle.ieee.proofs.Ties.{significant, least_far, tied_even}
use Rattle.ieee.proofs.Range.{below_units, above_units, place_le, in_range, out_of_range}

-- ---- the two formats, in numbers: the largest place K is 2 * emax - 1
abbrev pub last : Format → ℕ
last f = 2 * emax f - 1

reach : (f : Format) → prec f + last f ≡ low f + suc (emax f)
reach binary32 = refl
reach binary64 = refl

pub emax_pos : (f : Format) → 0 < emax f
emax_pos binary32 = lit< tt
emax_pos binary64 = lit< tt

pub top_is : (f : Format) → 2 ^ (low f + suc (emax f)) ≡ 2 ^ prec f * 2 ^ last f
top_is f = ap (λ (x : ℕ). 2 ^ x) (sym (reach f)) ∙ pow-add 2 (prec f) (last f)

scale_is : (f : Format) → 2 ^ last f * 2 ^ prec f ≡ 2 ^ emax f * (2 ^ low f * 2)
scale_is f =
    mul_comm (2 ^ last f) (2 ^ prec f) ∙ sym (top_is f) ∙ pow-add 2 (low f) (suc (emax f))
    ∙ ap (λ (x : ℕ). 2 ^ low f * x) (pow-suc 2 (emax f)) ∙ mul_left_comm (2 ^ low f) (2 ^ emax f) 2

units_out : (f : Format) (s : Bool) (q k : ℕ) → 2 ^ (low f + suc (emax f)) ≤ q * 2 ^ k → units f s q k ≡ inf s
unfolding units
units_out f s q k h = cond_no (ltb (q * 2 ^ k) (2 ^ (low f + suc (emax f)))) (odd (suc (prec f)) s q k (low f)) (inf s) (le→nltb (q * 2 ^ k) (2 ^ (low f + suc (emax f))) h)

pub size_of : (f : Format) (r : Float) (s : Bool) (a : ℕ) → HasValue r s a (2 ^ low f) → Size f r a
size_of f nan s a h = absurd h
size_of f (inf t) s a h = absurd h
size_of f (fin t m e) s a h = h.1

pub sign_of : (r : Float) (s : Bool) (a c : ℕ) → HasValue r s a c → Signed r s
sign_of nan s a c h = absurd h
sign_of (inf t) s a c h = absurd h
sign_of (fin t m e) s a c h = h.0

module _ (f : Format) (s : Bool) (n d : ℕ) (D : 0 < d) where
  abbrev N : ℕ
  N = n * 2 ^ low f

  abbrev R : ℕ
  R = kept (prec f) N d * 2 ^ drop (prec f) N d

  value : R < 2 ^ prec f * 2 ^ last f → HasValue (round f s n d) s R (2 ^ low f)
  value h = subst (λ (z : Float). HasValue z s R (2 ^ low f)) (sym (round_is f s n d)) (units_val f s (kept (prec f) N d) (drop (prec f) N d) (subst (λ (x : ℕ). R < x) (sym (top_is f)) h))

  infinite : 2 ^ prec f * 2 ^ last f ≤ R → round f s n d ≡ inf s
  infinite h = round_is f s n d ∙ units_out f s (kept (prec f) N d) (drop (prec f) N d) (subst (λ (x : ℕ). x ≤ R) (sym (top_is f)) h)

  in_units : Within f n d → R < 2 ^ prec f * 2 ^ last f
  in_units h = in_range (prec f) N d (last f) (two f) D (below_units n (2 ^ low f) (2 ^ prec f) (2 ^ emax f) (2 ^ last f) (2 ^ suc (prec f) - 1) d (pow_pos (low f)) (scale_is f) h)

  over_units : Beyond f n d → 2 ^ prec f * 2 ^ last f ≤ R
  over_units h = out_of_range (prec f) N d (last f) (two f) D (above_units n (2 ^ low f) (2 ^ prec f) (2 ^ emax f) (2 ^ last f) (2 ^ suc (prec f) - 1) d (pow_pos (prec f)) (scale_is f) h)

  signed : Signed (round f s n d) s
  signed = elim (le_or_lt (2 ^ prec f * 2 ^ last f) R) [
    | inl h ↦ subst (λ (r : Float). Signed r s) (sym (infinite h)) refl
    | inr h ↦ sign_of (round f s n d) s R (2 ^ low f) (value h)
  ]

  nearest : Within f n d → Nearest f n d (round f s n d)
  nearest h =
      let w = significant (prec f) N d (two f) D in
      let l = in_units h in
      let e = w.is in
      record {
        c = w.c;
        k = w.j;
        significand = record {
          number = record { digits = w.digits; place = last_lt w.j (emax f) (emax_pos f) (place_le (prec f) N d (last f) (two f) D w.c w.j w.full (subst (λ (x : ℕ). x < 2 ^ prec f * 2 ^ last f) (sym e) l)) };
          full = w.full;
        };
        size = subst (λ (x : ℕ). Size f (round f s n d) x) (sym e) (size_of f (round f s n d) s R (value l));
        nearest = λ y j u. rw e (least_far (prec f) N d (two f) D y j u.digits);
        even = λ y j u ne t. w.even (tied_even (prec f) N d (two f) D y j u.digits (rw e at ne) (rw e at t));
      }
    where
      last_lt : (j m : ℕ) → 0 < m → j ≤ 2 * m - 1 → j < 2 * m
      last_lt j m h l = omega arith

  pub round_ties : RoundTiesToEven f s n d (round f s n d)
  round_ties = record { held = round-fits f s n d; sign = signed; within = nearest; beyond = λ h. infinite (over_units h) }
