-- Bit patterns: which are a NaN's, and that the sign's bit is the sign. Over either format. Assumes nothing.
use mathlib.Core.Path.{◌≡◌, refl, sym, ap, ◌∙◌, subst}
use mathlib.Core.Bool.{Bool, true, false, not, cond, true≢false}
use Prim.Native.Nat.{ℕ, zero, suc, ◌+◌, ◌*◌, ◌%◌, ◌^◌, ◌≤◌, ◌<◌}
use native.Mathlib.Nat.{add-mod_left, mod-eq_of_lt, zero-add}
use native.Mathlib.Omega.{arith}
use lib.Dec.{T, ltb}
use borrow.Author.Tests.{le-ltb, ltb-false}
use lib.Ieee.{Float, nan, inf, fin, Format, prec, emax, low, top, hid, ones, odd, units, round, neg, of_bits, to_bits, nan_bits, is_nan, ne, fits}
use lib.Ieee.Bits.{is_false, nan_bits_is, nan_bits_above, of_bits-to_bits, to_bits-lt}
use lib.Ieee.Fits.{round_is, round-fits}
use lib.Ieee.Order.{drop, kept}
use lib.Ieee.Compare.{differs_from_itself, nan_differs}
use Rattle.ieee.specs.F32.{abs_of}
use Rattle.ieee.proofs.Doubled.{round_no_nan}
use Rattle.ieee.proofs.Negated.{neg_round}

pub of_number : (f : Format) (b : ℕ) → b % top f ≤ ones f * hid f → T (not (nan_bits f b))
of_number f b h = subst (λ (z : Bool). T (not z)) (sym (nan_bits_above f b ∙ le-ltb _ _ h)) tt

-- only a NaN differs from itself
pub is_number : (x : Float) → ne x x ≡ false → T (not (is_nan x))
unfolding is_nan
is_number nan h = absurd (true≢false (sym nan_differs ∙ h))
is_number (inf s) h = tt
is_number (fin s m e) h = tt

pub is_nan_lem : (x : Float) → ne x x ≡ true → x ≡ nan
is_nan_lem x h = differs_from_itself x (subst T (sym h) tt)

-- a number's pattern without the sign is no more than the infinity's
pub number_low : (f : Format) (x : Float) → T (fits f x) → T (not (is_nan x)) → to_bits f x % top f ≤ ones f * hid f
number_low f x h n = ltb-false (ones f * hid f) (to_bits f x % top f) (sym (nan_bits_above f (to_bits f x)) ∙ nan_bits_is f (to_bits f x) ∙ ap is_nan (of_bits-to_bits f x h) ∙ is_false (is_nan x) n)

-- ---- the sign cleared
abs_fits : (f : Format) (x : Float) → T (fits f x) → T (fits f (abs_of x))
unfolding abs_of fits
abs_fits f nan h = h
abs_fits f (inf s) h = tt
abs_fits f (fin s zero e) h = h
abs_fits f (fin s (suc m) e) h = h

-- the sign's bit stands before the rest
plain : (c a b : ℕ) → c + a + b ≡ c + (0 + a + b)
plain c a b = omega arith

apart : (f : Format) (x : Float) → T (not (is_nan x)) → (t : Bool) × (to_bits f x ≡ cond t (top f) 0 + to_bits f (abs_of x))
unfolding abs_of to_bits is_nan
apart f nan n = absurd n
apart f (inf s) n = (s, ap (λ (a : ℕ). cond s (top f) 0 + a) (sym (zero-add (ones f * hid f))))
apart f (fin s m e) n = (s, plain (cond s (top f) 0) _ _)

-- the same value with the sign set
below : Float → Float
below nan = nan
below (inf s) = inf true
below (fin s m e) = fin true m e

below_fits : (f : Format) (x : Float) → T (fits f x) → T (fits f (below x))
unfolding below fits
below_fits f nan h = h
below_fits f (inf s) h = tt
below_fits f (fin s zero e) h = h
below_fits f (fin s (suc m) e) h = h

below_bits : (f : Format) (x : Float) → T (not (is_nan x)) → to_bits f (below x) ≡ top f + to_bits f (abs_of x)
unfolding abs_of below to_bits is_nan
below_bits f nan n = absurd n
below_bits f (inf s) n = ap (λ (a : ℕ). top f + a) (sym (zero-add (ones f * hid f)))
below_bits f (fin s m e) n = plain (top f) _ _

below_neg : (x : Float) → below (abs_of x) ≡ neg (abs_of x)
unfolding abs_of below neg
below_neg nan = refl
below_neg (inf s) = refl
below_neg (fin s m e) = refl

half : (t a b : ℕ) → a ≡ t + b → a < 2 * t → b < t
half t a b e h = omega arith

low_bits : (f : Format) (x : Float) → T (fits f x) → T (not (is_nan x)) → to_bits f (abs_of x) < top f
low_bits f x h n = half (top f) (to_bits f (below x)) (to_bits f (abs_of x)) (below_bits f x n) (to_bits-lt f (below x) (below_fits f x h))

drop_sign : (t : Bool) (c a : ℕ) → a < c → (cond t c 0 + a) % c ≡ a
drop_sign true c a h = add-mod_left c a ∙ mod-eq_of_lt h
drop_sign false c a h = ap (λ (x : ℕ). x % c) (zero-add a) ∙ mod-eq_of_lt h

pub clear_sign : (f : Format) (x : Float) → T (fits f x) → T (not (is_nan x)) → to_bits f x % top f ≡ to_bits f (abs_of x)
clear_sign f x h n = let a = apart f x n in ap (λ (b : ℕ). b % top f) a.1 ∙ drop_sign a.0 (top f) (to_bits f (abs_of x)) (low_bits f x h n)

pub clear_is : (f : Format) (x : Float) → T (fits f x) → T (not (is_nan x)) → of_bits f (to_bits f x % top f) ≡ abs_of x
clear_is f x h n = ap (of_bits f) (clear_sign f x h n) ∙ of_bits-to_bits f (abs_of x) (abs_fits f x h)

-- ---- a rounded fraction: its pattern without the sign, and the sign before it
plain_odd : (d q k l : ℕ) → abs_of (odd d false q k l) ≡ odd d false q k l
unfolding abs_of odd
plain_odd d zero k l = refl
plain_odd d (suc q) k l = refl

plain_units : (f : Format) (q k : ℕ) → abs_of (units f false q k) ≡ units f false q k
unfolding units abs_of
plain_units f q k = go (ltb (q * 2 ^ k) (2 ^ (low f + suc (emax f))))
  where
    go : (b : Bool) → abs_of (cond b (odd (suc (prec f)) false q k (low f)) (inf false)) ≡ cond b (odd (suc (prec f)) false q k (low f)) (inf false)
    go true = plain_odd (suc (prec f)) q k (low f)
    go false = refl

module _ (f : Format) (a c : ℕ) where
  abbrev v : Float
  v = round f false a c

  plain_round : abs_of v ≡ v
  plain_round = ap abs_of (round_is f false a c) ∙ plain_units f (kept (prec f) (a * 2 ^ low f) c) (drop (prec f) (a * 2 ^ low f) c) ∙ sym (round_is f false a c)

  low_part : to_bits f v % top f ≡ to_bits f v
  low_part = clear_sign f v (round-fits f false a c) (round_no_nan f false a c) ∙ ap (to_bits f) plain_round

  -- no more than the infinity's
  pub round_low : to_bits f v ≤ ones f * hid f
  round_low = subst (λ (n : ℕ). n ≤ ones f * hid f) low_part (number_low f v (round-fits f false a c) (round_no_nan f false a c))

  pub round_signed : (s : Bool) → of_bits f (cond s (top f) 0 + to_bits f v) ≡ round f s a c
  round_signed false = ap (of_bits f) (zero-add (to_bits f v)) ∙ of_bits-to_bits f v (round-fits f false a c)
  round_signed true =
      ap (of_bits f) (sym (below_bits f v (round_no_nan f false a c) ∙ ap (λ (x : Float). top f + to_bits f x) plain_round))
      ∙ of_bits-to_bits f (below v) (below_fits f v (round-fits f false a c))
      ∙ subst (λ (x : Float). below x ≡ neg x) plain_round (below_neg v)
      ∙ neg_round f a c
