-- A value is written in one way, so rounding leaves the format's own values as they are. Assumes nothing.
use Prim.Native.Nat.{ℕ, zero, suc, ◌+◌, ◌-◌, ◌*◌, ◌/◌, ◌^◌, ◌<◌}
use mathlib.Core.Path.{◌≡◌, refl, sym, ap, subst, ◌∙◌}
use mathlib.Core.Bool.{Bool, cond}
use native.Mathlib.Nat.{zero-mul, mul-one, one-mul, pow-suc, mul_assoc, mul_comm, mul_right_comm, le_of_eq, lt_of_lt_of_le, mul-lt-mul_of_pos_right, lt_of_mul-lt-mul_right}
use native.Mathlib.Omega.{arith}
use lib.Dec.{T, eqb→eq}
use lib.Pow.{pow-add, pow_pos}
use lib.IntN.{ℤ, pos, negsuc}
use lib.Ieee.{Float, nan, inf, fin, Format, prec, emax, low, up, down, round, fits, to_bits, of_bits, size, hid, top}
use lib.Ieee.Fits.{down_pos, round-fits}
use lib.Ieee.Bits.{of_bits-to_bits}
use lib.Ieee.Exact.{HasValue, round_exact}
use lib.Ieee.Nearest.{div_same}
use Rattle.ieee.proofs.SignedParts.{round_zero}
use Rattle.ieee.proofs.InUnits.{in_units, top_lt}

bits_at : (f : Format) (s : Bool) (m : ℕ) (e : ℤ) (n : ℕ) (d : ℤ) → m * up e * down d ≡ n * up d * down e → to_bits f (fin s m e) ≡ to_bits f (fin s n d)
unfolding to_bits
bits_at f s m e n d h =
    let q : m * up e * 2 ^ low f / down e ≡ n * up d * 2 ^ low f / down d =
    div_same (m * up e * 2 ^ low f) (down e) (n * up d * 2 ^ low f) (down d) (down_pos e) (down_pos d)
    (mul_right_comm (m * up e) (2 ^ low f) (down d) ∙ ap (λ (z : ℕ). z * 2 ^ low f) h ∙ mul_right_comm (n * up d) (down e) (2 ^ low f)) in
    ap (λ (z : ℕ). cond s (top f) 0 + (size z - prec f) * hid f + z / 2 ^ (size z - prec f)) q

pub one_writing : (f : Format) (s : Bool) (m : ℕ) (e : ℤ) (n : ℕ) (d : ℤ) → T (fits f (fin s m e)) → T (fits f (fin s n d)) → m * up e * down d ≡ n * up d * down e → fin s m e ≡ fin s n d
one_writing f s m e n d h k q = sym (of_bits-to_bits f (fin s m e) h) ∙ ap (of_bits f) (bits_at f s m e n d q) ∙ of_bits-to_bits f (fin s n d) k

-- a float that fits and has a fraction's value and sign
at_value : (f : Format) (x : Float) (s : Bool) (m : ℕ) (e : ℤ) → T (fits f x) → T (fits f (fin s m e)) → HasValue x s (m * up e) (down e) → x ≡ fin s m e
at_value f nan s m e h k v = absurd v
at_value f (inf t) s m e h k v = absurd v
at_value f (fin t n d) s m e h k v =
    let q = v.0 in
    rw q (one_writing f s n d m e (subst (λ (u : Bool). T (fits f (fin u n d))) q h) k v.1)

-- in units of 1 / l it is below the first power of two that overflows
under_top : (l t y x p : ℕ) → 0 < l → x < t * p → x * l ≡ y * p → y < l * t
under_top l t y x p L h e =
    lt_of_mul-lt-mul_right p (subst (λ (z : ℕ). z < l * t * p) e (lt_of_lt_of_le (mul-lt-mul_of_pos_right h L) (le_of_eq (mul_comm (t * p) l ∙ sym (mul_assoc l t p)))))

pow_one : (k : ℕ) → 2 ^ k ≡ 1 → k ≡ 0
pow_one zero h = refl
pow_one (suc k) h = let p = pow_pos k in let q = pow-suc 2 k in absurd (omega arith)

zero_place : (e : ℤ) → up e * down e ≡ 1 → e ≡ pos 0
zero_place (pos k) h = ap pos (pow_one k (sym (mul-one (2 ^ k)) ∙ h))
zero_place (negsuc k) h = absurd (none k (pow_one (suc k) (sym (one-mul (2 ^ suc k)) ∙ h)))
  where
    none : (k : ℕ) → suc k ≡ 0 → ⊥
    none k h = omega arith

pub zero_held : (f : Format) (s : Bool) (e : ℤ) → T (fits f (fin s 0 e)) → e ≡ pos 0
unfolding fits
zero_held f s e h = zero_place e (eqb→eq (up e * down e) 1 h)

pub round_held : (f : Format) (s : Bool) (m : ℕ) (e : ℤ) → T (fits f (fin s m e)) → round f s (m * up e) (down e) ≡ fin s m e
round_held f s zero e h =
    round_zero f s (0 * up e) (down e) (down_pos e) (zero-mul (up e)) ∙ ap (λ (z : ℤ). fin s 0 z) (sym (zero_held f s e h))
round_held f s (suc m) e h =
    let u = in_units f s (suc m) e h in
    let b : u.0 * 2 ^ u.1 < 2 ^ (low f + suc (emax f)) =
    rw (pow-add 2 (low f) (suc (emax f))) (under_top (2 ^ low f) (2 ^ suc (emax f)) (u.0 * 2 ^ u.1) (suc m * up e) (down e) (pow_pos (low f)) (top_lt f s m e h) u.3) in
    at_value f (round f s (suc m * up e) (down e)) s (suc m) e (round-fits f s (suc m * up e) (down e)) h
    (round_exact f s (suc m * up e) (down e) u.0 u.1 (down_pos e) u.2 b u.3)
