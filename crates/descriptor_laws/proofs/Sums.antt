-- What a place holds after a share was added to it. Assumes nothing.
use Prim.Native.Nat.{ℕ, ◌+◌, ◌-◌, ◌*◌, ◌<◌}
use mathlib.Core.Path.{◌≡◌, refl, subst}
use mathlib.Core.Bool.{Bool, true, false, false≢true}
use native.Mathlib.Nat.{zero-mul}
use native.Mathlib.Omega.{arith}
use borrow.Author.Tests.{le-ltb}
use lib.Dec.{ltb}
use lib.IntN.{ℤ, pos}
use lib.Ieee.{Float, nan, inf, fin, binary32, up, down, sum, of_bits, add, le}
use lib.Ieee.Fits.{down_pos}
use lib.Ieee.Scale.{finite}
use Rattle.ieee.specs.F32.{◌⊕◌, abs_of}
use Rattle.ieee.specs.Numbers.{nought}
use Rattle.ieee.proofs.SignedParts.{round_zero}
use Rattle.ieee_laws.proofs.Order.{le_fin, le_number, Marked, endless, ended, round_marked}
use Rattle.ieee_laws.proofs.Monotone.{nil, add_le}
use Rattle.ieee_laws.proofs.Bounds.{Bounds, bounds_finite, marked_nonneg}
use Rattle.descriptor_laws.specs.ValuesRules.{most, Held}
use Rattle.descriptor_laws.proofs.Signs.{abs_marked}
use Rattle.descriptor_laws.specs.GridRules.{most_share}

-- a zero, of either sign, has no digits
no_digits : (n : ℕ) (d : ℤ) → le nil (fin true n d) ≡ true → n * up d ≡ 0
no_digits n d h = let g = (le_fin false 0 (pos 0) true n d h).cross in omega (arith, zero-mul (down d))

-- ---- from no minus sign to none

sum_right : (a b c : ℕ) → b ≡ 0 → Marked false (sum binary32 false a true b c)
unfolding sum
sum_right a b c z =
    let l : ltb a b ≡ false = le-ltb a b (omega arith) in
    rw l (round_marked binary32 false (a - b) c)

sum_marked : {x : Float} (a : Float) → Marked false x → finite a ≡ true → le nil a ≡ true → Marked false (x ⊕ a)
unfolding add
sum_marked nan x f h = absurd (false≢true f)
sum_marked (inf t) x f h = absurd (false≢true f)
sum_marked (fin t n d) endless f h = endless
sum_marked (fin false n d) (ended {m = m} {e = e}) f h = unfold sum in round_marked binary32 false (m * up e * down d + n * up d * down e) (down e * down d)
sum_marked (fin true n d) (ended {m = m} {e = e}) f h =
    sum_right (m * up e * down d) (n * up d * down e) (down e * down d) (rw (no_digits n d h) (zero-mul (down e)))

marked_abs : {x : Float} → Marked false x → abs_of x ≡ x
unfolding abs_of
marked_abs endless = refl
marked_abs ended = refl

-- ---- 2 ^ 46 + 2 ^ 22 is rounded to 2 ^ 46: however many shares are added, no place rises above it

ends : (finite nil ≡ true) × ((finite most ≡ true) × ((finite most_share ≡ true) × (most ⊕ most_share ≡ most)))
unfolding of_bits add
ends = (refl, (refl, (refl, refl)))

pub held_add : (x a : Float) → Bounds nil most_share a → Held x → Held (x ⊕ a)
held_add x a b h =
    let m = abs_marked x h.plain (le_number x most h.small).0 in
    let u : Bounds nil most x = record { from = ends.0; to = ends.1.0; low = marked_nonneg m; high = h.small } in
    record {
      plain = marked_abs (sum_marked a m (bounds_finite b) b.low);
      small = subst (λ (y : Float). le (x ⊕ a) y ≡ true) ends.1.1.1 (add_le binary32 x most a most_share (bounds_finite u) ends.1.0 (bounds_finite b) ends.1.1.0 h.small b.high);
    }

pub held_none : Held nought
unfolding of_bits abs_of le
held_none = record { plain = refl; small = refl }

-- ---- nothing added to nothing

zero_of : (t : Bool) (n : ℕ) (d : ℤ) → le nil (fin t n d) ≡ true → le (fin t n d) nil ≡ true → n * up d ≡ 0
zero_of true n d h k = no_digits n d h
zero_of false n d h k = let g = (le_fin false n d false 0 (pos 0) k).cross in omega (arith, zero-mul (down d))

sum_none : (t : Bool) (b c : ℕ) → 0 < c → b ≡ 0 → sum binary32 false 0 t b c ≡ nil
unfolding sum
sum_none true b c C z =
    let l : ltb 0 b ≡ false = le-ltb 0 b (omega arith) in
    rw l (round_zero binary32 false (0 - b) c C (omega arith))
sum_none false b c C z = round_zero binary32 false (0 + b) c C (omega arith)

none_plus : (a : Float) → finite a ≡ true → le nil a ≡ true → le a nil ≡ true → nil ⊕ a ≡ nil
unfolding add
none_plus nan f h k = absurd (false≢true f)
none_plus (inf s) f h k = absurd (false≢true f)
none_plus (fin t n d) f h k =
    let z = zero_of t n d h k in
    rw (zero-mul (down d)) (sum_none t (n * up d * 1) (1 * down d) (let l = down_pos d in omega arith) (omega arith))

pub none_add : (x a : Float) → Bounds nil nil a → x ≡ nought → x ⊕ a ≡ nought
unfolding of_bits
none_add x a b e = rw e (none_plus a (bounds_finite b) b.low b.high)
