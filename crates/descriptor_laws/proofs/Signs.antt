-- What has no minus sign stays so through the steps of the values, and what is rounded and held is a whole number. Assumes nothing.
use Prim.Native.Nat.{ℕ, zero, suc, ◌+◌, ◌*◌, ◌/◌, ◌^◌, ◌≤◌}
use mathlib.Core.Path.{◌≡◌, refl, sym, ◌∙◌, subst}
use mathlib.Core.Bool.{Bool, true, false, not, cond, false≢true, true≢false}
use mathlib.Core.Logic.{⊎_elim}
use native.Mathlib.Omega.{arith}
use borrow.Author.Tests.{eq-eqb, ne_eqb, leb-true, leb-false}
use lib.Dec.{T, leb}
use lib.IntN.{ℤ, pos}
use lib.Ieee.{Float, nan, inf, fin, binary32, up, down, sum, of_bits, of_int, add, mul, div, lt, le, eq, is_nan}
use lib.Ieee.Nearest.{closest}
use lib.Ieee.Scale.{finite}
use Rattle.ieee.specs.F32.{◌⊕◌, ◌⊗◌, ◌⊘◌, ◌≤ᶠ◌, ◌=ᶠ◌, fused, root_of, rounded, abs_of}
use Rattle.ieee.specs.Fused.{fma}
use Rattle.ieee.specs.Root.{halves, sqrt}
use Rattle.ieee.specs.Whole.{round_even}
use Rattle.ieee.specs.Numbers.{nought, epsilon, top_byte}
use Rattle.ieee_laws.proofs.Order.{Marked, endless, ended, round_marked, le_or_lt_float, lt_not_le, lt_le, lt_le_trans}
use Rattle.ieee_laws.proofs.Monotone.{nil, Above, above_zero, div_le_right, of_int_le}
use Rattle.bounds.specs.Bounds.{max_of, min_of, clamp_of}
use Rattle.descriptor_values.specs.Values.{clamp_ratio, factor}
use Rattle.descriptor_laws.specs.ValuesRules.{Byte}

-- finite, with no minus sign
pub data Plain : Float → Type 0 where
  plain : {m : ℕ} {e : ℤ} → Plain (fin false m e)

-- what has no minus sign and is not above a finite number
pub marked_plain : {x : Float} (y : Float) → Marked false x → finite y ≡ true → le x y ≡ true → Plain x
unfolding le
marked_plain y ended f h = plain
marked_plain nan endless f h = absurd (false≢true f)
marked_plain (inf s) endless f h = absurd (false≢true f)
marked_plain (fin s m e) endless f h = absurd (false≢true h)

pub abs_marked : (x : Float) → abs_of x ≡ x → T (not (is_nan x)) → Marked false x
unfolding abs_of is_nan
abs_marked nan e t = absurd t
abs_marked (inf s) e t = subst (Marked false) e endless
abs_marked (fin s m d) e t = subst (Marked false) e ended

-- ---- the steps

pub add_marked : {x y : Float} → Marked false x → Marked false y → Marked false (x ⊕ y)
unfolding add sum
add_marked endless endless = endless
add_marked endless ended = endless
add_marked ended endless = endless
add_marked (ended {m = m} {e = e}) (ended {m = n} {e = d}) = round_marked binary32 false (m * up e * down d + n * up d * down e) (down e * down d)

pub fused_marked : {x z : Float} → Plain x → Marked false z → Marked false (fused x x z)
unfolding fma sum
fused_marked plain endless = endless
fused_marked (plain {m = m} {e = e}) (ended {m = n} {e = d}) = round_marked binary32 false (m * up e * (m * up e) * down d + n * up d * (down e * down e)) (down e * down e * down d)

pub root_marked : {x : Float} → Marked false x → Marked false (root_of x)
unfolding sqrt
root_marked endless = endless
root_marked (ended {m = zero}) = ended
root_marked (ended {m = suc m} {e = e}) = round_marked binary32 false (halves (suc m * up e * 4 ^ 149 / down e)) (2 * 2 ^ 149)

pub mul_marked : {x y : Float} → Plain x → Plain y → Marked false (x ⊗ y)
unfolding mul
mul_marked (plain {m = m} {e = e}) (plain {m = n} {e = d}) = round_marked binary32 false (m * up e * (n * up d)) (down e * down d)

ratio_plain : Plain clamp_ratio
unfolding of_bits
ratio_plain = plain

pub limit_marked : {x : Float} → Marked false x → Marked false (x ⊗ clamp_ratio)
limit_marked endless = unfold mul of_bits in endless
limit_marked ended = mul_marked plain ratio_plain

pub plain_finite : {x : Float} → Plain x → finite x ≡ true
plain_finite plain = refl

plain_level : {x : Float} → Plain x → (x =ᶠ x) ≡ true
unfolding eq
plain_level (plain {m = m} {e = e}) = rw (eq-eqb (m * up e * down e) (m * up e * down e) refl)

-- the lesser of two, the first finite
pub min_plain : {x y : Float} → Plain x → Marked false y → Plain (min_of x y)
unfolding min_of
min_plain {x} {y} p q = go (y ≤ᶠ x) refl
  where
    go : (b : Bool) → (y ≤ᶠ x) ≡ b → Plain (cond b y (cond (x =ᶠ x) x y))
    go true e = marked_plain x q (plain_finite p) e
    go false e = rw (plain_level p) p

-- ---- 512 over what is at least epsilon

least_is : (finite factor ≡ true) × (finite epsilon ≡ true) × (le nil factor ≡ true) × (lt nil epsilon ≡ true) × (finite (factor ⊘ epsilon) ≡ true)
unfolding of_bits le lt div
least_is = (refl, refl, refl, refl, refl)

over_least : Plain (factor ⊘ epsilon)
unfolding of_bits div
over_least = plain

-- the quotient by what is above zero
div_marked : {x : Float} (t : Bool) (n : ℕ) (d : ℤ) → Above n t → Plain x → Marked false (x ⊘ fin t n d)
unfolding div
div_marked t n d a (plain {m = m} {e = e}) = rw (a.sign, ne_eqb n 0 (λ z. let p = a.size in omega arith)) (round_marked binary32 false (m * up e * down d) (n * up d * down e))

factor_plain : Plain factor
unfolding of_bits
factor_plain = plain

over_marked : (r : Float) → lt nil r ≡ true → Marked false (factor ⊘ r)
unfolding lt
over_marked nan h = absurd (false≢true h)
over_marked (inf true) h = absurd (false≢true h)
over_marked (inf false) h = unfold div of_bits in ended
over_marked (fin t n d) h = div_marked t n d (above_zero t n d h) factor_plain

over_finite : (r : Float) → lt epsilon r ≡ true → lt nil r ≡ true → Plain (factor ⊘ r)
unfolding lt
over_finite nan h k = absurd (false≢true k)
over_finite (inf true) h k = absurd (false≢true k)
over_finite (inf false) h k = unfold div of_bits in plain
over_finite (fin t n d) h k =
    marked_plain (factor ⊘ epsilon) (over_marked (fin t n d) k) least_is.4
    (div_le_right binary32 factor epsilon (fin t n d) least_is.0 least_is.1 refl least_is.2 least_is.3 (lt_le epsilon (fin t n d) h))

over_more : (r : Float) → lt epsilon r ≡ true → Plain (factor ⊘ r)
over_more r h = over_finite r h (lt_le_trans nil epsilon r least_is.3 (lt_le epsilon r h))

level_number : (r : Float) → (r =ᶠ r) ≡ true → T (not (is_nan r))
unfolding eq is_nan
level_number nan e = absurd (false≢true e)
level_number (inf s) e = tt
level_number (fin s m e') e = tt

least_number : T (not (is_nan epsilon))
unfolding of_bits is_nan
least_number = tt

pub scale_plain : (r : Float) → Plain (factor ⊘ max_of r epsilon)
unfolding max_of
scale_plain r = go (r ≤ᶠ epsilon) refl
  where
    more : (b : Bool) → (r =ᶠ r) ≡ b → (r ≤ᶠ epsilon) ≡ false → Plain (factor ⊘ cond b r epsilon)
    more true e h = over_more r (⊎_elim (λ l. absurd (true≢false (sym l ∙ h))) (λ l. l) (le_or_lt_float r epsilon (level_number r e) least_number))
    more false e h = over_least

    go : (b : Bool) → (r ≤ᶠ epsilon) ≡ b → Plain (factor ⊘ cond b epsilon (cond (r =ᶠ r) r epsilon))
    go true e = over_least
    go false e = more (r =ᶠ r) refl e

-- ---- rounded and held

full_is : (top_byte ≡ of_int binary32 (pos 255)) × (lt top_byte (of_int binary32 (pos 256)) ≡ true) × (nought ≡ of_int binary32 (pos 0))
unfolding of_bits of_int lt
full_is = (refl, refl, refl)

not_below : (k : ℕ) → lt (of_int binary32 (pos k)) nought ≡ false
not_below k = go (lt (of_int binary32 (pos k)) nought) refl
  where
    go : (b : Bool) → lt (of_int binary32 (pos k)) nought ≡ b → b ≡ false
    go true e = absurd (lt_not_le (of_int binary32 (pos k)) nought e (rw full_is.2 (of_int_le binary32 0 k (omega arith))))
    go false e = refl

held : (k : ℕ) → Byte (clamp_of (of_int binary32 (pos k)) nought top_byte)
unfolding clamp_of
held k = rw (not_below k) (go (lt top_byte (of_int binary32 (pos k))) refl)
  where
    small : lt top_byte (of_int binary32 (pos k)) ≡ false → (b : Bool) → leb 256 k ≡ b → k ≤ 255
    small e true h = absurd (true≢false (sym (lt_le_trans top_byte (of_int binary32 (pos 256)) (of_int binary32 (pos k)) full_is.1 (of_int_le binary32 256 k (leb-true 256 k h))) ∙ e))
    small e false h = let l = leb-false 256 k h in omega arith

    go : (b : Bool) → lt top_byte (of_int binary32 (pos k)) ≡ b → Byte (cond b top_byte (of_int binary32 (pos k)))
    go true e = record { number = 255; small = omega arith; is = full_is.0 }
    go false e = record { number = k; small = small e (leb 256 k) refl; is = refl }

end_held : Byte (clamp_of (inf false) nought top_byte)
unfolding clamp_of of_bits lt
end_held = record { number = 255; small = omega arith; is = full_is.0 }

pub held_byte : {x : Float} → Marked false x → Byte (clamp_of (rounded x) nought top_byte)
unfolding round_even of_int
held_byte endless = end_held
held_byte (ended {m = m} {e = e}) = held (closest (m * up e) (down e))
