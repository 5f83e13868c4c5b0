-- The whole number at or below a float in -8 to 8, and how rounding at 2 ^ 23 finds it. Assumes nothing.
use Prim.Native.Nat.{ℕ, zero, suc, ◌+◌, ◌-◌, ◌*◌, ◌/◌, ◌%◌, ◌^◌, ◌≤◌, ◌<◌, min}
use mathlib.Core.Path.{◌≡◌, refl, sym, ap, ◌∙◌, subst}
use mathlib.Core.Bool.{Bool, true, false, not, ◌&&◌, cond, false≢true, true≢false}
use mathlib.Core.Logic.{◌⊎◌, inl, inr, ⊎_elim}
use native.Mathlib.Nat.{zero-mul, eq-zero-or-pos, eq_of_mul-eq-mul_right}
use native.Mathlib.Omega.{arith}
use borrow.Author.Tests.{le-leb, lt-ltb, eq-eqb, eqb-true, eqb-false}
use lib.Dec.{T, ltb, leb, eqb, ltb→lt}
use lib.IntN.{ℤ, pos, negsuc, neg_ℤ, ◌-ℤ◌}
use lib.Pow.{pow_pos, pow_mono}
use lib.Ieee.{Float, nan, inf, fin, binary32, up, down, of_bits, of_int, add, lt, le, is_nan, fits, whole, to_signed, to_unsigned, in_unsigned}
use lib.Ieee.Fits.{down_pos, add-fits, and_l, and_r}
use lib.Ieee.Back.{Float-back_unsigned}
use lib.Ieee.Nearest.{div_mono}
use lib.Ieee.Scale.{finite}
use Rattle.ieee.specs.F32.{◌⊕◌, ◌⊖◌, ◌<ᶠ◌, ◌≤ᶠ◌, f32, to_i32, float, float_z, bits_of}
use Rattle.ieee.specs.Numbers.{nought, one}
use Rattle.ieee_laws.proofs.Order.{le_fin, lt_le, le_number, lt_not_le, le_or_lt_float}
use Rattle.ieee_laws.proofs.Monotone.{add_le, to_unsigned_le}
use Rattle.ieee_laws.proofs.Bounds.{Bounds, bounds_point, bounds_finite, add_bounds}
use Rattle.descriptor_shares.specs.Sharing.{floor_i}
use Rattle.descriptor_shares.specs.Reach.{Near, base, split_of}
use Rattle.descriptor_shares.specs.declared.Split.{Split}
use Rattle.descriptor_shares.proofs.Steps.{lowered, start, first, raised, Step, step}

-- the whole number at or below v is k - 8
pub record Floored (v : Float) (k : ℕ) : Type 0 where
  pub is : floor_i v ≡ lowered k
  pub low : (float_z (lowered k) ≤ᶠ v) ≡ true
  pub high : (v <ᶠ float_z (lowered (k + 1))) ≡ true
  pub top : k ≤ 16

-- ---- a cut to a whole number keeps the order

raised_neg : (q : ℕ) → raised (neg_ℤ (pos q)) ≡ 16 - q
raised_neg zero = refl
raised_neg (suc n) = omega arith

pub signed_le : (x y : Float) → finite x ≡ true → finite y ≡ true → le x y ≡ true → raised (to_i32 x) ≤ raised (to_i32 y)
unfolding to_signed
signed_le nan y p q h = absurd (false≢true p)
signed_le (inf s) y p q h = absurd (false≢true p)
signed_le (fin s m e) nan p q h = absurd (false≢true q)
signed_le (fin s m e) (inf t) p q h = absurd (false≢true q)
signed_le (fin false m e) (fin false n d) p q h =
    let g = (le_fin false m e false n d h).cross in
    let l = div_mono (m * up e) (down e) (n * up d) (down d) (down_pos e) (down_pos d) (omega (arith, zero-mul (down e), zero-mul (down d))) in
    omega arith
signed_le (fin true m e) (fin true n d) p q h =
    let g = (le_fin true m e true n d h).cross in
    let l = div_mono (n * up d) (down d) (m * up e) (down e) (down_pos d) (down_pos e) (omega (arith, zero-mul (down e), zero-mul (down d))) in
    rw (raised_neg (min (m * up e / down e) (2 ^ 31)), raised_neg (min (n * up d / down d) (2 ^ 31))) (omega arith)
signed_le (fin true m e) (fin false n d) p q h = rw (raised_neg (min (m * up e / down e) (2 ^ 31))) (omega arith)
signed_le (fin false m e) (fin true n d) p q h =
    let g = (le_fin false m e true n d h).cross in
    let a : m * up e ≡ 0 = eq_of_mul-eq-mul_right (down d) (down_pos d) (m * up e) 0 (omega (arith, zero-mul (down e), zero-mul (down d))) in
    let b : n * up d ≡ 0 = eq_of_mul-eq-mul_right (down e) (down_pos e) (n * up d) 0 (omega (arith, zero-mul (down e), zero-mul (down d))) in
    let l = div_mono (m * up e) (down e) 0 1 (down_pos e) (omega arith) (omega arith) in
    let k = div_mono (n * up d) (down d) 0 1 (down_pos d) (omega arith) (omega arith) in
    rw (raised_neg (min (n * up d / down d) (2 ^ 31))) (omega arith)

-- ---- the floor of what lies from k - 8 to below k - 7

not_below : (x y : Float) → le y x ≡ true → lt x y ≡ false
not_below x y h = go (lt x y) refl
  where
    go : (b : Bool) → lt x y ≡ b → b ≡ false
    go true e = absurd (lt_not_le x y e h)
    go false e = refl

-- by the whole number that v is cut to
floor_by : (v : Float) (z : ℤ) (b : Bool) → to_i32 v ≡ z → lt v (float_z z) ≡ b → floor_i v ≡ cond b (z -ℤ pos 1) z
unfolding floor_i
floor_by v z b e h = rw (e, h)

pub floor_at : (k : ℕ) (v : Float) → k ≤ 16 → finite v ≡ true → le (float_z (lowered k)) v ≡ true → lt v (float_z (lowered (k + 1))) ≡ true → floor_i v ≡ lowered k
floor_at k v h f l u =
    let a = step k (omega arith) in
    let b = step (k + 1) (omega arith) in
    let x : k + 8 ≤ raised (to_i32 v) = rw (← a.height, ← a.cut) (signed_le (float_z (lowered k)) v a.ended f l) in
    let y : raised (to_i32 v) ≤ (k + 1) + 8 =
    rw (← b.height, ← b.cut) (signed_le v (float_z (lowered (k + 1))) f b.ended (lt_le v (float_z (lowered (k + 1))) u)) in
    ⊎_elim
    (λ e. floor_by v (lowered k) false (a.only (to_i32 v) e) (not_below v (float_z (lowered k)) l))
    (λ e. floor_by v (lowered (k + 1)) true (b.only (to_i32 v) e) u ∙ a.less)
    (either (raised (to_i32 v)) k x y)
  where
    either : (n k : ℕ) → k + 8 ≤ n → n ≤ (k + 1) + 8 → (n ≡ k + 8) ⊎ (n ≡ (k + 1) + 8)
    either n k p q = go (eqb n (k + 8)) refl
      where
        go : (b : Bool) → eqb n (k + 8) ≡ b → (n ≡ k + 8) ⊎ (n ≡ (k + 1) + 8)
        go true e = inl (eqb-true n (k + 8) e)
        go false e = let z = eqb-false n (k + 8) e in inr (omega arith)

-- ---- a float from 12582904 to 12582920 is whole

abbrev bottom : Float
bottom = fin false 1572863 (pos 3)

abbrev ceiling : Float
ceiling = fin false 1572865 (pos 3)

-- of what `fits` says
digits : (m d n : ℕ) → T (eqb (suc m % 2) 1 && ltb (suc m) (2 ^ 24) && leb d (2 ^ 149) && ltb n (2 ^ 128 * d)) → suc m < 2 ^ 24
digits m d n t =
    let A = eqb (suc m % 2) 1 in
    let B = ltb (suc m) (2 ^ 24) in
    let C = leb d (2 ^ 149) in
    ltb→lt (suc m) (2 ^ 24) (and_r A B (and_l (A && B) C (and_l (A && B && C) (ltb n (2 ^ 128 * d)) t)))

whole_number : (x : Float) → T (fits binary32 x) → le bottom x ≡ true → le x ceiling ≡ true → T (in_unsigned binary32 64 x)
unfolding fits in_unsigned whole is_nan le
whole_number nan f h k = absurd (le_number bottom nan h).1
whole_number (inf true) f h k = absurd (false≢true h)
whole_number (inf false) f h k = absurd (false≢true k)
whole_number (fin true m e) f h k = let g = (le_fin false 1572863 (pos 3) true m e h).cross in absurd (omega (arith, zero-mul (down e), down_pos e))
whole_number (fin false m (pos j)) f h k =
    let g = (le_fin false m (pos j) false 1572865 (pos 3) k).cross in
    let a : eqb (m * 2 ^ j % 1) 0 ≡ true = eq-eqb (m * 2 ^ j % 1) 0 (omega arith) in
    let b : leb (m * 2 ^ j / 1) (2 ^ 24) ≡ true = le-leb (m * 2 ^ j / 1) (2 ^ 24) (omega arith) in
    let c : ltb (m * 2 ^ j / 1) (2 ^ 64) ≡ true = lt-ltb (m * 2 ^ j / 1) (2 ^ 64) (omega arith) in
    rw (a, b, c) tt
whole_number (fin false zero (negsuc j)) f h k =
    let g = (le_fin false 1572863 (pos 3) false zero (negsuc j) h).cross in absurd (omega (arith, pow_pos (suc j)))
whole_number (fin false (suc m) (negsuc j)) f h k =
    let g = (le_fin false 1572863 (pos 3) false (suc m) (negsuc j) h).cross in
    let l : suc m < 2 ^ 24 = digits m (2 ^ suc j) (suc m * 1) f in
    let w : 2 ^ 1 ≤ 2 ^ suc j = pow_mono {i = 1} {j = suc j} (omega arith) in
    absurd (omega arith)

-- ---- v + 12582912 is a whole number, which tells the floor but for one

pub record Rounded (v : Float) : Type 0 where
  pub at : ℕ
  pub top : at ≤ 16
  pub is : v ⊕ base ≡ float (start + at)

ends : (f32 0xc100_0000 ⊕ base ≡ bottom) × (f32 0x4100_0000 ⊕ base ≡ ceiling) × (to_unsigned 64 bottom ≡ start) × (to_unsigned 64 ceiling ≡ start + 16)
unfolding of_bits add to_unsigned
ends = (refl, refl, refl, refl)

near_bounds : (v : Float) → Near v → Bounds (f32 0xc100_0000) (f32 0x4100_0000) v
unfolding of_bits
near_bounds v n = record { from = refl; to = refl; low = n.low; high = n.high }

lift_bounds : (v : Float) → Near v → Bounds bottom ceiling (v ⊕ base)
unfolding of_bits add
lift_bounds v n = add_bounds binary32 refl refl (near_bounds v n) (bounds_point base refl)

pub rounded_at : (v : Float) → Near v → Rounded v
rounded_at v n =
    let b = lift_bounds v n in
    let c = to_unsigned 64 (v ⊕ base) in
    let l : start ≤ c = rw (← ends.2) (to_unsigned_le 64 bottom (v ⊕ base) b.low) in
    let u : c ≤ start + 16 = rw (← ends.3) (to_unsigned_le 64 (v ⊕ base) ceiling b.high) in
    let e : start + (c - start) ≡ c = omega arith in
    let f = Float-back_unsigned binary32 64 (v ⊕ base) (add-fits binary32 v base) (whole_number (v ⊕ base) (add-fits binary32 v base) b.low b.high) in
    record { at = c - start; top = omega arith; is = sym f.1 ∙ ap float (sym e) }

-- ---- the two ways of the code

pub finite_number : (x : Float) → finite x ≡ true → T (not (is_nan x))
unfolding is_nan
finite_number nan h = absurd (false≢true h)
finite_number (inf s) h = absurd (false≢true h)
finite_number (fin s m e) h = tt

lift_le : (x y : Float) → finite x ≡ true → finite y ≡ true → le x y ≡ true → to_unsigned 64 (x ⊕ base) ≤ to_unsigned 64 (y ⊕ base)
unfolding of_bits le
lift_le x y p q h = to_unsigned_le 64 (x ⊕ base) (y ⊕ base) (add_le binary32 x y base base p q refl refl h refl)

least : float_z (lowered 0) ≡ f32 0xc100_0000
unfolding of_bits of_int
least = refl

module _ (v : Float) (n : Near v) (r : Rounded v) where
  fine : finite v ≡ true
  fine = bounds_finite (near_bounds v n)

  here : Step r.at
  here = step r.at (let u = r.top in omega arith)

  -- the sum keeps the order
  below_at : (k : ℕ) → k ≤ 17 → le v (float_z (lowered k)) ≡ true → r.at ≤ k
  below_at k h l =
      let s = step k h in
      let x = rw (r.is, here.size, s.sum, s.size) at (lift_le v (float_z (lowered k)) fine s.ended l) in
      omega arith

  above_at : (k : ℕ) → k ≤ 17 → le (float_z (lowered k)) v ≡ true → k ≤ r.at
  above_at k h l =
      let s = step k h in
      let x = rw (r.is, here.size, s.sum, s.size) at (lift_le (float_z (lowered k)) v s.ended fine l) in
      omega arith

  -- k - 8 is at most v, or above it
  split : (k : ℕ) → k ≤ 17 → (le (float_z (lowered k)) v ≡ true) ⊎ (lt v (float_z (lowered k)) ≡ true)
  split k h = le_or_lt_float (float_z (lowered k)) v (finite_number (float_z (lowered k)) (step k h).ended) (finite_number v fine)

  floored : (k : ℕ) → k ≤ 16 → le (float_z (lowered k)) v ≡ true → lt v (float_z (lowered (k + 1))) ≡ true → Floored v k
  floored k h l u = record { is = floor_at k v h fine l u; low = l; high = u; top = h }

  some : lt v (float_z (lowered r.at)) ≡ true → 1 ≤ r.at
  some l =
      ⊎_elim (λ z. absurd (lt_not_le v (float_z (lowered 0)) (subst (λ (k : ℕ). lt v (float_z (lowered k)) ≡ true) z l) (rw least n.low))) (λ p. p) (eq-zero-or-pos r.at)

  pub low_way : lt v (float_z (lowered r.at)) ≡ true → (1 ≤ r.at) × Floored v (r.at - 1)
  low_way l =
      let p = some l in
      let t = r.top in
      let b : (r.at - 1) + 1 ≡ r.at = omega arith in
      let q : le (float_z (lowered (r.at - 1))) v ≡ true =
      ⊎_elim (λ x. x) (λ x. let y = below_at (r.at - 1) (omega arith) (lt_le v (float_z (lowered (r.at - 1))) x) in absurd (omega arith)) (split (r.at - 1) (omega arith)) in
      (p, floored (r.at - 1) (omega arith) q (rw b l))

  pub high_way : lt v (float_z (lowered r.at)) ≡ false → Floored v r.at
  high_way l =
      let t = r.top in
      let q : le (float_z (lowered r.at)) v ≡ true = ⊎_elim (λ x. x) (λ x. absurd (true≢false (sym x ∙ l))) (split r.at (omega arith)) in
      let u : lt v (float_z (lowered (r.at + 1))) ≡ true =
      ⊎_elim (λ x. let y = above_at (r.at + 1) (omega arith) x in absurd (omega arith)) (λ x. x) (split (r.at + 1) (omega arith)) in
      floored r.at t q u

-- ---- what the code works out: one is taken off where rounding went up

pub record Parted (v x : Float) : Type 0 where
  pub whole : (v ⊕ base) ⊖ x ≡ float_z (floor_i v) ⊕ base
  pub floor : ((v ⊕ base) ⊖ base) ⊖ x ≡ float_z (floor_i v)

near_is : (v : Float) (r : Rounded v) → (v ⊕ base) ⊖ base ≡ float_z (lowered r.at)
near_is v r = let t = r.top in rw r.is (step r.at (omega arith)).rest

pub parted_up : (v : Float) → Near v → lt v ((v ⊕ base) ⊖ base) ≡ true → Parted v one
parted_up v n h =
    let r = rounded_at v n in
    let t = r.top in
    let w = low_way v n r (rw (near_is v r) at h) in
    let k = r.at - 1 in
    let p = w.0 in
    let e : k + 1 ≡ r.at = omega arith in
    let s = step k (omega arith) in
    record {
      whole = rw (r.is, ← e, s.down, w.1.is, s.sum);
      floor = rw (near_is v r, ← e, s.near_down, w.1.is);
    }

pub parted_down : (v : Float) → Near v → lt v ((v ⊕ base) ⊖ base) ≡ false → Parted v nought
parted_down v n h =
    let r = rounded_at v n in
    let t = r.top in
    let w = high_way v n r (rw (near_is v r) at h) in
    let s = step r.at (omega arith) in
    record {
      whole = rw (r.is, s.still, w.is, s.sum);
      floor = rw (near_is v r, s.near_still, w.is);
    }

-- ---- every number in -8 to 8 has its floor

pub record Found (v : Float) : Type 0 where
  pub at : ℕ
  pub is : Floored v at

pub floored_of : (v : Float) → Near v → Found v
floored_of v n = let r = rounded_at v n in go r (lt v (float_z (lowered r.at))) refl
  where
    go : (r : Rounded v) (b : Bool) → lt v (float_z (lowered r.at)) ≡ b → Found v
    go r true e = record { at = r.at - 1; is = (low_way v n r e).1 }
    go r false e = record { at = r.at; is = high_way v n r e }

-- ---- the split by its floor

pub record Cut (v : Float) (k : ℕ) (s : Split) : Type 0 where
  pub bits : s.bits ≡ first + k
  pub past : s.past ≡ v ⊖ float_z (lowered k)

pub split_at : (v : Float) (k : ℕ) → Floored v k → Cut v k (split_of v)
unfolding split_of
split_at v k f =
    let t = f.top in
    let s = step k (omega arith) in
    record { bits = rw (f.is, s.sum) s.bits; past = rw f.is }

pub split_parted : (v x : Float) → Parted v x → ◌≡◌ {A = Split} (record { bits = bits_of ((v ⊕ base) ⊖ x); past = v ⊖ (((v ⊕ base) ⊖ base) ⊖ x) }) (split_of v)
unfolding split_of
split_parted v x p = rw (p.whole, p.floor)

pub split_number : (v : Float) → Near v → T (not (is_nan (float_z (floor_i v) ⊕ base)))
split_number v n =
    let k = floored_of v n in
    let t = k.is.top in
    rw (k.is.is, (step k.at (omega arith)).sum, (step k.at (omega arith)).number) tt
