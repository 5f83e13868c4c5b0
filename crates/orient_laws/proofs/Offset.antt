-- How far the top of a strict peak's parabola lies from the peak, signs and all. Assumes nothing.
use Prim.Native.Nat.{ℕ, zero, suc, ◌-◌, ◌*◌, ◌^◌, ◌<◌}
use mathlib.Core.Path.{◌≡◌, refl, sym, ap, ◌∙◌, subst}
use mathlib.Core.Bool.{Bool, true, false, false≢true}
use mathlib.Core.Logic.{⊎_elim}
use native.Mathlib.Nat.{mul_comm, zero-mul, mul-pos, suc-mul}
use native.Mathlib.Omega.{arith}
use borrow.Author.Tests.{ne_eqb, eqb-false, not-true}
use lib.Dec.{eqb}
use lib.IntN.{ℤ, pos}
use lib.Ieee.{Float, nan, inf, fin, binary32, up, down, unlike, round, sum, neg, add, sub, mul, div, le, lt, of_bits}
use lib.Ieee.Fits.{up_pos, down_pos}
use lib.Ieee.Exact.{HasValue}
use lib.Ieee.Scale.{finite, overflow}
use Rattle.lists.proofs.Bools.{not_not}
use Rattle.packing.proofs.Sums.{sum_comm, order}
use Rattle.ieee.specs.F32.{◌⊕◌, ◌⊖◌, ◌⊗◌, ◌⊘◌}
use Rattle.ieee.specs.Numbers.{half, two}
use Rattle.ieee_laws.specs.Sign.{Turned, of_nan, of_inf, of_fin, turned, no_sign}
use Rattle.ieee.proofs.SignedParts.{round_zero}
use Rattle.ieee_laws.proofs.Turned.{neg_opp, add_turned, mul_turned, div_turned, le_turned, nonzero}
use Rattle.ieee_laws.proofs.TurnedOps.{same}
use Rattle.ieee_laws.proofs.Order.{le_trans_float}
use Rattle.ieee_laws.proofs.Monotone.{nil, neg_finite}
use Rattle.ieee_laws.proofs.Bounds.{Bounds}
use Rattle.orient_laws.proofs.Near.{gap, divisor}
use Rattle.orient_laws.proofs.Units.{At, Units, sub_units, sub_level}
use Rattle.orient_laws.proofs.Crest as C

neg_back : (x : Float) → Turned true (neg x) x
unfolding neg
neg_back nan = of_nan
neg_back (inf s) = of_inf (sym (not_not s))
neg_back (fin s m e) = of_fin (turned (sym (not_not s)))

add_swap : (x y : Float) → finite x ≡ true → finite y ≡ true → add binary32 x y ≡ add binary32 y x
unfolding add
add_swap nan y p q = absurd (false≢true p)
add_swap (inf s) y p q = absurd (false≢true p)
add_swap (fin s m e) nan p q = absurd (false≢true q)
add_swap (fin s m e) (inf t) p q = absurd (false≢true q)
add_swap (fin s m e) (fin t n d) p q = sum_comm binary32 s (m * up e * down d) t (n * up d * down e) (down e * down d) ∙ ap (λ (z : ℕ). sum binary32 t (n * up d * down e) s (m * up e * down d) z) (mul_comm (down e) (down d))

-- a difference the other way round
sub_opp : (x y : Float) → finite x ≡ true → finite y ≡ true → Turned true (x ⊖ y) (y ⊖ x)
unfolding sub
sub_opp x y p q = subst (λ (z : Float). Turned true (add binary32 x (neg y)) z) (add_swap (neg x) y (neg_finite x p) q) (add_turned binary32 (neg_opp x) (neg_back y))

some_value : (x : Float) (a c : ℕ) → HasValue x false a c → 0 < a → nonzero x ≡ true
unfolding nonzero
some_value nan a c h A = absurd h
some_value (inf s) a c h A = absurd h
some_value (fin s m e) a c h A = rw (ne_eqb m 0 (λ z. nothing m (up e) c (a * down e) z h.1 (mul-pos A (down_pos e))))
  where
    nothing : (m u c b : ℕ) → m ≡ 0 → m * u * c ≡ b → 0 < b → ⊥
    nothing m u c b z e B = let k : m * u * c ≡ 0 = rw (z, zero-mul, zero-mul) in omega arith

-- what lies within 32, either way
abbrev pub low : Float
low = fin true 1 (pos 5)

abbrev pub high : Float
high = fin false 1 (pos 5)

same_side : (q p : Float) → Turned false p q → Bounds nil high p → Bounds low high q
unfolding le
same_side q p t b =
    let a : le nil q ≡ true = le_turned t' t ∙ b.low in
    let c : le q high ≡ true = le_turned t (same high) ∙ b.high in
    record { from = refl; to = refl; low = le_trans_float low nil q refl a; high = c }
  where
    t' : Turned false nil nil
    t' = same nil

other_side : (q p : Float) → Turned true p q → Bounds nil high p → Bounds low high q
unfolding le
other_side q p t b =
    let z : Turned true nil nil = of_fin (no_sign refl) in
    let h : Turned true high low = of_fin (turned refl) in
    let a : le q nil ≡ true = le_turned t z ∙ b.low in
    let c : le low q ≡ true = le_turned h t ∙ b.high in
    record { from = refl; to = refl; low = c; high = le_trans_float q nil high a refl }

-- the parabola's own divisor and offset
abbrev pub divisor_of : Float → Float → Float → Float
divisor_of l m r = l ⊖ two ⊗ m ⊕ r

abbrev pub offset_of : Float → Float → Float → Float
offset_of l m r = half ⊗ (l ⊖ r) ⊘ divisor_of l m r

at_finite : (x : Float) (X : ℕ) → At x X → finite x ≡ true
at_finite x X a = rw a.is

-- nothing over a number is nothing
zero_over : (s t : Bool) (n : ℕ) (e : ℤ) → eqb n 0 ≡ false → (u : Bool) × (div binary32 (fin s 0 (pos 0)) (fin t n e) ≡ fin u 0 (pos 0))
unfolding div
zero_over s t n e h = (unlike s t, rw h (round_zero binary32 (unlike s t) (0 * 1 * down e) (n * up e * 1) (some n (up e) (up_pos e) (eqb-false n 0 h)) (zero-mul (down e))))
  where
    some : (n u : ℕ) → 0 < u → (n ≡ 0 → ⊥) → 0 < n * u * 1
    some zero u U z = absurd (z refl)
    some (suc n) u U z = let k = suc-mul n u in omega arith

half_zero : (s : Bool) → half ⊗ fin s 0 (pos 0) ≡ fin s 0 (pos 0)
unfolding of_bits mul round
half_zero true = refl
half_zero false = refl

zero_in : (s : Bool) → Bounds low high (fin s 0 (pos 0))
unfolding le
zero_in true = record { from = refl; to = refl; low = refl; high = refl }
zero_in false = record { from = refl; to = refl; low = refl; high = refl }

turned_fin : {s : Bool} {n : ℕ} {e : ℤ} {t : Float} → Turned true (fin s n e) t → (u : Bool) × (t ≡ fin u n e)
turned_fin (of_fin {t = t} g) = (t, refl)

over_value : (s : Bool) (d : Float) (a c : ℕ) → HasValue d false a c → 0 < a → (t : Float) → Turned true d t → (u : Bool) × (div binary32 (fin s 0 (pos 0)) t ≡ fin u 0 (pos 0))
unfolding nonzero
over_value s nan a c h A t z = absurd h
over_value s (inf y) a c h A t z = absurd h
over_value s (fin y n e) a c h A t z =
    let f = turned_fin z in
    let o = zero_over s f.0 n e (not-true (eqb n 0) (some_value (fin y n e) a c h A)) in
    (o.0, ap (div binary32 (fin s 0 (pos 0))) f.1 ∙ o.1)

module _ (l m r : Float) (ul : Units l) (um : Units m) (ur : Units r) (lm : lt l m ≡ true) (rm : lt r m ≡ true)
    (cap : ℕ) (room : cap * 2 ≡ overflow binary32) (fine : 8 * (um.digits * 2 ^ um.place) < cap) where
  abbrev L : ℕ
  L = ul.digits * 2 ^ ul.place

  abbrev M : ℕ
  M = um.digits * 2 ^ um.place

  abbrev R : ℕ
  R = ur.digits * 2 ^ ur.place

  abbrev D : Float
  D = two ⊗ m ⊖ l ⊖ r

  l_fin : finite l ≡ true
  l_fin = at_finite l L ul.at

  r_fin : finite r ≡ true
  r_fin = at_finite r R ur.at

  N_fin : finite (two ⊗ m) ≡ true
  N_fin = at_finite (two ⊗ m) (2 * M) (C.N_at l m r ul um ur lm rm cap room fine)

  divisor_opp : Turned true D (divisor_of l m r)
  unfolding sub
  divisor_opp = add_turned binary32 (sub_opp (two ⊗ m) l N_fin l_fin) (neg_back r)

  d_some : nonzero D ≡ true
  d_some = some_value D _ (2 ^ 149) (C.d_value l m r ul um ur lm rm cap room fine) (C.some_e l m r ul um ur lm rm cap room fine)

  left_low : L < R → Bounds low high (offset_of l m r)
  left_low h =
      let less_r = C.less_r l m r ul um ur lm rm cap room fine in
      let e = divisor L M R (C.C l m r ul um ur lm rm cap room fine) (C.less_l l m r ul um ur lm rm cap room fine) less_r (C.m_below l m r ul um ur lm rm cap room fine) (gap ur.digits ur.place um.digits um.place ur.few um.few less_r) (C.c_near l m r ul um ur lm rm cap room fine) h in
      let q = C.quotient l m r ul um ur lm rm cap room fine (R - L) (omega arith) e (omega arith) (r ⊖ l) (sub_units ur.at ul.at h) in
      let t = mul_turned {a = false} {b = true} binary32 (same half) (sub_opp r l r_fin l_fin) in
      same_side (offset_of l m r) (half ⊗ (r ⊖ l) ⊘ D) (div_turned {a = true} {b = true} binary32 t divisor_opp d_some) q

  right_low : R < L → Bounds low high (offset_of l m r)
  right_low h =
      let less_l = C.less_l l m r ul um ur lm rm cap room fine in
      let b = C.m_below l m r ul um ur lm rm cap room fine in
      let q = C.quotient l m r ul um ur lm rm cap room fine (L - R) (omega arith) (omega arith) (omega arith) (l ⊖ r) (sub_units ul.at ur.at h) in
      other_side (offset_of l m r) (half ⊗ (l ⊖ r) ⊘ D) (div_turned {a = false} {b = true} binary32 (same (half ⊗ (l ⊖ r))) divisor_opp d_some) q

  both_level : L ≡ R → Bounds low high (offset_of l m r)
  both_level h =
      let z = sub_level ul.at (subst (λ (k : ℕ). At r k) (sym h) ur.at) in
      let x : half ⊗ (l ⊖ r) ≡ fin z.0 0 (pos 0) = ap (λ (y : Float). half ⊗ y) z.1 ∙ half_zero z.0 in
      let o = over_value z.0 D _ (2 ^ 149) (C.d_value l m r ul um ur lm rm cap room fine) (C.some_e l m r ul um ur lm rm cap room fine) (divisor_of l m r) divisor_opp in
      subst (λ (y : Float). Bounds low high y) (sym (ap (λ (y : Float). y ⊘ divisor_of l m r) x ∙ o.1)) (zero_in o.0)

  pub offset_in : Bounds low high (offset_of l m r)
  offset_in = ⊎_elim left_low (λ k. ⊎_elim right_low both_level k) (order L R)
