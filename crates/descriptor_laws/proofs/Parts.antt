-- A share m, from 0 to some top, split by a factor from 0 to 1: both parts lie in 0 to that top. Assumes nothing.
use Prim.Native.Nat.{◌*◌}
use mathlib.Core.Path.{◌≡◌, refl, subst}
use mathlib.Core.Bool.{true, false, false≢true}
use native.Mathlib.Nat.{mul-one}
use lib.Dec.{T}
use lib.Ieee.{Float, nan, inf, fin, binary32, up, down, of_bits, mul, le, fits}
use lib.Ieee.Fits.{mul-fits, sub-fits}
use lib.Ieee.Scale.{finite}
use Rattle.ieee.specs.F32.{◌⊖◌, ◌⊗◌}
use Rattle.ieee.specs.Numbers.{one}
use Rattle.ieee.proofs.Meaning.{round_held}
use Rattle.ieee_laws.proofs.Order.{le_trans_float}
use Rattle.ieee_laws.proofs.Monotone.{nil, mul_le, sub_le}
use Rattle.ieee_laws.proofs.Level.{sub_same}
use Rattle.ieee_laws.proofs.Bounds.{Bounds, bounds_point, bounds_finite, bounds_wider, sub_bounds, mul_bounds}
use Rattle.descriptor_shares.specs.Sharing.{shares_of}
use Rattle.descriptor_laws.specs.GridRules.{Eight}

-- ---- m × 1 is m

mul_same : (m : Float) → T (fits binary32 m) → finite m ≡ true → m ⊗ one ≡ m
unfolding of_bits mul
mul_same nan f h = absurd (false≢true h)
mul_same (inf s) f h = absurd (false≢true h)
mul_same (fin true m e) f h = rw (mul-one (m * up e), mul-one (down e)) (round_held binary32 true m e f)
mul_same (fin false m e) f h = rw (mul-one (m * up e), mul-one (down e)) (round_held binary32 false m e f)

-- ---- a part, and a split of it

pub record Part (top m : Float) : Type 0 where
  pub bounds : Bounds nil top m
  pub held : T (fits binary32 m)

-- what is worked out of a top
pub record Top (top : Float) : Type 0 where
  pub ended : finite top ≡ true
  pub product : (finite (top ⊗ one) ≡ true) × (le (top ⊗ one) top ≡ true)
  pub rest : (finite (nil ⊖ top) ≡ true) × ((finite (top ⊖ nil) ≡ true) × (le (top ⊖ nil) top ≡ true))

noughts : (finite nil ≡ true) × ((finite (nil ⊗ nil) ≡ true) × ((le nil (nil ⊗ nil) ≡ true) × ((le nil nil ≡ true) × (finite one ≡ true))))
unfolding of_bits mul le
noughts = (refl, (refl, (refl, (refl, refl))))

module _ {top m b : Float} (t : Top top) (p : Part top m) (u : Bounds nil one b) where
  product_bounds : Bounds nil top (m ⊗ b)
  product_bounds =
      bounds_wider nil top noughts.0 t.ended noughts.1.1.0 t.product.1
      (mul_bounds binary32 noughts.1.1.1.0 noughts.1.1.1.0 noughts.1.0 t.product.0 p.bounds u)

  here : finite m ≡ true
  here = bounds_finite p.bounds

  self : le m m ≡ true
  self = (bounds_point m here).low

  product_le : le (m ⊗ b) m ≡ true
  product_le =
      subst (λ (x : Float). le (m ⊗ b) x ≡ true) (mul_same m p.held here)
      (mul_le binary32 m m b one here here (bounds_finite u) noughts.1.1.1.1 self u.high p.bounds.low u.low)

  rest_low : le nil (m ⊖ m ⊗ b) ≡ true
  rest_low =
      subst (λ (x : Float). le x (m ⊖ m ⊗ b) ≡ true) (sub_same binary32 m here)
      (sub_le binary32 m m m (m ⊗ b) here here here (bounds_finite product_bounds) self product_le)

  rest_high : le (m ⊖ m ⊗ b) top ≡ true
  rest_high =
      le_trans_float (m ⊖ m ⊗ b) (top ⊖ nil) top (sub_bounds binary32 t.rest.0 t.rest.1.0 p.bounds product_bounds).high t.rest.1.1

  pub split_product : Part top (m ⊗ b)
  split_product = record { bounds = product_bounds; held = mul-fits binary32 m b }

  pub split_rest : Part top (m ⊖ m ⊗ b)
  split_rest =
      record { bounds = record { from = noughts.0; to = t.ended; low = rest_low; high = rest_high }; held = sub-fits binary32 m (m ⊗ b) }

-- ---- the eight shares

pub shares_in : {top m rb cb ob : Float} → Top top → Part top m → Bounds nil one rb → Bounds nil one cb → Bounds nil one ob → Eight (Part top) (shares_of m rb cb ob)
unfolding shares_of
shares_in t p r c o =
    let r1 = split_product t p r in
    let r0 = split_rest t p r in
    let rc11 = split_product t r1 c in
    let rc10 = split_rest t r1 c in
    let rc01 = split_product t r0 c in
    let rc00 = split_rest t r0 c in
    record {
      v000 = split_rest t rc00 o;
      v001 = split_product t rc00 o;
      v010 = split_rest t rc01 o;
      v011 = split_product t rc01 o;
      v100 = split_rest t rc10 o;
      v101 = split_product t rc10 o;
      v110 = split_rest t rc11 o;
      v111 = split_product t rc11 o;
    }
