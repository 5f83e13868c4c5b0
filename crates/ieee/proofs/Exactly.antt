-- Where the product of two numbers is exact, to multiply and then to add rounds once: the two operations are the fused one, whatever is added. Assumes nothing.
use mathlib.Core.Path.{◌≡◌, refl, sym, ap, ap₂, ◌∙◌, subst}
use Prim.Native.Nat.{ℕ, suc, ◌+◌, ◌*◌, ◌^◌, ◌<◌}
use native.Mathlib.Nat.{mul_comm, mul_assoc, mul_left_comm, mul_right_comm, mul-pos, eq_of_mul-eq-mul_right}
use mathlib.Core.Bool.{Bool}
use lib.IntN.{ℤ}
use lib.Ieee.{Float, nan, inf, fin, Format, prec, emax, low, unlike, up, down, round, sum, add, mul}
use lib.Ieee.Fits.{down_pos}
use lib.Ieee.Exact.{HasValue, round_exact}
use lib.Ieee.Scale.{round_same}
use Rattle.ieee.specs.Fused.{fma}
use Rattle.packing.proofs.Sums.{sum_same}

ruleset ac = (mul_assoc, mul_comm, mul_left_comm)

-- ---- the product, by any fractions that the factors equal
pair : (X Y De Dd A C B D : ℕ) → X * C ≡ A * De → Y * D ≡ B * Dd → X * Y * (C * D) ≡ A * B * (De * Dd)
pair X Y De Dd A C B D p q = regroup ∙ ap₂ (λ (a b : ℕ). a * b) p q ∙ simp ac
  where
    regroup : X * Y * (C * D) ≡ X * C * (Y * D)
    regroup = simp ac

mul_parts : (f : Format) (x y : Float) (s t : Bool) (A C B D : ℕ) → 0 < C → 0 < D → HasValue x s A C → HasValue y t B D → mul f x y ≡ round f (unlike s t) (A * B) (C * D)
unfolding mul
mul_parts f nan y s t A C B D P Q X Y = absurd X
mul_parts f (inf _) y s t A C B D P Q X Y = absurd X
mul_parts f (fin s' M e) nan s t A C B D P Q X Y = absurd Y
mul_parts f (fin s' M e) (inf _) s t A C B D P Q X Y = absurd Y
mul_parts f (fin s' M e) (fin t' N d) s t A C B D P Q X Y =
    ap (λ (u : Bool). round f u (M * up e * (N * up d)) (down e * down d)) (ap₂ unlike X.0 Y.0)
    ∙ round_same f (unlike s t) (M * up e * (N * up d)) (down e * down d) (A * B) (C * D) (mul-pos (down_pos e) (down_pos d)) (mul-pos P Q) (pair (M * up e) (N * up d) (down e) (down d) A C B D X.1 Y.1)

-- ---- beside an exact product r
first : (K De Dd Dg Dh M : ℕ) → K * (De * Dd) ≡ M * Dg → K * Dh * (De * Dd * Dh) ≡ M * Dh * (Dg * Dh)
first K De Dd Dg Dh M p = regroup ∙ ap (λ (a : ℕ). a * Dh * Dh) p ∙ simp ac
  where
    regroup : K * Dh * (De * Dd * Dh) ≡ K * (De * Dd) * Dh * Dh
    regroup = simp ac

second : (P De Dd Dg Dh : ℕ) → P * Dg * (De * Dd * Dh) ≡ P * (De * Dd) * (Dg * Dh)
second P De Dd Dg Dh = simp ac

beside : (f : Format) (r : Float) (s : Bool) (M : ℕ) (e : ℤ) (t : Bool) (N : ℕ) (d : ℤ) (z : Float) → HasValue r (unlike s t) (M * up e * (N * up d)) (down e * down d) → add f r z ≡ fma f (fin s M e) (fin t N d) z
unfolding add fma
beside f nan s M e t N d z v = absurd v
beside f (inf _) s M e t N d z v = absurd v
beside f (fin u k g) s M e t N d nan v = refl
beside f (fin u k g) s M e t N d (inf w) v = refl
beside f (fin u k g) s M e t N d (fin w p h) v =
    ap (λ (a : Bool). sum f a (k * up g * down h) w (p * up h * down g) (down g * down h)) v.0
    ∙ sum_same f (unlike s t) (k * up g * down h) w (p * up h * down g) (down g * down h) (M * up e * (N * up d) * down h) (p * up h * (down e * down d)) (down e * down d * down h)
    (mul-pos (down_pos g) (down_pos h)) (mul-pos (mul-pos (down_pos e) (down_pos d)) (down_pos h))
    (first (k * up g) (down e) (down d) (down g) (down h) (M * up e * (N * up d)) v.1)
    (second (p * up h) (down e) (down d) (down g) (down h))

-- the value in the factors' own terms
cross : (X Y K De Dd Dg A C B D : ℕ) → 0 < C → 0 < D → X * C ≡ A * De → Y * D ≡ B * Dd → K * (C * D) ≡ A * B * Dg → K * (De * Dd) ≡ X * Y * Dg
cross X Y K De Dd Dg A C B D P Q p q r =
    eq_of_mul-eq-mul_right (C * D) (mul-pos P Q) (K * (De * Dd)) (X * Y * Dg)
    (mul_right_comm K (De * Dd) (C * D)
    ∙ ap (λ (a : ℕ). a * (De * Dd)) r
    ∙ mul_right_comm (A * B) Dg (De * Dd)
    ∙ ap (λ (a : ℕ). a * Dg) (sym (pair X Y De Dd A C B D p q))
    ∙ mul_right_comm (X * Y) (C * D) Dg)

own : (r : Float) (u u' : Bool) (X Y De Dd A C B D : ℕ) → 0 < C → 0 < D → u ≡ u' → X * C ≡ A * De → Y * D ≡ B * Dd → HasValue r u (A * B) (C * D) → HasValue r u' (X * Y) (De * Dd)
own nan u u' X Y De Dd A C B D P Q w p q v = absurd v
own (inf _) u u' X Y De Dd A C B D P Q w p q v = absurd v
own (fin a k g) u u' X Y De Dd A C B D P Q w p q v = (v.0 ∙ w, cross X Y (k * up g) De Dd (down g) A C B D P Q p q v.1)

pub fused_exact : (f : Format) (x y z : Float) (s t : Bool) (A C B D : ℕ) → 0 < C → 0 < D → HasValue x s A C → HasValue y t B D → HasValue (mul f x y) (unlike s t) (A * B) (C * D) → add f (mul f x y) z ≡ fma f x y z
fused_exact f nan y z s t A C B D P Q X Y v = absurd X
fused_exact f (inf _) y z s t A C B D P Q X Y v = absurd X
fused_exact f (fin s' M e) nan z s t A C B D P Q X Y v = absurd Y
fused_exact f (fin s' M e) (inf _) z s t A C B D P Q X Y v = absurd Y
fused_exact f (fin s' M e) (fin t' N d) z s t A C B D P Q X Y v =
    beside f (mul f (fin s' M e) (fin t' N d)) s' M e t' N d z
    (own (mul f (fin s' M e) (fin t' N d)) (unlike s t) (unlike s' t') (M * up e) (N * up d) (down e) (down d) A C B D P Q (sym (ap₂ unlike X.0 Y.0)) X.1 Y.1 v)

-- so it is where the format has digits enough for the product
pub fused_digits : (f : Format) (x y z : Float) (s t : Bool) (A C B D q j : ℕ) → 0 < C → 0 < D → HasValue x s A C → HasValue y t B D
    → q < 2 ^ prec f → q * 2 ^ j < 2 ^ (low f + suc (emax f)) → A * B * 2 ^ low f ≡ q * 2 ^ j * (C * D) → add f (mul f x y) z ≡ fma f x y z
fused_digits f x y z s t A C B D q j P Q X Y small fine e =
    fused_exact f x y z s t A C B D P Q X Y
    (subst (λ (r : Float). HasValue r (unlike s t) (A * B) (C * D)) (sym (mul_parts f x y s t A C B D P Q X Y)) (round_exact f (unlike s t) (A * B) (C * D) q j (mul-pos P Q) small fine e))
