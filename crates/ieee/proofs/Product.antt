-- `fma` by the parts of its three operands. Assumes nothing.
use mathlib.Core.Path.{◌≡◌, refl, sym, ap, ap₂, ◌∙◌}
use Prim.Native.Nat.{ℕ, ◌+◌, ◌*◌, ◌^◌}
use native.Mathlib.Nat.{mul_comm, mul_assoc, mul_left_comm, mul-pos}
use mathlib.Core.Bool.{Bool, true, false, true≢false, false≢true}
use lib.Pow.{pow-add, pow_pos}
use lib.Ieee.{Float, nan, inf, fin, Format, unlike, up, down, sum, add, mul}
use lib.Ieee.Fits.{down_pos}
use lib.Ieee.Exact.{HasValue}
use lib.Ieee.Scale.{finite}
use Rattle.ieee.specs.Fused.{fma}
use Rattle.packing.proofs.Sums.{sum_same}

pub fma_left : (f : Format) (x y z : Float) → finite x ≡ false → add f (mul f x y) z ≡ fma f x y z
unfolding fma add mul
fma_left f nan y z h = refl
fma_left f (inf s) y z h = refl
fma_left f (fin s m e) y z h = absurd (true≢false h)

pub fma_right : (f : Format) (x y z : Float) → finite x ≡ true → finite y ≡ false → add f (mul f x y) z ≡ fma f x y z
unfolding fma add mul
fma_right f nan y z g h = absurd (false≢true g)
fma_right f (inf s) y z g h = absurd (false≢true g)
fma_right f (fin s m e) nan z g h = refl
fma_right f (fin s m e) (inf t) z g h = refl
fma_right f (fin s m e) (fin t n d) z g h = absurd (true≢false h)

pub fma_last : (f : Format) (x y z : Float) → finite x ≡ true → finite y ≡ true → finite z ≡ false → z ≡ fma f x y z
unfolding fma
fma_last f nan y z g h k = absurd (false≢true g)
fma_last f (inf s) y z g h k = absurd (false≢true g)
fma_last f (fin s m e) nan z g h k = absurd (false≢true h)
fma_last f (fin s m e) (inf t) z g h k = absurd (false≢true h)
fma_last f (fin s m e) (fin t n d) nan g h k = refl
fma_last f (fin s m e) (fin t n d) (inf u) g h k = refl
fma_last f (fin s m e) (fin t n d) (fin u p r) g h k = absurd (true≢false k)

-- ---- the three as fractions over L
ruleset ac = (mul_assoc, mul_comm, mul_left_comm)

product : (X Y De Dd Dg A B L : ℕ) → X * L ≡ A * De → Y * L ≡ B * Dd → X * Y * Dg * (L * L) ≡ A * B * (De * Dd * Dg)
product X Y De Dd Dg A B L p q = regroup ∙ ap₂ (λ (a b : ℕ). a * b * Dg) p q ∙ simp ac
  where
    regroup : X * Y * Dg * (L * L) ≡ X * L * (Y * L) * Dg
    regroup = simp ac

third : (Z De Dd Dg C L : ℕ) → Z * L ≡ C * Dg → Z * (De * Dd) * (L * L) ≡ C * L * (De * Dd * Dg)
third Z De Dd Dg C L p = regroup ∙ ap (λ (a : ℕ). a * (De * Dd) * L) p ∙ simp ac
  where
    regroup : Z * (De * Dd) * (L * L) ≡ Z * L * (De * Dd) * L
    regroup = simp ac

pub powers : (m n x y : ℕ) → m * 2 ^ x * (n * 2 ^ y) ≡ m * n * 2 ^ (x + y)
powers m n x y = simp (pow-add, mul_assoc, mul_comm, mul_left_comm)

pub later : (p z l : ℕ) → p * 2 ^ z * 2 ^ l ≡ p * 2 ^ (z + l)
later p z l = mul_assoc p (2 ^ z) (2 ^ l) ∙ ap (λ (k : ℕ). p * k) (sym (pow-add 2 z l))

pub fma_parts : (f : Format) (x y z : Float) (s t u : Bool) (m n p i j k l : ℕ) → HasValue x s (m * 2 ^ i) (2 ^ l) → HasValue y t (n * 2 ^ j) (2 ^ l) → HasValue z u (p * 2 ^ k) (2 ^ l)
    → fma f x y z ≡ sum f (unlike s t) (m * n * 2 ^ (i + j)) u (p * 2 ^ (k + l)) (2 ^ l * 2 ^ l)
unfolding fma
fma_parts f nan y z s t u m n p i j k l X Y Z = absurd X
fma_parts f (inf _) y z s t u m n p i j k l X Y Z = absurd X
fma_parts f (fin s' M e) nan z s t u m n p i j k l X Y Z = absurd Y
fma_parts f (fin s' M e) (inf _) z s t u m n p i j k l X Y Z = absurd Y
fma_parts f (fin s' M e) (fin t' N d) nan s t u m n p i j k l X Y Z = absurd Z
fma_parts f (fin s' M e) (fin t' N d) (inf _) s t u m n p i j k l X Y Z = absurd Z
fma_parts f (fin s' M e) (fin t' N d) (fin u' P g) s t u m n p i j k l X Y Z =
    ap₂ (λ (a b : Bool). sum f a (M * up e * (N * up d) * down g) b (P * up g * (down e * down d)) (down e * down d * down g)) (ap₂ unlike X.0 Y.0) Z.0
    ∙ sum_same f (unlike s t) (M * up e * (N * up d) * down g) u (P * up g * (down e * down d)) (down e * down d * down g) (m * n * 2 ^ (i + j)) (p * 2 ^ (k + l)) (2 ^ l * 2 ^ l)
    (mul-pos (mul-pos (down_pos e) (down_pos d)) (down_pos g)) (mul-pos (pow_pos l) (pow_pos l))
    (product (M * up e) (N * up d) (down e) (down d) (down g) (m * 2 ^ i) (n * 2 ^ j) (2 ^ l) X.1 Y.1 ∙ ap (λ (a : ℕ). a * (down e * down d * down g)) (powers m n i j))
    (third (P * up g) (down e) (down d) (down g) (p * 2 ^ k) (2 ^ l) Z.1 ∙ ap (λ (a : ℕ). a * (down e * down d * down g)) (later p k l))
