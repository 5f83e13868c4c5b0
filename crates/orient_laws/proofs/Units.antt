-- Values of binary32 that are not negative, as whole numbers of its smallest unit, and differences of them. Assumes nothing.
use Prim.Native.Nat.{ℕ, zero, suc, ◌+◌, ◌-◌, ◌*◌, ◌^◌, ◌<◌, ◌≤◌}
use mathlib.Core.Path.{◌≡◌, refl, sym, ap, ◌∙◌, subst}
use mathlib.Core.Bool.{Bool, true, false, not, false≢true}
use mathlib.Core.Logic.{⊎_elim}
use native.Mathlib.Nat.{mul_comm, mul_assoc, mul_right_comm, mul-one, zero-mul, mul-pos, suc-mul, not-le_of_lt, lt_of_mul-lt-mul_right, mul-lt-mul_of_pos_right, eq_of_mul-eq-mul_right}
use native.Mathlib.Omega.{arith}
use lib.Dec.{T}
use lib.IntN.{ℤ, pos, negsuc}
use lib.Pow.{pow_pos, pow-add, pow-lt}
use lib.Ieee.{Float, nan, inf, fin, binary32, up, down, round, neg, add, sub, le, lt, fits}
use lib.Ieee.Fits.{up_pos, down_pos}
use lib.Ieee.Exact.{HasValue}
use lib.Ieee.Scale.{finite, round_same}
use Rattle.lists.proofs.Naturals.{le_or_lt}
use Rattle.packing.proofs.Sums.{diff_mul}
use Rattle.ieee.proofs.SignedParts.{round_zero}
use Rattle.ieee.proofs.SignedParts.{plus, minus}
use Rattle.ieee_laws.proofs.Order.{le_fin, lt_fin}
use Rattle.ieee.proofs.SignedParts.{summed}
use Rattle.ieee_laws.proofs.Monotone.{nil}
use Rattle.hal_angle.proofs.AngleDoubled.{fits_parts}

-- x is X / 2 ^ 149; a zero may have a sign
pub record At (x : Float) (X : ℕ) : Type 0 where
  pub s : Bool
  pub m : ℕ
  pub e : ℤ
  pub is : x ≡ fin s m e
  pub plain : minus s m ≡ 0
  pub value : m * up e * 2 ^ 149 ≡ X * down e

-- and X has at most 24 digits before its zeros
pub record Units (x : Float) : Type 0 where
  pub digits : ℕ
  pub place : ℕ
  pub few : digits < 16777216
  pub at : At x (digits * 2 ^ place)

down_place : (k : ℕ) → 2 ^ suc k ≤ 2 ^ 149 → suc k ≤ 149
down_place k h = ⊎_elim (λ l. l) (λ l. absurd (not-le_of_lt (pow-lt l) h)) (le_or_lt (suc k) 149)

units_fin : (s : Bool) (m : ℕ) (e : ℤ) → T (fits binary32 (fin s m e)) → minus s m ≡ 0 → Units (fin s m e)
units_fin s m (pos k) f p =
    let q = fits_parts s m (pos k) f in
    record { digits = m; place = k + 149; few = q.0; at = record { s = s; m = m; e = pos k; is = refl; plain = p; value = mul_assoc m (2 ^ k) (2 ^ 149) ∙ ap (λ (z : ℕ). m * z) (sym (pow-add 2 k 149)) ∙ sym (mul-one (m * 2 ^ (k + 149))) } }
units_fin s m (negsuc k) f p =
    let q = fits_parts s m (negsuc k) f in
    let l = down_place k q.1 in
    let z : 149 ≡ 149 - suc k + suc k = omega arith in
    record { digits = m; place = 149 - suc k; few = q.0; at = record { s = s; m = m; e = negsuc k; is = refl; plain = p; value = ap (λ (w : ℕ). w * 2 ^ 149) (mul-one m) ∙ ap (λ (w : ℕ). m * 2 ^ w) z ∙ ap (λ (w : ℕ). m * w) (pow-add 2 (149 - suc k) (suc k)) ∙ sym (mul_assoc m (2 ^ (149 - suc k)) (2 ^ suc k)) } }

-- a value that is not negative
level_of_lem : (s : Bool) (m : ℕ) (e : ℤ) → le nil (fin s m e) ≡ true → minus s m ≡ 0
level_of_lem false m e h = refl
level_of_lem true m e h = let c = (le_fin false 0 (pos 0) true m e h).cross in first_zero m (up e) (up_pos e) (omega arith)
  where
    first_zero : (m u : ℕ) → 0 < u → m * u ≡ 0 → m ≡ 0
    first_zero zero u U h = refl
    first_zero (suc m) u U h = let z = suc-mul m u in absurd (omega arith)

pub units_of : (x : Float) → T (fits binary32 x) → finite x ≡ true → le nil x ≡ true → Units x
units_of nan f h l = absurd (false≢true h)
units_of (inf s) f h l = absurd (false≢true h)
units_of (fin s m e) f h l = units_fin s m e f (level_of_lem s m e l)

-- ---- differences
level_plus : (s : Bool) (m k : ℕ) → minus s m ≡ 0 → plus s (m * k) ≡ m * k
level_plus false m k h = refl
level_plus true m k h = rw (h, zero-mul)

level_minus : (s : Bool) (m k : ℕ) → minus s m ≡ 0 → minus s (m * k) ≡ 0
level_minus false m k h = refl
level_minus true m k h = rw (h, zero-mul)

turn_plus : (s : Bool) (m k : ℕ) → minus s m ≡ 0 → plus (not s) (m * k) ≡ 0
turn_plus false m k h = refl
turn_plus true m k h = rw (h, zero-mul)

turn_minus : (s : Bool) (m k : ℕ) → minus s m ≡ 0 → minus (not s) (m * k) ≡ m * k
turn_minus false m k h = refl
turn_minus true m k h = rw (h, zero-mul)

signed_size : (sign : Bool) (size a b : ℕ) → plus sign size + b ≡ minus sign size + a → b < a → (sign ≡ false) × (size ≡ a - b)
signed_size true size a b e h = absurd (omega arith)
signed_size false size a b e h = (refl, omega arith)

-- a fraction of c that is X units
cross_of : (m u d c X U : ℕ) → m * u * U ≡ X * c → m * u * d * U ≡ X * (c * d)
cross_of m u d c X U h = mul_right_comm (m * u) d U ∙ ap (λ (z : ℕ). z * d) h ∙ mul_assoc X c d

-- a difference before it is rounded: a / c less b / c, where a / c is X units and b / c is Y
record Difference (U : ℕ) (z : Float) (X Y : ℕ) : Type 0 where
  pub sign : Bool
  pub size : ℕ
  pub a : ℕ
  pub b : ℕ
  pub c : ℕ
  pub some : 0 < c
  pub is : z ≡ round binary32 sign size c
  pub parts : plus sign size + b ≡ minus sign size + a
  pub first : a * U ≡ X * c
  pub second : b * U ≡ Y * c

difference : (U : ℕ) (s : Bool) (m : ℕ) (e : ℤ) (t : Bool) (n : ℕ) (d : ℤ) (X Y : ℕ) → minus s m ≡ 0 → minus t n ≡ 0 → m * up e * U ≡ X * down e → n * up d * U ≡ Y * down d
    → Difference U (sub binary32 (fin s m e) (fin t n d)) X Y
unfolding sub add neg
difference U s m e t n d X Y p q v w =
    let a = m * up e * down d in
    let b = n * up d * down e in
    let c = down e * down d in
    let z = summed binary32 s a (not t) b c in
    let pa : plus s a ≡ a = ap (plus s) (mul_assoc m (up e) (down d)) ∙ level_plus s m (up e * down d) p ∙ sym (mul_assoc m (up e) (down d)) in
    let ma : minus s a ≡ 0 = ap (minus s) (mul_assoc m (up e) (down d)) ∙ level_minus s m (up e * down d) p in
    let pb : plus (not t) b ≡ 0 = ap (plus (not t)) (mul_assoc n (up d) (down e)) ∙ turn_plus t n (up d * down e) q in
    let mb : minus (not t) b ≡ b = ap (minus (not t)) (mul_assoc n (up d) (down e)) ∙ turn_minus t n (up d * down e) q ∙ sym (mul_assoc n (up d) (down e)) in
    record {
      sign = z.sign;
      size = z.size;
      a = a;
      b = b;
      c = c;
      some = mul-pos (down_pos e) (down_pos d);
      is = z.is;
      parts = sums (plus z.sign z.size) (minus z.sign z.size) (plus s a) (minus s a) (plus (not t) b) (minus (not t) b) a b pa ma pb mb z.parts;
      first = cross_of m (up e) (down d) (down e) X U v;
      second = cross_of n (up d) (down e) (down d) Y U w ∙ ap (λ (k : ℕ). Y * k) (mul_comm (down d) (down e));
    }
  where
    sums : (ps ms pa ma pb mb a b : ℕ) → pa ≡ a → ma ≡ 0 → pb ≡ 0 → mb ≡ b → ps + (ma + mb) ≡ ms + (pa + pb) → ps + b ≡ ms + a
    sums ps ms pa ma pb mb a b e f g h k = omega arith

difference_of : {x y : Float} {X Y : ℕ} → At x X → At y Y → Difference (2 ^ 149) (sub binary32 x y) X Y
difference_of {x} {y} {X} {Y} p q = rw (p.is, q.is) (difference (2 ^ 149) p.s p.m p.e q.s q.m q.e X Y p.plain q.plain p.value q.value)

-- above zero
above : (U : ℕ) → 0 < U → (z : Float) (X Y : ℕ) → Difference U z X Y → Y < X → z ≡ round binary32 false (X - Y) U
above U some z X Y d h =
    let l : d.b < d.a = lt_of_mul-lt-mul_right U (subst (λ (k : ℕ). k < d.a * U) (sym d.second) (subst (λ (k : ℕ). Y * d.c < k) (sym d.first) (mul-lt-mul_of_pos_right h d.some))) in
    let g = signed_size d.sign d.size d.a d.b d.parts l in
    d.is ∙ ap (λ (k : Bool). round binary32 k d.size d.c) g.0 ∙ ap (λ (k : ℕ). round binary32 false k d.c) g.1
    ∙ round_same binary32 false (d.a - d.b) d.c (X - Y) U d.some some (diff_mul d.a d.b U ∙ ap (λ (k : ℕ). k - d.b * U) d.first ∙ ap (λ (k : ℕ). X * d.c - k) d.second ∙ sym (diff_mul X Y d.c))

pub sub_units : {x y : Float} {X Y : ℕ} → At x X → At y Y → Y < X → sub binary32 x y ≡ round binary32 false (X - Y) (2 ^ 149)
sub_units {x} {y} {X} {Y} p q h = above (2 ^ 149) (pow_pos 149) (sub binary32 x y) X Y (difference_of p q) h

-- level: a zero, of one sign or the other
same_size : (sign : Bool) (size a b : ℕ) → plus sign size + b ≡ minus sign size + a → a ≡ b → size ≡ 0
same_size true size a b e h = omega arith
same_size false size a b e h = omega arith

pub sub_level : {x y : Float} {X : ℕ} → At x X → At y X → (s : Bool) × (sub binary32 x y ≡ fin s 0 (pos 0))
sub_level {x} {y} {X} p q =
    let d = difference_of p q in
    let l : d.a ≡ d.b = eq_of_mul-eq-mul_right (2 ^ 149) (pow_pos 149) d.a d.b (d.first ∙ sym d.second) in
    (d.sign, d.is ∙ round_zero binary32 d.sign d.size d.c d.some (same_size d.sign d.size d.a d.b d.parts l))

-- a value that is above zero has the sign of a number above zero
pub at_value : (x : Float) (X : ℕ) → At x X → 0 < X → HasValue x false X (2 ^ 149)
at_value x X a h = rw a.is (go a.s a.plain)
  where
    nothing : (m u d U : ℕ) → m ≡ 0 → 0 < d → m * u * U ≡ X * d → ⊥
    nothing m u d U z D v = let k = mul-pos h D in let e : m * u * U ≡ 0 = rw (z, zero-mul, zero-mul) in omega arith

    go : (s : Bool) → minus s a.m ≡ 0 → HasValue (fin s a.m a.e) false X (2 ^ 149)
    go false p = (refl, a.value)
    go true p = absurd (nothing a.m (up a.e) (down a.e) (2 ^ 149) p (down_pos a.e) a.value)

-- and back
pub value_at : (x : Float) (X : ℕ) → HasValue x false X (2 ^ 149) → At x X
value_at nan X h = absurd h
value_at (inf s) X h = absurd h
value_at (fin s m e) X h = record { s = s; m = m; e = e; is = refl; plain = rw h.0; value = h.1 }

-- the order is that of the units
pub at_less : (x y : Float) (X Y : ℕ) → At x X → At y Y → lt x y ≡ true → X < Y
at_less x y X Y a b h =
    let l : lt (fin a.s a.m a.e) (fin b.s b.m b.e) ≡ true = rw (← a.is, ← b.is) h in
    less (2 ^ 149) a.s a.m (up a.e) (down a.e) b.s b.m (up b.e) (down b.e) X Y (down_pos a.e) (down_pos b.e) a.plain b.plain a.value b.value (pow_pos 149) (lt_fin a.s a.m a.e b.s b.m b.e l).cross
  where
    less : (U : ℕ) (s : Bool) (m u c : ℕ) (t : Bool) (n v d : ℕ) (X Y : ℕ) → 0 < c → 0 < d → minus s m ≡ 0 → minus t n ≡ 0 → m * u * U ≡ X * c → n * v * U ≡ Y * d → 0 < U
        → plus s (m * u) * d + minus t (n * v) * c < plus t (n * v) * c + minus s (m * u) * d → X < Y
    less U s m u c t n v d X Y C D p q g k P h =
        let pa = level_plus s m u p in
        let ma = level_minus s m u p in
        let pb = level_plus t n v q in
        let mb = level_minus t n v q in
        let z : m * u * d < n * v * c = drop (plus s (m * u)) (minus s (m * u)) (plus t (n * v)) (minus t (n * v)) (m * u) (n * v) c d pa ma pb mb h in
        let y : m * u * d * U < n * v * c * U = mul-lt-mul_of_pos_right z P in
        let ca : m * u * d * U ≡ X * (c * d) = cross_of m u d c X U g in
        let cb : n * v * c * U ≡ Y * (c * d) = cross_of n v c d Y U k ∙ ap (λ (w : ℕ). Y * w) (mul_comm d c) in
        lt_of_mul-lt-mul_right (c * d) (subst (λ (w : ℕ). w < Y * (c * d)) ca (subst (λ (w : ℕ). m * u * d * U < w) cb y))
      where
        drop : (ps ms pt mt a b c d : ℕ) → ps ≡ a → ms ≡ 0 → pt ≡ b → mt ≡ 0 → ps * d + mt * c < pt * c + ms * d → a * d < b * c
        drop ps ms pt mt a b c d e f g h k = let x : ms * d ≡ 0 = rw (f, zero-mul) in let y : mt * c ≡ 0 = rw (h, zero-mul) in rw (← e, ← g) (omega arith)
