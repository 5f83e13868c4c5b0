-- Bounds of a float, and what an operation makes of them: the results at the ends, which a caller computes. For both formats. Assumes nothing.
use Rattle.std.proofs.Common.{◌≡◌, ℕ, ◌+◌, ◌*◌, ◌≤◌, true, false, not, T, pos, refl, ap, mul_comm, zero-mul, arith, ltb-true, lt-ltb, ne_eqb}
use mathlib.Core.Bool.{false≢true}
use lib.Ieee.{Float, nan, inf, fin, Format, binary32, binary64, up, down, neg, add, sub, mul, div, lt, le, is_nan, of_bits, of_int}
use lib.Ieee.Scale.{finite}
use Rattle.ieee.specs.Fused.{fma, convert}
use Rattle.ieee.specs.Whole.{floor, round_even}
use Rattle.ieee.specs.F32.{abs_of}
use Rattle.ieee_laws.proofs.Turned.{nonzero}
use Rattle.ieee_laws.proofs.Order.{fin_le, le_trans_float, lt_le, lt_le_trans, Marked, endless, ended}
use Rattle.ieee_laws.proofs.Monotone.{nil, above_zero, neg_finite, add_le, sub_le, mul_le_left, mul_le, unlike_swap, div_le_left, div_le_right, fma_le_addend, fma_le_left, convert_le, round_even_le, floor_le, of_int_le}

-- x lies from lo to hi, which are finite
pub record Bounds (lo hi x : Float) : Type 0 where
  pub from : finite lo ≡ true
  pub to : finite hi ≡ true
  pub low : le lo x ≡ true
  pub high : le x hi ≡ true

finite_between : (lo hi x : Float) → finite lo ≡ true → finite hi ≡ true → le lo x ≡ true → le x hi ≡ true → finite x ≡ true
unfolding le
finite_between nan hi x p q h k = absurd (false≢true p)
finite_between (inf s) hi x p q h k = absurd (false≢true p)
finite_between (fin s m e) nan x p q h k = absurd (false≢true q)
finite_between (fin s m e) (inf t) x p q h k = absurd (false≢true q)
finite_between (fin s m e) (fin t n d) nan p q h k = absurd (false≢true h)
finite_between (fin s m e) (fin t n d) (inf true) p q h k = absurd (false≢true h)
finite_between (fin s m e) (fin t n d) (inf false) p q h k = absurd (false≢true k)
finite_between (fin s m e) (fin t n d) (fin u o g) p q h k = refl

pub bounds_finite : {lo hi x : Float} → Bounds lo hi x → finite x ≡ true
bounds_finite {lo} {hi} {x} b = finite_between lo hi x b.from b.to b.low b.high

pub bounds_wider : {lo hi x : Float} (lo' hi' : Float) → finite lo' ≡ true → finite hi' ≡ true → le lo' lo ≡ true → le hi hi' ≡ true → Bounds lo hi x → Bounds lo' hi' x
bounds_wider {lo} {hi} {x} lo' hi' p q h k b =
    record { from = p; to = q; low = le_trans_float lo' lo x h b.low; high = le_trans_float x hi hi' b.high k }

pub bounds_point : (x : Float) → finite x ≡ true → Bounds x x x
bounds_point nan h = absurd (false≢true h)
bounds_point (inf s) h = absurd (false≢true h)
bounds_point (fin s m e) h =
    let r = fin_le s m e s m e (record { cross = omega arith }) in
    record { from = h; to = h; low = r; high = r }

pub bounds_order : {lo hi x : Float} → Bounds lo hi x → le lo hi ≡ true
bounds_order {lo} {hi} {x} b = le_trans_float lo x hi b.low b.high

-- what is at least lo, and lo not negative, is not negative; and the like above zero
pub bounds_nonneg : {lo hi x : Float} → Bounds lo hi x → le nil lo ≡ true → le nil x ≡ true
bounds_nonneg {lo} {hi} {x} b h = le_trans_float nil lo x h b.low

pub bounds_above : {lo hi x : Float} → Bounds lo hi x → lt nil lo ≡ true → lt nil x ≡ true
bounds_above {lo} {hi} {x} b h = lt_le_trans nil lo x h b.low

-- ---- the operations

pub add_bounds : (f : Format) {a b c d x y : Float} → finite (add f a c) ≡ true → finite (add f b d) ≡ true → Bounds a b x → Bounds c d y → Bounds (add f a c) (add f b d) (add f x y)
add_bounds f {a} {b} {c} {d} {x} {y} p q u v =
    let X = bounds_finite u in
    let Y = bounds_finite v in
    record {
      from = p;
      to = q;
      low = add_le f a x c y u.from X v.from Y u.low v.low;
      high = add_le f x b y d X u.to Y v.to u.high v.high;
    }

pub sub_bounds : (f : Format) {a b c d x y : Float} → finite (sub f a d) ≡ true → finite (sub f b c) ≡ true → Bounds a b x → Bounds c d y → Bounds (sub f a d) (sub f b c) (sub f x y)
sub_bounds f {a} {b} {c} {d} {x} {y} p q u v =
    let X = bounds_finite u in
    let Y = bounds_finite v in
    record {
      from = p;
      to = q;
      low = sub_le f a x d y u.from X v.to Y u.low v.high;
      high = sub_le f x b y c X u.to Y v.from u.high v.low;
    }

-- of two that are not negative
pub mul_bounds : (f : Format) {a b c d x y : Float} → le nil a ≡ true → le nil c ≡ true → finite (mul f a c) ≡ true → finite (mul f b d) ≡ true
    → Bounds a b x → Bounds c d y → Bounds (mul f a c) (mul f b d) (mul f x y)
mul_bounds f {a} {b} {c} {d} {x} {y} h k p q u v =
    let X = bounds_finite u in
    let Y = bounds_finite v in
    let b_up = le_trans_float nil a b h (bounds_order u) in
    record {
      from = p;
      to = q;
      low = mul_le f a x c y u.from X v.from Y u.low v.low (bounds_nonneg u h) k;
      high = mul_le f x b y d X u.to Y v.to u.high v.high b_up (bounds_nonneg v k);
    }

-- of any by one that is not negative
pub mul_bounds_by : (f : Format) {a b x : Float} (y : Float) → finite y ≡ true → le nil y ≡ true → finite (mul f a y) ≡ true → finite (mul f b y) ≡ true
    → Bounds a b x → Bounds (mul f a y) (mul f b y) (mul f x y)
mul_bounds_by f {a} {b} {x} y Y k p q u =
    let X = bounds_finite u in
    record { from = p; to = q; low = mul_le_left f a x y u.from X Y u.low k; high = mul_le_left f x b y X u.to Y u.high k }

-- of one that is not negative by one above zero
pub div_bounds : (f : Format) {a b c d x y : Float} → le nil a ≡ true → lt nil c ≡ true → finite (div f a d) ≡ true → finite (div f b c) ≡ true
    → Bounds a b x → Bounds c d y → Bounds (div f a d) (div f b c) (div f x y)
div_bounds f {a} {b} {c} {d} {x} {y} h k p q u v =
    let X = bounds_finite u in
    let Y = bounds_finite v in
    let y_up = bounds_above v k in
    let d_up = lt_le_trans nil c d k (bounds_order v) in
    record {
      from = p;
      to = q;
      low = le_trans_float (div f a d) (div f x d) (div f x y) (div_le_left f a x d u.from X v.to u.low d_up) (div_le_right f x y d X Y v.to (bounds_nonneg u h) y_up v.high);
      high = le_trans_float (div f x y) (div f x c) (div f b c) (div_le_right f x c y X v.from Y (bounds_nonneg u h) k v.low) (div_le_left f x b c X u.to v.from u.high k);
    }

-- of any by one above zero
pub div_bounds_by : (f : Format) {a b x : Float} (y : Float) → finite y ≡ true → lt nil y ≡ true → finite (div f a y) ≡ true → finite (div f b y) ≡ true
    → Bounds a b x → Bounds (div f a y) (div f b y) (div f x y)
div_bounds_by f {a} {b} {x} y Y k p q u =
    let X = bounds_finite u in
    record { from = p; to = q; low = div_le_left f a x y u.from X Y u.low k; high = div_le_left f x b y X u.to Y u.high k }

-- the fused x * y + z, x and y not negative
pub fma_swap : (f : Format) (x y z : Float) → finite x ≡ true → finite y ≡ true → finite z ≡ true → fma f x y z ≡ fma f y x z
unfolding fma
fma_swap f (fin s m e) (fin t n d) (fin u o g) p q r = rw (unlike_swap s t, mul_comm (m * up e) (n * up d), mul_comm (down e) (down d))
fma_swap f nan y z p q r = absurd (false≢true p)
fma_swap f (inf s) y z p q r = absurd (false≢true p)
fma_swap f (fin s m e) nan z p q r = absurd (false≢true q)
fma_swap f (fin s m e) (inf t) z p q r = absurd (false≢true q)
fma_swap f (fin s m e) (fin t n d) nan p q r = absurd (false≢true r)
fma_swap f (fin s m e) (fin t n d) (inf u) p q r = absurd (false≢true r)

pub fma_le : (f : Format) (x x' y y' z z' : Float) → finite x ≡ true → finite x' ≡ true → finite y ≡ true → finite y' ≡ true → finite z ≡ true → finite z' ≡ true
    → le x x' ≡ true → le y y' ≡ true → le z z' ≡ true → le nil x' ≡ true → le nil y ≡ true → le (fma f x y z) (fma f x' y' z') ≡ true
fma_le f x x' y y' z z' p p' q q' r r' h k l a b =
    le_trans_float (fma f x y z) (fma f x' y z) (fma f x' y' z') (fma_le_left f x x' y z p p' q r h b)
    (le_trans_float (fma f x' y z) (fma f x' y' z) (fma f x' y' z')
    (rw (fma_swap f x' y z p' q r, fma_swap f x' y' z p' q' r) (fma_le_left f y y' x' z q q' p' r k a))
    (fma_le_addend f x' y' z z' p' q' r r' l))

pub fma_bounds : (f : Format) {a b c d g h x y z : Float} → le nil a ≡ true → le nil c ≡ true → finite (fma f a c g) ≡ true → finite (fma f b d h) ≡ true
    → Bounds a b x → Bounds c d y → Bounds g h z → Bounds (fma f a c g) (fma f b d h) (fma f x y z)
fma_bounds f {a} {b} {c} {d} {g} {h} {x} {y} {z} i j p q u v w =
    let X = bounds_finite u in
    let Y = bounds_finite v in
    let Z = bounds_finite w in
    let b_up = le_trans_float nil a b i (bounds_order u) in
    record {
      from = p;
      to = q;
      low = fma_le f a x c y g z u.from X v.from Y w.from Z u.low v.low w.low (bounds_nonneg u i) j;
      high = fma_le f x b y d z h X u.to Y v.to Z w.to u.high v.high w.high b_up (bounds_nonneg v j);
    }

pub convert_bounds : (f : Format) {a b x : Float} → finite (convert f a) ≡ true → finite (convert f b) ≡ true → Bounds a b x → Bounds (convert f a) (convert f b) (convert f x)
convert_bounds f {a} {b} {x} p q u = record { from = p; to = q; low = convert_le f a x u.low; high = convert_le f x b u.high }

pub round_even_bounds : (f : Format) {a b x : Float} → finite (round_even f a) ≡ true → finite (round_even f b) ≡ true → Bounds a b x → Bounds (round_even f a) (round_even f b) (round_even f x)
round_even_bounds f {a} {b} {x} p q u = record { from = p; to = q; low = round_even_le f a x u.low; high = round_even_le f x b u.high }

pub floor_bounds : (f : Format) {a b x : Float} → finite (floor f a) ≡ true → finite (floor f b) ≡ true → Bounds a b x → Bounds (floor f a) (floor f b) (floor f x)
floor_bounds f {a} {b} {x} p q u = record { from = p; to = q; low = floor_le f a x u.low; high = floor_le f x b u.high }

pub of_int_bounds : (f : Format) (lo hi n : ℕ) → finite (of_int f (pos lo)) ≡ true → finite (of_int f (pos hi)) ≡ true → lo ≤ n → n ≤ hi → Bounds (of_int f (pos lo)) (of_int f (pos hi)) (of_int f (pos n))
of_int_bounds f lo hi n p q h k = record { from = p; to = q; low = of_int_le f lo n h; high = of_int_le f n hi k }

-- ---- the absolute value

-- |x| < h
pub abs_lt : (x h : Float) → lt (abs_of x) h ≡ true → (lt (neg h) x ≡ true) × (lt x h ≡ true)
unfolding lt abs_of neg
abs_lt nan h k = absurd (false≢true k)
abs_lt (inf s) nan k = absurd (false≢true k)
abs_lt (inf s) (inf t) k = absurd (false≢true k)
abs_lt (inf s) (fin t n d) k = absurd (false≢true k)
abs_lt (fin s m e) nan k = absurd (false≢true k)
abs_lt (fin s m e) (inf true) k = absurd (false≢true k)
abs_lt (fin s m e) (inf false) k = (refl, refl)
abs_lt (fin s m e) (fin true n d) k = absurd (false≢true k)
abs_lt (fin true m e) (fin false n d) k = (k, let l = ltb-true (m * up e * down d) (n * up d * down e) k in lt-ltb 0 (m * up e * down d + n * up d * down e) (omega arith))
abs_lt (fin false m e) (fin false n d) k = (let l = ltb-true (m * up e * down d) (n * up d * down e) k in lt-ltb 0 (n * up d * down e + m * up e * down d) (omega arith), k)

pub abs_bounds : (x h : Float) → finite h ≡ true → lt (abs_of x) h ≡ true → Bounds (neg h) h x
abs_bounds x h p k =
    let l = abs_lt x h k in
    record { from = neg_finite h p; to = p; low = lt_le (neg h) x l.0; high = lt_le x h l.1 }

-- ---- not negative

pub marked_nonneg : {x : Float} → Marked false x → le nil x ≡ true
unfolding le
marked_nonneg endless = refl
marked_nonneg (ended {m = m} {e = e}) = fin_le false 0 (pos 0) false m e (record { cross = omega (arith, zero-mul (down e)) })

pub abs_nonneg : (x : Float) → T (not (is_nan x)) → le nil (abs_of x) ≡ true
unfolding abs_of is_nan
abs_nonneg nan h = absurd h
abs_nonneg (inf s) h = marked_nonneg endless
abs_nonneg (fin s m e) h = marked_nonneg ended

-- the pattern 0 is zero in both formats
pub zero_is : (f : Format) → of_bits f 0 ≡ nil
unfolding of_bits
zero_is binary32 = refl
zero_is binary64 = refl

-- what is above zero is no zero
pub above_nonzero : (x : Float) → lt nil x ≡ true → nonzero x ≡ true
unfolding nonzero
above_nonzero nan h = refl
above_nonzero (inf s) h = refl
above_nonzero (fin s m e) h = ap not (ne_eqb m 0 (λ z. let p = (above_zero s m e h).size in omega arith))

one_above : (f : Format) → lt nil (of_int f (pos 1)) ≡ true
unfolding of_int lt
one_above binary32 = refl
one_above binary64 = refl

pub of_int_above : (f : Format) (n : ℕ) → 1 ≤ n → lt nil (of_int f (pos n)) ≡ true
of_int_above f n h = lt_le_trans nil (of_int f (pos 1)) (of_int f (pos n)) (one_above f) (of_int_le f 1 n h)
