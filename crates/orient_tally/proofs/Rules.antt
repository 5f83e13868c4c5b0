-- The laws of a window's samples that specs/Rules.antt states. Assumes nothing.
use Prim.Native.Nat.{ℕ, zero, suc, ◌+◌, ◌-◌, ◌*◌, ◌<◌, ◌≤◌}
use mathlib.Core.Path.{◌≡◌, refl, ◌∙◌}
use mathlib.Core.Bool.{Bool, true, false, not, ◌&&◌}
use mathlib.Core.List.{List, [], ◌∷◌}
use mathlib.Core.Logic.{⊎_elim}
use native.Mathlib.Nat.{mul-le-mul}
use native.Mathlib.Omega.{arith}
use lib.Dec.{T, lit<}
use lib.ListN.{length, get_or}
use lib.IntN.{pos}
use lib.Ieee.{Float, fin, binary32, of_bits, of_int, neg, mul, div, lt, le, eq, to_unsigned, is_nan}
use lib.Ieee.Scale.{finite}
use Rattle.lists.proofs.Bools.{and_both, or_true}
use Rattle.ieee.specs.F32.{◌⊗◌, ◌⊘◌, f32, rounded}
use Rattle.ieee.specs.Whole.{round_even}
use Rattle.ieee.specs.Numbers.{nought, three_halves, one, two, half}
use Rattle.ieee_laws.specs.Sign.{Turned, of_fin, turned, no_sign}
use Rattle.ieee_laws.proofs.Order.{le_or_lt_float, lt_le, le_number, lt_not_le, lt_le_trans}
use Rattle.ieee_laws.proofs.Monotone.{nil, to_unsigned_le}
use Rattle.ieee_laws.proofs.Bounds.{Bounds, bounds_point, bounds_wider, mul_bounds, div_bounds, round_even_bounds, of_int_bounds}
use Rattle.ieee_laws.proofs.Turned.{neg_opp, mul_turned, div_turned, le_turned, nonzero}
use Rattle.ieee_laws.proofs.TurnedOps.{same, nonzero_of}
use Rattle.params.specs.Limits.{scale_low, scale_high}
use Rattle.params.specs.Table.{within, all_good}
use Rattle.params.proofs.Within.{scale_bounds}
use Rattle.picture.specs.Picture.{slope_at, four_at, first_in, past_in}
use Rattle.picture.specs.declared.Size.{Size}
use Rattle.samples.proofs.Slopes.{good_slope}
use Rattle.hal.specs.Numbers.{minus32}
use Rattle.hal.specs.Exp.{in_down}
use Rattle.hal_reach.specs.Reach.{in_angle}
use Rattle.orient_window.specs.Window.{radius_factor, radius_of, sigma_of, falloff_of, window_of, cell}
use Rattle.orient_window.specs.Good.{row_good, window_good}
use Rattle.orient_window.specs.declared.Window.{Window}
use Rattle.orient_window.proofs.Spans.{spans}
use Rattle.orient_tally.specs.Sample.{square_at, apart}
use Rattle.orient_tally.specs.Rules.{TallyRule}
use Rattle.lists.proofs.Every.{every_all}

slopes : (img : List Float) (win : Window) (i j : ℕ) → window_good img win ≡ true → i < win.rows → j < win.cols
    → in_angle (slope_at img win.size.width (win.top + i) (win.left + j)).dx (slope_at img win.size.width (win.top + i) (win.left + j)).dy ≡ true
unfolding window_good row_good
slopes img win i j g a b =
    let w = win.size.width in
    let y = win.top + i in
    let r = every_all win.rows (λ i. row_good img win (win.top + i)) g i a in
    good_slope img w y (win.left + j) (every_all win.cols (λ j. all_good (four_at img w y (win.left + j))) r j b)

-- ---- the exponent: over a piece of the scales from a to b
abbrev spread : Float → Float
spread s = two ⊗ sigma_of s ⊗ sigma_of s

abbrev share : Float → Float
share s = one ⊘ spread s

abbrev most : Float → ℕ
most b = 2 * (radius_of b * radius_of b)

abbrev thirty_two : Float
thirty_two = fin false 1 (pos 5)

-- what is worked out at the ends of a piece
pub record Piece (a b : Float) : Type 0 where
  pub ends : (finite a ≡ true) × (finite b ≡ true)
  pub sigma : (le nil a ≡ true) × ((finite (sigma_of a) ≡ true) × (finite (sigma_of b) ≡ true))
  pub up : (le nil (sigma_of a) ≡ true) × ((finite (two ⊗ sigma_of a) ≡ true) × (finite (two ⊗ sigma_of b) ≡ true))
  pub square : (le nil (two ⊗ sigma_of a) ≡ true) × ((finite (spread a) ≡ true) × (finite (spread b) ≡ true))
  pub shares : (lt nil (spread a) ≡ true) × ((finite (share b) ≡ true) × (finite (share a) ≡ true))
  pub radius : (finite (radius_factor ⊗ a) ≡ true) × ((finite (radius_factor ⊗ b) ≡ true) × ((finite (rounded (radius_factor ⊗ a)) ≡ true) × (finite (rounded (radius_factor ⊗ b)) ≡ true)))
  pub whole : (finite (of_int binary32 (pos (most b))) ≡ true) × (le nil (share b) ≡ true)
  pub product : (finite (of_int binary32 (pos 0) ⊗ share b) ≡ true) × (finite (of_int binary32 (pos (most b)) ⊗ share a) ≡ true)
  pub fine : (le nil (of_int binary32 (pos 0) ⊗ share b) ≡ true) × (le (of_int binary32 (pos (most b)) ⊗ share a) thirty_two ≡ true)

fixed : (finite one ≡ true) × ((le nil one ≡ true) × ((finite two ≡ true) × ((le nil two ≡ true) × ((finite three_halves ≡ true) × ((le nil three_halves ≡ true) × ((finite radius_factor ≡ true) × ((le nil radius_factor ≡ true) × (finite thirty_two ≡ true))))))))
unfolding of_bits le
fixed = (refl, (refl, (refl, (refl, (refl, (refl, (refl, (refl, refl))))))))

zero_int : (finite (of_int binary32 (pos 0)) ≡ true) × (le nil (of_int binary32 (pos 0)) ≡ true)
unfolding of_int le
zero_int = (refl, refl)

pub piece_in : (a b s : Float) (n : ℕ) → Piece a b → Bounds a b s → n ≤ most s → Bounds nil thirty_two (of_int binary32 (pos n) ⊗ share s)
unfolding radius_of
piece_in a b s n c u h =
    let f = fixed in
    let sig = mul_bounds binary32 f.1.1.1.1.1.0 c.sigma.0 c.sigma.1.0 c.sigma.1.1 (bounds_point three_halves f.1.1.1.1.0) u in
    let dbl = mul_bounds binary32 f.1.1.1.0 c.up.0 c.up.1.0 c.up.1.1 (bounds_point two f.1.1.0) sig in
    let spr = mul_bounds binary32 c.square.0 c.up.0 c.square.1.0 c.square.1.1 dbl sig in
    let shr = div_bounds binary32 f.1.0 c.shares.0 c.shares.1.0 c.shares.1.1 (bounds_point one f.0) spr in
    let rad = round_even_bounds binary32 c.radius.1.1.0 c.radius.1.1.1 (mul_bounds binary32 f.1.1.1.1.1.1.1.0 c.sigma.0 c.radius.0 c.radius.1.0 (bounds_point radius_factor f.1.1.1.1.1.1.0) u) in
    let r : radius_of s ≤ radius_of b = to_unsigned_le 64 (rounded (radius_factor ⊗ s)) (rounded (radius_factor ⊗ b)) rad.high in
    let m : n ≤ most b = omega (arith, mul-le-mul {n₁ = radius_of s} {m₁ = radius_of s} {n₂ = radius_of b} {m₂ = radius_of b} r r) in
    let num = of_int_bounds binary32 0 (most b) n zero_int.0 c.whole.0 (omega arith) m in
    bounds_wider nil thirty_two refl f.1.1.1.1.1.1.1.1 c.fine.0 c.fine.1 (mul_bounds binary32 zero_int.1 c.whole.1 c.product.0 c.product.1 num shr)

-- the same as one list of tests
abbrev tests : Float → Float → List Bool
tests a b =
    finite a ∷ finite b ∷ le nil a ∷ finite (sigma_of a) ∷ finite (sigma_of b) ∷ le nil (sigma_of a) ∷ finite (two ⊗ sigma_of a) ∷ finite (two ⊗ sigma_of b)
    ∷ le nil (two ⊗ sigma_of a) ∷ finite (spread a) ∷ finite (spread b) ∷ lt nil (spread a) ∷ finite (share b) ∷ finite (share a)
    ∷ finite (radius_factor ⊗ a) ∷ finite (radius_factor ⊗ b) ∷ finite (rounded (radius_factor ⊗ a)) ∷ finite (rounded (radius_factor ⊗ b))
    ∷ finite (of_int binary32 (pos (most b))) ∷ le nil (share b) ∷ finite (of_int binary32 (pos 0) ⊗ share b) ∷ finite (of_int binary32 (pos (most b)) ⊗ share a)
    ∷ le nil (of_int binary32 (pos 0) ⊗ share b) ∷ le (of_int binary32 (pos (most b)) ⊗ share a) thirty_two ∷ []

all_true : List Bool → Bool
all_true [] = true
all_true (t ∷ ts) = t && all_true ts

true_at : (ts : List Bool) → all_true ts ≡ true → (i : ℕ) → i < length ts → get_or ts i false ≡ true
unfolding all_true
true_at [] h i l = absurd (omega arith)
true_at (t ∷ ts) h zero l = (and_both t (all_true ts) h).0
true_at (t ∷ ts) h (suc i) l = true_at ts (and_both t (all_true ts) h).1 i (omega arith)

piece : (a b : Float) → all_true (tests a b) ≡ true → Piece a b
piece a b h =
    let t : (i : ℕ) → i < 24 → get_or (tests a b) i false ≡ true = true_at (tests a b) h in
    record {
      ends = (t 0 (lit< tt), t 1 (lit< tt));
      sigma = (t 2 (lit< tt), (t 3 (lit< tt), t 4 (lit< tt)));
      up = (t 5 (lit< tt), (t 6 (lit< tt), t 7 (lit< tt)));
      square = (t 8 (lit< tt), (t 9 (lit< tt), t 10 (lit< tt)));
      shares = (t 11 (lit< tt), (t 12 (lit< tt), t 13 (lit< tt)));
      radius = (t 14 (lit< tt), (t 15 (lit< tt), (t 16 (lit< tt), t 17 (lit< tt))));
      whole = (t 18 (lit< tt), t 19 (lit< tt));
      product = (t 20 (lit< tt), t 21 (lit< tt));
      fine = (t 22 (lit< tt), t 23 (lit< tt));
    }

-- pieces one after the other, the last one a point
chain : Float → List Float → Bool
chain a [] = all_true (tests a a)
chain a (b ∷ bs) = all_true (tests a b) && chain b bs

last_of : Float → List Float → Float
last_of a [] = a
last_of a (b ∷ bs) = last_of b bs

chain_in : (a : Float) (bs : List Float) (s : Float) (n : ℕ) → chain a bs ≡ true → le a s ≡ true → le s (last_of a bs) ≡ true → n ≤ most s → Bounds nil thirty_two (of_int binary32 (pos n) ⊗ share s)
unfolding chain last_of
chain_in a [] s n c p q h =
    let e = piece a a c in
    piece_in a a s n e (record { from = e.ends.0; to = e.ends.1; low = p; high = q }) h
chain_in a (b ∷ bs) s n c p q h =
    let d = and_both (all_true (tests a b)) (chain b bs) c in
    let e = piece a b d.0 in
    ⊎_elim
    (λ l. piece_in a b s n e (record { from = e.ends.0; to = e.ends.1; low = p; high = l }) h)
    (λ g. chain_in b bs s n d.1 (lt_le b s g) q h)
    (le_or_lt_float s b (le_number a s p).1 (finite_number b e.ends.1))
  where
    finite_number : (x : Float) → finite x ≡ true → T (not (is_nan x))
    finite_number x f = (le_number x x (bounds_point x f).low).0

-- 0.3125, 0.5, 1, 1.875, 3.375, 6.25, 11.5, 21.5, 40 and 64: the radius at the end of a piece and the spread at its start keep the exponent above -32
stops : List Float
stops = f32 0x3ea0_0000 ∷ half ∷ one ∷ f32 0x3ff0_0000 ∷ f32 0x4058_0000 ∷ f32 0x40c8_0000 ∷ f32 0x4138_0000 ∷ f32 0x41ac_0000 ∷ f32 0x4220_0000 ∷ scale_high ∷ []

all_stops : chain scale_low stops ≡ true
unfolding of_bits of_int mul div lt le round_even radius_of to_unsigned chain stops all_true
all_stops = refl

share_bounds : (s : Float) (n : ℕ) → within scale_low scale_high s ≡ true → n ≤ most s → Bounds nil thirty_two (of_int binary32 (pos n) ⊗ share s)
unfolding last_of stops
share_bounds s n w h =
    let p = and_both (le scale_low s) (le s scale_high) w in
    chain_in scale_low stops s n all_stops p.0 p.1 h

eq_le : (x y : Float) → eq x y ≡ true → le x y ≡ true
unfolding le
eq_le x y h = rw (h, or_true)

above_not_zero : (x : Float) → lt nought x ≡ true → eq x nought ≡ false
above_not_zero x h = go (eq x nought) refl
  where
    go : (b : Bool) → eq x nought ≡ b → b ≡ false
    go false e = refl
    go true e = absurd (lt_not_le nought x h (eq_le x nought e))

-- ---- the exponent itself, which is as much below 0
one_opp : Turned true one (neg one)
one_opp = neg_opp one

spread_bounds : (s : Float) → within scale_low scale_high s ≡ true → Bounds (spread scale_low) (spread scale_high) (spread s)
unfolding of_bits mul le
spread_bounds s w =
    let g = mul_bounds binary32 refl refl refl refl (bounds_point three_halves refl) (scale_bounds s w) in
    mul_bounds binary32 refl refl refl refl (mul_bounds binary32 refl refl refl refl (bounds_point two refl) g) g

spread_some : (s : Float) → within scale_low scale_high s ≡ true → nonzero (spread s) ≡ true
unfolding of_bits mul eq lt
spread_some s w = nonzero_of (spread s) (above_not_zero (spread s) (lt_le_trans nought (spread scale_low) (spread s) refl (spread_bounds s w).low))

down_in : (s : Float) (n : ℕ) → within scale_low scale_high s ≡ true → n ≤ most s → in_down (of_int binary32 (pos n) ⊗ falloff_of s) ≡ true
unfolding falloff_of of_bits
down_in s n w h =
    let u = share_bounds s n w h in
    let q = div_turned {a = true} {b = false} binary32 one_opp (same (spread s)) (spread_some s w) in
    let z = mul_turned {a = false} {b = true} binary32 (same (of_int binary32 (pos n))) q in
    let a : le minus32 (of_int binary32 (pos n) ⊗ falloff_of s) ≡ true = le_turned {b = true} (of_fin (turned refl)) z ∙ u.high in
    let b : le (of_int binary32 (pos n) ⊗ falloff_of s) nought ≡ true = le_turned {b = true} z (of_fin (no_sign refl)) ∙ u.low in
    rw (a, b)

-- the cells of a span are no further than the radius
near : (at radius first count i : ℕ) → at ≤ first + radius → first + count ≤ suc (at + radius) → i < count → apart (first + i) at ≤ radius
near at radius first count i a b l = omega arith

reach : (at radius side i : ℕ) → at < side → i < past_in at radius side - first_in at radius → apart (first_in at radius + i) at ≤ radius
reach at radius side i h l =
    let s = spans at radius side h in
    near at radius (first_in at radius) (past_in at radius side - first_in at radius) i s.back s.forth l

exponents : (s : Size) (row col : ℕ) (scale : Float) (i j : ℕ) → row < s.height → col < s.width → within scale_low scale_high scale ≡ true
    → i < (window_of s row col scale).rows → j < (window_of s row col scale).cols
    → in_down (of_int binary32 (pos (square_at (window_of s row col scale) (cell ((window_of s row col scale).top + i) ((window_of s row col scale).left + j)))) ⊗ (window_of s row col scale).falloff) ≡ true
unfolding window_of square_at
exponents s row col scale i j r c w a b =
    let rad = radius_of scale in
    let y = reach row rad s.height i r a in
    let x = reach col rad s.width j c b in
    let dy = apart (first_in row rad + i) row in
    let dx = apart (first_in col rad + j) col in
    let n : dy * dy + dx * dx ≤ most scale = omega (arith, mul-le-mul {n₁ = dy} {m₁ = dy} {n₂ = rad} {m₂ = rad} y y, mul-le-mul {n₁ = dx} {m₁ = dx} {n₂ = rad} {m₂ = rad} x x) in
    down_in scale (dy * dy + dx * dx) w n

pub tally_rule : TallyRule
tally_rule = record { slopes = slopes; exponents = exponents }
