-- The parabola through a strict peak: its top lies at most 32 bins from the peak. Assumes nothing.
use Prim.Native.Nat.{ℕ, suc, ◌-◌, ◌*◌, ◌^◌, ◌<◌, ◌≤◌}
use mathlib.Core.Path.{◌≡◌, refl, sym, ap, ◌∙◌, subst}
use mathlib.Core.Bool.{true, false}
use mathlib.Core.Logic.{⊎_elim}
use native.Mathlib.Nat.{mul_comm, mul_assoc, mul_left_comm, one-mul, mul-pos, mul-le-mul_right, le_of_mul-le-mul_right, pow-suc, eq-zero-or-pos}
use native.Mathlib.Omega.{arith}
use lib.Dec.{T}
use lib.IntN.{pos}
use lib.Pow.{pow_pos}
use lib.Ieee.{Float, nan, inf, fin, binary32, round, le, lt, of_bits}
use lib.Ieee.Bits.{is_true}
use lib.Ieee.Exact.{HasValue, round_exact}
use lib.Ieee.Order.{round_mono}
use lib.Ieee.Positive.{positive_of_value, mul_at, values_of_le}
use lib.Ieee.Scale.{finite, grid, overflow, round_val, round_under}
use Rattle.lists.proofs.Bools.{is_T}
use Rattle.ieee.specs.F32.{◌⊖◌, ◌⊗◌, ◌⊘◌}
use Rattle.ieee.specs.Numbers.{half, two}
use Rattle.ieee_laws.proofs.Monotone.{nil}
use Rattle.ieee_laws.proofs.Order.{round_marked}
use Rattle.ieee_laws.proofs.Bounds.{Bounds, bounds_finite, marked_nonneg}
use Rattle.hal_angle.proofs.AngleValues.{div_value}
use Rattle.orient_laws.proofs.Near.{Near, near, near_value}
use Rattle.orient_laws.proofs.Units.{At, Units, sub_units, at_value, value_at, at_less}

-- a number of units that binary32 holds is rounded to itself
held : (q j : ℕ) → q < 16777216 → q * 2 ^ j < overflow binary32 → HasValue (round binary32 false (q * 2 ^ j) (2 ^ 149)) false (q * 2 ^ j) (2 ^ 149)
held q j a b = round_exact binary32 false (q * 2 ^ j) (2 ^ 149) q j (pow_pos 149) a b refl

two_value : HasValue two false 2 1
unfolding of_bits
two_value = (refl, refl)

half_value : HasValue half false 1 2
unfolding of_bits
half_value = (refl, refl)

-- what the numbers say: x at most 32 times y
bounded : (d c r' e d' d'' x : ℕ) → d ≤ 8 * (c - r') → 16777215 * (c - r') ≤ 16777216 * e → 16777216 * d' ≤ 16777217 * d → 16777216 * d'' ≤ 16777217 * d' → x ≤ d'' → x ≤ 32 * e
bounded d c r' e d' d'' x a b f g h = omega arith

halves : (d u : ℕ) → 1 * d * u ≤ d * (2 * u)
halves d u = let e : d * (2 * u) ≡ 2 * (d * u) = mul_left_comm d 2 u in let f : 1 * d * u ≡ d * u = ap (λ (z : ℕ). z * u) (one-mul d) in omega arith

times : (x e u : ℕ) → x ≤ 32 * e → x * u * 1 ≤ 32 * (e * u)
times x e u h = let k = mul-le-mul_right u h in let f : 32 * e * u ≡ 32 * (e * u) = mul_assoc 32 e u in omega arith

value_finite : (x : Float) (a c : ℕ) → HasValue x false a c → finite x ≡ true
value_finite nan a c h = absurd h
value_finite (inf s) a c h = absurd h
value_finite (fin s m e) a c h = refl

module _ (l m r : Float) (ul : Units l) (um : Units m) (ur : Units r) (lm : lt l m ≡ true) (rm : lt r m ≡ true)
    (cap : ℕ) (room : cap * 2 ≡ overflow binary32) (fine : 8 * (um.digits * 2 ^ um.place) < cap) where
  abbrev pub U : ℕ
  U = 2 ^ 149

  abbrev pub L : ℕ
  L = ul.digits * 2 ^ ul.place

  abbrev pub M : ℕ
  M = um.digits * 2 ^ um.place

  abbrev pub R : ℕ
  R = ur.digits * 2 ^ ur.place

  pub less_l : L < M
  less_l = at_less l m L M ul.at um.at lm

  pub less_r : R < M
  less_r = at_less r m R M ur.at um.at rm

  pub m_value : HasValue m false M U
  m_value = at_value m M um.at (omega (arith, less_l))

  -- 2 m is exact
  abbrev pub N : Float
  N = two ⊗ m

  N_is : N ≡ round binary32 false (2 * M) U
  N_is =
      mul_at binary32 two m 2 1 M U (positive_of_value two 2 1 two_value (omega arith)) (positive_of_value m M U m_value (omega (arith, less_l))) (pow_pos 0) (pow_pos 149) two_value m_value
      ∙ ap (λ (z : ℕ). round binary32 false (2 * M) z) (one-mul U)

  twice : 2 * M ≡ um.digits * 2 ^ suc um.place
  twice = mul_left_comm 2 um.digits (2 ^ um.place) ∙ ap (λ (z : ℕ). um.digits * z) (mul_comm 2 (2 ^ um.place) ∙ sym (pow-suc 2 um.place))

  small : (n : ℕ) → n ≤ 4 * M → n < cap
  small n h = omega (arith, fine)

  within_cap : (n : ℕ) → n < cap → n < overflow binary32
  within_cap n h = subst (λ (z : ℕ). n < z) room (omega arith)

  pub N_at : At N (2 * M)
  N_at =
      value_at N (2 * M)
      (subst (λ (x : Float). HasValue x false (2 * M) U) (sym N_is)
      (subst (λ (n : ℕ). HasValue (round binary32 false n U) false n U) (sym twice)
      (held um.digits (suc um.place) um.few (subst (λ (n : ℕ). n < overflow binary32) twice (within_cap (2 * M) (small (2 * M) (omega arith)))))))

  -- the larger part of the divisor
  abbrev pub c : Float
  c = N ⊖ l

  abbrev pub C : ℕ
  C = grid binary32 (2 * M - L) U

  c_is : c ≡ round binary32 false (2 * M - L) U
  c_is = sub_units N_at ul.at (omega (arith, less_l))

  pub c_near : Near (2 * M - L) C
  c_near = near U refl (2 * M - L) (omega (arith, less_l))

  pub c_value : HasValue c false C U
  c_value = rw c_is (near_value U refl (2 * M - L) (omega (arith, less_l)) cap room (small (2 * M - L) (omega arith)))

  pub m_below : M ≤ C
  m_below =
      let v = held um.digits um.place um.few (within_cap M (small M (omega arith))) in
      let w = near_value U refl (2 * M - L) (omega (arith, less_l)) cap room (small (2 * M - L) (omega arith)) in
      let k : M * U ≤ (2 * M - L) * U = mul-le-mul_right U (omega (arith, less_l)) in
      let p : 0 < C = omega (arith, less_l, c_near.low) in
      le_of_mul-le-mul_right
      (values_of_le (round binary32 false M U) (round binary32 false (2 * M - L) U) M U C U (positive_of_value (round binary32 false M U) M U v (omega (arith, less_l))) (positive_of_value (round binary32 false (2 * M - L) U) C U w p) v w (round_mono binary32 M U (2 * M - L) U (pow_pos 149) (pow_pos 149) k))
      (pow_pos 149)

  -- the divisor
  abbrev pub d : Float
  d = c ⊖ r

  abbrev pub E : ℕ
  E = grid binary32 (C - R) U

  some_d : 0 < C - R
  some_d = omega (arith, less_r, m_below)

  d_is : d ≡ round binary32 false (C - R) U
  d_is = sub_units (value_at c C c_value) ur.at (omega (arith, less_r, m_below))

  d_near : Near (C - R) E
  d_near = near U refl (C - R) some_d

  pub d_value : HasValue d false E U
  d_value = rw d_is (near_value U refl (C - R) some_d cap room (small (C - R) (omega (arith, c_near.high))))

  pub some_e : 0 < E
  some_e = omega (arith, d_near.low, some_d)

  -- ---- the quotient of a half of what lies between, D, by the divisor
  module _ (D : ℕ) (some : 0 < D) (few : D ≤ 8 * (C - R)) (cap_d : D ≤ M) (n : Float) (n_is : n ≡ round binary32 false D U) where
    abbrev D' : ℕ
    D' = grid binary32 D U

    n_near : Near D D'
    n_near = near U refl D some

    n_value : HasValue n false D' U
    n_value = rw n_is (near_value U refl D some cap room (small D (omega arith)))

    some_n : 0 < D'
    some_n = omega (arith, n_near.low)

    x_is : half ⊗ n ≡ round binary32 false (1 * D') (2 * U)
    x_is = mul_at binary32 half n 1 2 D' U (positive_of_value half 1 2 half_value (omega arith)) (positive_of_value n D' U n_value some_n) (omega arith) (pow_pos 149) half_value n_value

    -- at most D' rounded again
    abbrev D'' : ℕ
    D'' = grid binary32 D' U

    again : Near D' D''
    again = near U refl D' some_n

    again_value : HasValue (round binary32 false D' U) false D'' U
    again_value = near_value U refl D' some_n cap room (small D' (omega (arith, n_near.high)))

    x_below : T (le (half ⊗ n) (round binary32 false D' U))
    x_below = rw x_is (round_mono binary32 (1 * D') (2 * U) D' U (mul-pos (pow_pos 1) (pow_pos 149)) (pow_pos 149) (halves D' U))

    x_bounds : Bounds nil (round binary32 false D' U) (half ⊗ n)
    x_bounds =
        record {
          from = refl;
          to = value_finite (round binary32 false D' U) D'' U again_value;
          low = rw x_is (marked_nonneg (round_marked binary32 false (1 * D') (2 * U)));
          high = is_true _ x_below;
        }

    abbrev X : ℕ
    X = grid binary32 (1 * D') (2 * U)

    x_value : HasValue (half ⊗ n) false X U
    x_value =
        rw x_is (round_val binary32 (1 * D') (2 * U) (round_under binary32 (1 * D') (2 * U) (is_T _ (subst (λ (y : Float). finite y ≡ true) x_is (bounds_finite x_bounds)))))

    x_few : X ≤ D''
    x_few = ⊎_elim (λ z. omega arith) (λ p. le_of_mul-le-mul_right (values_of_le (half ⊗ n) (round binary32 false D' U) X U D'' U (positive_of_value (half ⊗ n) X U x_value p) (positive_of_value (round binary32 false D' U) D'' U again_value (omega (arith, again.low, some_n))) x_value again_value x_below) (pow_pos 149)) (eq-zero-or-pos X)

    few_times : X ≤ 32 * E
    few_times = bounded D C R E D' D'' X few d_near.low n_near.high again.high x_few

    pub quotient_is : half ⊗ n ⊘ d ≡ round binary32 false (X * U) (E * U)
    quotient_is = div_value binary32 (half ⊗ n) d X U E U (pow_pos 149) (pow_pos 149) some_e x_value d_value

    pub quotient : Bounds nil (fin false 1 (pos 5)) (half ⊗ n ⊘ d)
    unfolding round
    quotient =
        record {
          from = refl;
          to = refl;
          low = rw quotient_is (marked_nonneg (round_marked binary32 false (X * U) (E * U)));
          high = rw quotient_is (is_true _ (round_mono binary32 (X * U) (E * U) 32 1 (mul-pos some_e (pow_pos 149)) (pow_pos 0) (times X E U few_times)));
        }
