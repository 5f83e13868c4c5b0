-- exp2 is asked inside its range, and what it answers there lies in 1 to 4. Assumes nothing.
use Rattle.std.proofs.Common.{◌≡◌, ℕ, suc, ◌-◌, ◌<◌, ◌≤◌, Bool, true, false, ◌&&◌, T, pos, sym, refl, subst, arith}
use lib.Ieee.{Float, fin, binary32, of_bits, of_int, neg, add, div, lt, le}
use lib.Ieee.Scale.{finite}
use Rattle.lists.proofs.Bools.{and_left, and_right, both_and}
use Rattle.ieee.specs.F32.{◌⊕◌, ◌⊘◌, ◌<ᶠ◌, abs_of, float}
use Rattle.ieee.specs.Numbers.{half, three_halves}
use Rattle.ieee_laws.proofs.Order.{le_trans_float}
use Rattle.ieee_laws.proofs.Monotone.{nil}
use Rattle.ieee_laws.proofs.Bounds.{Bounds, bounds_finite, bounds_wider, bounds_point, bounds_above, add_bounds, div_bounds_by, of_int_bounds, abs_bounds}
use Rattle.hal.specs.Exp.{in_up, exp2_of}
use Rattle.hal.proofs.Range.{ge_of, le_of}
use Rattle.hal.proofs.ExpLaws.{exp2_within}
use Rattle.lists.specs.Ranges.{every}
use Rattle.params.specs.Limits.{max_layers}
use Rattle.lists.proofs.Every.{every_all}

-- 1.5
abbrev pub most : Float
most = three_halves

-- ---- for each number of layers: half a layer over them is a number from 0 on, and all of them and a half is at most 1.5

layer_test : ℕ → Bool
layer_test i =
    let n = float (suc i) in
    (finite (half ⊘ n) && le nil (half ⊘ n)) && (finite ((n ⊕ half) ⊘ n) && le ((n ⊕ half) ⊘ n) most)

layers_pass : every max_layers layer_test ≡ true
unfolding layer_test every of_bits of_int add div le
layers_pass = refl

record Layers (n : ℕ) : Type 0 where
  pub low_finite : finite (half ⊘ float n) ≡ true
  pub low : le nil (half ⊘ float n) ≡ true
  pub high_finite : finite ((float n ⊕ half) ⊘ float n) ≡ true
  pub high : le ((float n ⊕ half) ⊘ float n) most ≡ true

passed : (i : ℕ) → layer_test i ≡ true → Layers (suc i)
unfolding layer_test
passed i t =
    let n = float (suc i) in
    let p = and_left (finite (half ⊘ n) && le nil (half ⊘ n)) _ t in
    let q = and_right (finite (half ⊘ n) && le nil (half ⊘ n)) _ t in
    record {
      low_finite = and_left (finite (half ⊘ n)) _ p;
      low = and_right (finite (half ⊘ n)) _ p;
      high_finite = and_left (finite ((n ⊕ half) ⊘ n)) _ q;
      high = and_right (finite ((n ⊕ half) ⊘ n)) _ q;
    }

layers_at : (n i : ℕ) → n ≡ suc i → i < max_layers → Layers n
layers_at n i e h = rw e (passed i (every_all max_layers layer_test layers_pass i h))

layers_each : (n : ℕ) → 1 ≤ n → n ≤ max_layers → Layers n
layers_each n a b = layers_at n (n - 1) (omega arith) (omega arith)

-- ---- what exp2 answers from 0 to 1.5

most_two : le most (fin false 1 (pos 1)) ≡ true
unfolding of_bits le
most_two = refl

in_up_lem : {x : Float} → Bounds nil most x → in_up x ≡ true
unfolding of_bits
in_up_lem {x} b = both_and (le nil x) (le x (fin false 1 (pos 1))) b.low (le_trans_float x most (fin false 1 (pos 1)) b.high most_two)

is : {b : Bool} → T b → b ≡ true
is {b} t = go b t
  where
    go : (b : Bool) → T b → b ≡ true
    go true t = refl
    go false t = absurd t

yes : {b : Bool} → b ≡ true → T b
yes e = subst T (sym e) tt

pub power_bounds : (x : Float) → Bounds nil most x → Bounds (fin false 1 (pos 0)) (fin false 1 (pos 2)) (exp2_of x)
power_bounds x b =
    let w = exp2_within x (yes (in_up_lem b)) in
    record {
      from = refl;
      to = refl;
      low = is (ge_of (exp2_of x) (fin false 1 (pos 0)) 1 4 w (refl, refl));
      high = is (le_of (exp2_of x) (fin false 1 (pos 2)) 1 4 w (refl, refl));
    }

-- ---- what is asked

module _ (layers p : ℕ) (xi : Float) (first : 1 ≤ p) (last : p ≤ layers) (few : layers ≤ max_layers) (small : (abs_of xi <ᶠ half) ≡ true) where
  abbrev asked : Float
  asked = (float p ⊕ xi) ⊘ float layers

  layers_bounds : Bounds (float 1) (float max_layers) (float layers)
  unfolding of_int
  layers_bounds = of_int_bounds binary32 1 max_layers layers refl refl (omega arith) few

  sum_bounds : Bounds half (float layers ⊕ half) (float p ⊕ xi)
  unfolding of_int of_bits add neg
  sum_bounds =
      add_bounds binary32 {a = float 1} {b = float layers} {c = neg half} {d = half} refl
      (bounds_finite (add_bounds binary32 {a = float 1} {b = float max_layers} {c = half} {d = half} refl refl layers_bounds (bounds_point half refl)))
      (of_int_bounds binary32 1 layers p refl (bounds_finite layers_bounds) first last)
      (abs_bounds xi half refl small)

  pub asked_bounds : Bounds nil most asked
  unfolding of_int of_bits lt
  asked_bounds =
      let l = layers_each layers (omega arith) few in
      bounds_wider nil most refl refl l.low l.high
      (div_bounds_by binary32 (float layers) (bounds_finite layers_bounds) (bounds_above layers_bounds refl) l.low_finite l.high_finite sum_bounds)

  pub asked_in : in_up asked ≡ true
  asked_in = in_up_lem asked_bounds

  pub asked_power : Bounds (fin false 1 (pos 0)) (fin false 1 (pos 2)) (exp2_of asked)
  asked_power = power_bounds asked asked_bounds
