-- A sample's spread: its row, column and slot lie in the histogram. Assumes nothing.
use Prim.Native.Nat.{ℕ, ◌+◌, ◌-◌, ◌%◌, ◌^◌, ◌≤◌, ◌<◌}
use mathlib.Core.Path.{◌≡◌, refl, sym, ◌∙◌, subst}
use mathlib.Core.Bool.{Bool, true, false}
use mathlib.Core.Logic.{◌⊎◌, inl, inr, ⊎_elim}
use native.Mathlib.Omega.{arith}
use borrow.Author.Tests.{ltb-true, ltb-false}
use lib.Dec.{T, ltb}
use lib.Ieee.Bits.{is_true}
use lib.Ieee.{Float, binary32, of_bits, of_int, sub, mul, lt, le}
use Rattle.lists.proofs.Bools.{and_both}
use Rattle.ieee.specs.F32.{◌⊖◌, ◌⊗◌, f32, float_z}
use Rattle.ieee.specs.Numbers.{nought, minus_one, four, whole_turn}
use Rattle.ieee_laws.proofs.Order.{lt_le, lt_not_le, le_or_lt_float, le_trans_float}
use Rattle.ieee_laws.proofs.Bounds.{Bounds, sub_bounds, mul_bounds_by}
use Rattle.hal_turn.specs.Turn.{in_turn}
use Rattle.hal_angle.specs.Angle.{angle_of}
use Rattle.hal_reach.specs.Reach.{in_angle}
use Rattle.hal.specs.Exp.{exp_of}
use Rattle.hal_magnitude.specs.Magnitude.{magnitude_of}
use Rattle.hal_angle.proofs.Rules.{angle_rule}
use Rattle.descriptor_patch.specs.Patch.{in_grid}
use Rattle.descriptor_patch.specs.declared.Sample.{Sample}
use Rattle.descriptor_shares.specs.Sharing.{bins_per_degree, shares_of, spread_of}
use Rattle.descriptor_shares.specs.Reach.{Near, Lands, split_of, Settled, Inside}
use Rattle.descriptor_shares.specs.declared.Spread.{Spread}
use Rattle.descriptor_shares.specs.declared.Shares.{Shares}
use Rattle.descriptor_shares.specs.declared.Split.{Split}
use Rattle.descriptor_shares.specs.declared.Landed.{Landed}
use Rattle.descriptor_shares.proofs.Steps.{lowered, first, step}
use Rattle.descriptor_shares.proofs.Floors.{signed_le, finite_number, Floored, Found, floored_of, split_at}

-- ---- rows and columns

-- whole numbers as floats keep the order
rise : (a b : ℕ) → a ≤ b → b ≤ 17 → le (float_z (lowered a)) (float_z (lowered b)) ≡ true
rise a b h k =
    let s = step a (omega arith) in
    let t = step b k in
    let x = float_z (lowered a) in
    let y = float_z (lowered b) in
    ⊎_elim (λ l. l)
    (λ l.
    let u = rw (t.cut, s.cut, t.height, s.height) at (signed_le y x t.ended s.ended (lt_le y x l)) in
    let e : a ≡ b = omega arith in
    let q : lt y y ≡ true = subst (λ (n : ℕ). lt y (float_z (lowered n)) ≡ true) e l in
    absurd (lt_not_le y y q (lt_le y y q)))
    (le_or_lt_float x y (finite_number x s.ended) (finite_number y t.ended))

pub grid_near : (v : Float) → in_grid v ≡ true → Near v
unfolding of_bits le
grid_near v h =
    let p = and_both (lt minus_one v) (lt v four) h in
    record {
      low = le_trans_float (f32 0xc100_0000) minus_one v refl (lt_le minus_one v p.0);
      high = le_trans_float v four (f32 0x4100_0000) (lt_le v four p.1) refl;
    }

marks : (float_z (lowered 7) ≡ minus_one) × (float_z (lowered 12) ≡ four)
unfolding of_bits of_int
marks = (refl, refl)

grid_range : (v : Float) (k : ℕ) → in_grid v ≡ true → Floored v k → (7 ≤ k) × (k ≤ 11)
grid_range v k h f =
    let p = and_both (lt minus_one v) (lt v four) h in
    let t = f.top in (
      ⊎_elim (λ l. l)
          (λ l. absurd (lt_not_le minus_one v p.0 (rw marks.0 at (le_trans_float v (float_z (lowered (k + 1))) (float_z (lowered 7)) (lt_le v (float_z (lowered (k + 1))) f.high) (rise (k + 1) 7 (omega arith) (omega arith))))))
          (split 7 k),
      ⊎_elim (λ l. absurd (lt_not_le v four p.1 (rw marks.1 at (le_trans_float (float_z (lowered 12)) (float_z (lowered k)) v (rise 12 k l (omega arith)) f.low)))) (λ l. omega arith)
          (split 12 k),
    )
  where
    split : (a b : ℕ) → (a ≤ b) ⊎ (b < a)
    split a b = go (ltb b a) refl
      where
        go : (c : Bool) → ltb b a ≡ c → (a ≤ b) ⊎ (b < a)
        go true e = inr (ltb-true b a e)
        go false e = inl (ltb-false b a e)

-- ---- the turn, in slots

turn_bounds : (a b : Float) → T (le nought a) → T (lt a whole_turn) → in_turn b ≡ true → Bounds (f32 0xc100_0000) (f32 0x4100_0000) ((a ⊖ b) ⊗ bins_per_degree)
unfolding of_bits sub mul le
turn_bounds a b l u h =
    let p = and_both (le nought b) (le b whole_turn) h in
    let x : Bounds nought whole_turn a = record { from = refl; to = refl; low = is_true (le nought a) l; high = lt_le a whole_turn (is_true (lt a whole_turn) u) } in
    let y : Bounds nought whole_turn b = record { from = refl; to = refl; low = p.0; high = p.1 } in
    mul_bounds_by binary32 bins_per_degree refl refl refl refl (sub_bounds binary32 refl refl x y)

pub turn_near : (dx dy angle : Float) → in_angle dx dy ≡ true → in_turn angle ≡ true → Near ((angle_of dx dy ⊖ angle) ⊗ bins_per_degree)
turn_near dx dy angle h k =
    let b = turn_bounds (angle_of dx dy) angle (angle_rule.least dx dy (subst T (sym h) tt)) (angle_rule.below dx dy (subst T (sym h) tt)) k in
    record { low = b.low; high = b.high }

-- ---- the spread

abbrev pub turn_of : Float → Sample → Float
turn_of angle s = (angle_of s.dx s.dy ⊖ angle) ⊗ bins_per_degree

-- by the floors, each 8 more, and the shares that they make
spread_is : (angle : Float) (s : Sample) (r c o : ℕ) (p : Shares) → Floored s.rbin r → Floored s.cbin c → Floored (turn_of angle s) o
    → p ≡ shares_of (magnitude_of s.dx s.dy ⊗ exp_of s.fall) (s.rbin ⊖ float_z (lowered r)) (s.cbin ⊖ float_z (lowered c)) (turn_of angle s ⊖ float_z (lowered o))
    → ◌≡◌ {A = Spread} (record { row = r - 7; col = c - 7; slot = o % 8; shares = p }) (spread_of angle s)
unfolding spread_of
spread_is angle s r c o p f g h e =
    let a = step r (let t = f.top in omega arith) in
    let b = step c (let t = g.top in omega arith) in
    let d = step o (let t = h.top in omega arith) in
    rw (f.is, g.is, h.is, a.border, b.border, d.slot, e)

spread_in : (r c o : ℕ) (p : Shares) → r ≤ 11 → c ≤ 11 → Inside (record { row = r - 7; col = c - 7; slot = o % 8; shares = p })
spread_in r c o p f g = record { row = omega arith; col = omega arith; slot = omega arith }

module _ (angle : Float) (s : Sample) (l : Lands angle s) where
  pub row : Found s.rbin
  row = floored_of s.rbin (grid_near s.rbin l.row)

  pub col : Found s.cbin
  col = floored_of s.cbin (grid_near s.cbin l.col)

  pub slot : Found (turn_of angle s)
  slot = floored_of (turn_of angle s) (turn_near s.dx s.dy angle l.slopes l.turn)

  abbrev pub parts : Shares
  parts =
      shares_of (magnitude_of s.dx s.dy ⊗ exp_of s.fall) (s.rbin ⊖ float_z (lowered row.at)) (s.cbin ⊖ float_z (lowered col.at)) (turn_of angle s ⊖ float_z (lowered slot.at))

  abbrev pub spread : Spread
  spread = record { row = row.at - 7; col = col.at - 7; slot = slot.at % 8; shares = parts }

  pub is_spread : spread ≡ spread_of angle s
  is_spread = spread_is angle s row.at col.at slot.at parts row.is col.is slot.is refl

  row_range : (7 ≤ row.at) × (row.at ≤ 11)
  row_range = grid_range s.rbin row.at l.row row.is

  col_range : (7 ≤ col.at) × (col.at ≤ 11)
  col_range = grid_range s.cbin col.at l.col col.is

  pub spread_inside : Inside (spread_of angle s)
  spread_inside = subst Inside is_spread (spread_in row.at col.at slot.at parts row_range.1 col_range.1)

-- ---- by the digits of the splits

digits : (k : ℕ) → 7 ≤ k → k ≤ 11 → (first + k + 1) % 64 ≡ k - 7
digits k h m = omega arith

last_digits : (k : ℕ) → (first + k) % 8 ≡ k % 8
last_digits k = omega arith

bits_fit : (v : Float) (s : Split) → Near v → s ≡ split_of v → s.bits + 1 < 2 ^ 32
bits_fit v s n e =
    let k = floored_of v n in
    let t = k.is.top in
    let b = (split_at v k.at k.is).bits in
    rw (e, b) (omega arith)

module _ (angle : Float) (l : Landed) (h : Settled angle l) where
  abbrev sample : Sample
  sample = l.sample

  pub row_fits : l.row.bits + 1 < 2 ^ 32
  row_fits = bits_fit sample.rbin l.row (grid_near sample.rbin h.lands.row) h.row

  pub col_fits : l.col.bits + 1 < 2 ^ 32
  col_fits = bits_fit sample.cbin l.col (grid_near sample.cbin h.lands.col) h.col

  -- what the code makes of the splits
  pub spread_split : (o : Split) (p : Shares) → o ≡ split_of (turn_of angle sample) → p ≡ shares_of (magnitude_of sample.dx sample.dy ⊗ exp_of sample.fall) l.row.past l.col.past o.past
      → ◌≡◌ {A = Spread} (record { row = (l.row.bits + 1) % 64; col = (l.col.bits + 1) % 64; slot = o.bits % 8; shares = p }) (spread_of angle sample)
  spread_split o p d e =
      let x = row angle sample h.lands in
      let y = col angle sample h.lands in
      let z = slot angle sample h.lands in
      let a = split_at sample.rbin x.at x.is in
      let b = split_at sample.cbin y.at y.is in
      let c = split_at (turn_of angle sample) z.at z.is in
      let u = row_range angle sample h.lands in
      let v = col_range angle sample h.lands in
      let f : (l.row.bits + 1) % 64 ≡ x.at - 7 = rw (h.row, a.bits) (digits x.at u.0 u.1) in
      let g : (l.col.bits + 1) % 64 ≡ y.at - 7 = rw (h.col, b.bits) (digits y.at v.0 v.1) in
      let w : o.bits % 8 ≡ z.at % 8 = rw (d, c.bits) (last_digits z.at) in
      let q : p ≡ parts angle sample h.lands = e ∙ rw (h.row, h.col, d, a.past, b.past, c.past) in
      rw (f, g, w, q) (is_spread angle sample h.lands)
