-- A value as the whole number that it is, as the code finds it, and what it is. Assumes nothing.
use Rattle.std.proofs.Common.{◌≡◌, ℕ, ◌≤◌, Bool, true, false, cond, ◌&&◌, leb, pos, sym, refl, ap, ◌∙◌, true≢false, le_trans, lt_of_le_of_lt, arith, lit<, lit≤, le-leb, leb-true}
use lib.Ieee.{Float, nan, inf, fin, binary32, of_bits, of_int, to_unsigned, lt}
use lib.Ieee.Back.{unsigned_back}
use lib.Ieee.Bits.{of_bits-to_bits}
use lib.Ieee.Fits.{of_int-fits}
use Rattle.lists.proofs.Bools.{and_left, and_right, both_and}
use Rattle.ieee.specs.F32.{◌=ᶠ◌, f32, bits_of, float}
use Rattle.ieee.specs.Numbers.{nought, top_byte}
use Rattle.ieee_laws.proofs.Order.{le_trans_float}
use Rattle.ieee_laws.proofs.Bounds.{Bounds, bounds_finite, of_int_bounds}
use Rattle.ieee_laws.proofs.Level.{eq_turn, eq_le}
use Rattle.ieee_laws.proofs.Wholes.{held}
use Rattle.ieee_laws.proofs.Cuts.{Cuts, cuts}
use Rattle.params.specs.Table.{within}
use Rattle.params.proofs.Within.{within_bounds}
use Rattle.descriptor_inputs.proofs.Checks.{eq_self, finite_number}
use Rattle.record.specs.Record.{byte_of}

-- a float from 0 to 255 can be cut, to a u64 as to a u32
pub cut : (x : Float) → within nought top_byte x ≡ true → Cuts 255 x
unfolding of_bits lt to_unsigned
cut x h = cuts 255 refl refl (lit≤ tt) (within_bounds nought top_byte x refl refl h)

casts_same : (x : Float) → to_unsigned 64 x ≤ 255 → to_unsigned 32 x ≡ to_unsigned 64 x
unfolding to_unsigned
casts_same nan h = refl
casts_same (inf true) h = refl
casts_same (inf false) h = absurd (omega arith)
casts_same (fin true m e) h = refl
casts_same (fin false m e) h = omega arith

-- the whole numbers from 0 to 255
small : (n : ℕ) → n ≤ 255 → Bounds nought top_byte (float n)
unfolding of_bits of_int
small n h = of_int_bounds binary32 0 255 n refl refl (omega arith) h

-- a float that is one of them lies among them
inside : (n : ℕ) (x : Float) → (leb n 255 && (float n =ᶠ x)) ≡ true → within nought top_byte x ≡ true
inside n x h =
    let e = and_right (leb n 255) (float n =ᶠ x) h in
    let b = small n (leb-true n 255 (and_left (leb n 255) (float n =ᶠ x) h)) in
    both_and _ _ (le_trans_float nought (float n) x b.low (eq_le (float n) x e)) (le_trans_float x (float n) top_byte (eq_le x (float n) (eq_turn (float n) x e)) b.high)

none_is : (n : ℕ) (x : Float) (b : Bool) → (leb n 255 && (float n =ᶠ x)) ≡ b → within nought top_byte x ≡ false → 256 ≡ cond b n 256
none_is n x true e h = absurd (true≢false (sym (inside n x e) ∙ h))
none_is n x false e h = refl

pub outside_is : (bits : ℕ) (x : Float) → x ≡ f32 bits → within nought top_byte x ≡ false → 256 ≡ byte_of bits
unfolding byte_of
outside_is bits x i h = none_is (to_unsigned 32 (f32 bits)) (f32 bits) _ refl (ap (within nought top_byte) (sym i) ∙ h)

-- within the range: the number n that is left when the fraction is cut off, where that is the float again
pub inside_is : (bits n : ℕ) (x : Float) (b : Bool) → x ≡ f32 bits → n ≡ to_unsigned 64 x → n ≤ 255 → (float n =ᶠ x) ≡ b → cond b n 256 ≡ byte_of bits
unfolding byte_of
inside_is bits n x b i e l h =
    let c : to_unsigned 32 (f32 bits) ≡ n = ap (to_unsigned 32) (sym i) ∙ casts_same x (rw (← e) l) ∙ sym e in
    rw (c, ← i, le-leb n 255 l, h)

-- ---- what is proved of it

pub taken : (bits : ℕ) → byte_of bits ≤ 255 → (float (byte_of bits) =ᶠ f32 bits) ≡ true
unfolding byte_of
taken bits = go (to_unsigned 32 (f32 bits)) (leb (to_unsigned 32 (f32 bits)) 255 && (float (to_unsigned 32 (f32 bits)) =ᶠ f32 bits)) refl
  where
    go : (n : ℕ) (b : Bool) → (leb n 255 && (float n =ᶠ f32 bits)) ≡ b → cond b n 256 ≤ 255 → (float (cond b n 256) =ᶠ f32 bits) ≡ true
    go n true e h = and_right (leb n 255) (float n =ᶠ f32 bits) e
    go n false e h = absurd (omega arith)

pub each : (n : ℕ) → n ≤ 255 → byte_of (bits_of (float n)) ≡ n
unfolding byte_of
each n h =
    let f = of_bits-to_bits binary32 (float n) (of_int-fits binary32 (pos n)) in
    let u = (unsigned_back binary32 32 n (held n (le_trans h (lit≤ tt))) (lt_of_le_of_lt h (lit< tt))).1 in
    rw (f, u, le-leb n 255 h, eq_self, finite_number (float n) (bounds_finite (small n h)))
