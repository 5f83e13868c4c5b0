use mathlib.Core.Path.{◌≡◌, sym, ap, ◌∙◌, subst}
use mathlib.Core.Bool.{Bool, true, false, beq}
use mathlib.Core.Logic.{inl, inr}
use Prim.Native.Nat.{ℕ, ◌+◌, ◌-◌, ◌*◌, ◌^◌, ◌≤◌, ◌<◌}
use native.Mathlib.Nat.{le_trans, le_of_eq, lt_of_le_of_lt, mul-one, mul-le-mul_left, mul-lt-mul_of_pos_right}
use native.Mathlib.Omega.{arith}
use lib.Pow.{pow_pos}
use lib.IntN.{pos}
use lib.Ieee.{fin, binary32, round, sum, of_bits, neg}
use Rattle.packing.specs.Parts.{Sticky, Aligned}
use Rattle.packing.proofs.Cases.{at_zero}
use Rattle.packing.proofs.Sums.{sum_like, sum_more, sum_less, sum_none, diff_mul}
use Rattle.packing.proofs.Aligned.{sticky_moved, plus, less, take, exact}
use Rattle.packing.proofs.add_aligned.Goals as goal

sticky_le : (b d r : ℕ) → b < 2 ^ 62 → Sticky b d r → r < 2 ^ 62
sticky_le b d r h (inl e) = lt_of_le_of_lt (le_trans (le_of_eq (sym (mul-one r))) (mul-le-mul_left r (pow_pos d))) (subst (λ (x : ℕ). x < 2 ^ 62) (sym e) h)
sticky_le b d r h (inr (i, o, lo, hi, l)) = omega arith

module _ (s : Bool) (a : ℕ) (t : Bool) (b d e r : ℕ) (w : Aligned a b d e) (j : Sticky b d r) where
  abbrev B : ℕ
  B = b * 2 ^ (e - d)

  j' : Sticky (b * 2 ^ (e - d)) e r
  j' = sticky_moved b d e r w.down j

  like : beq s t ≡ true → round binary32 s ((a + r) * 2 ^ e) (2 ^ 1074) ≡ sum binary32 s (a * 2 ^ e) t (b * 2 ^ (e - d)) (2 ^ 1074)
  like h = sym (sum_like binary32 s (a * 2 ^ e) t B (2 ^ 1074) h ∙ plus s a B r e 1074 w.full w.even j')

  more : beq s t ≡ false → r < a → round binary32 s ((a - r) * 2 ^ e) (2 ^ 1074) ≡ sum binary32 s (a * 2 ^ e) t (b * 2 ^ (e - d)) (2 ^ 1074)
  more h l = sym (sum_more binary32 s (a * 2 ^ e) t B (2 ^ 1074) h (less s a B r e 1074 w.full w.even l j') ∙ take s a B r e 1074 w.full w.even l j')

  same : a ≤ r → r * 2 ^ e ≡ B
  same l = exact s a B r e 1074 w.full w.even l j'

  fewer : beq s t ≡ false → a < r → round binary32 t ((r - a) * 2 ^ e) (2 ^ 1074) ≡ sum binary32 s (a * 2 ^ e) t (b * 2 ^ (e - d)) (2 ^ 1074)
  fewer h l =
      let q : r * 2 ^ e ≡ B = same (omega arith) in
      sym (sum_less binary32 s (a * 2 ^ e) t B (2 ^ 1074) h (subst (λ (x : ℕ). a * 2 ^ e < x) q (mul-lt-mul_of_pos_right l (pow_pos e)))
      ∙ ap (λ (x : ℕ). round binary32 t x (2 ^ 1074)) (ap (λ (x : ℕ). x - a * 2 ^ e) (sym q) ∙ sym (diff_mul r a (2 ^ e))))

  none : beq s t ≡ false → a ≡ r → fin false 0 (pos 0) ≡ sum binary32 s (a * 2 ^ e) t (b * 2 ^ (e - d)) (2 ^ 1074)
  none h l =
      sym (sum_none binary32 s (a * 2 ^ e) t B (2 ^ 1074) h (ap (λ (x : ℕ). x * 2 ^ e) l ∙ same (omega arith)) ∙ at_zero false)

pub overflow_add-a : goal.overflow_add-a
overflow_add-a c = omega (arith, sticky_le c.args.b c.args.d c.shift_sticky-c.result c.requires.b_in c.shift_sticky-c.ensures, c.requires.a_in)

pub returns-then-s-t : goal.returns-then-s-t
returns-then-s-t c = c.pack.ensures ∙ (like c.args.s c.args.a c.args.t c.args.b c.args.d c.args.e c.shift_sticky-c.result c.requires c.shift_sticky-c.ensures c.if-s-t.true)

pub returns-then-c-a : goal.returns-then-c-a
returns-then-c-a c = c.pack-then-c-a.ensures ∙ (more c.args.s c.args.a c.args.t c.args.b c.args.d c.args.e c.shift_sticky-c.result c.requires c.shift_sticky-c.ensures c.if-s-t.false c.if-c-a.true)

pub returns-then-a-c : goal.returns-then-a-c
returns-then-a-c c = c.pack-then-a-c.ensures ∙ (fewer c.args.s c.args.a c.args.t c.args.b c.args.d c.args.e c.shift_sticky-c.result c.requires c.shift_sticky-c.ensures c.if-s-t.false c.if-a-c.true)

pub returns-else-a-c : goal.returns-else-a-c
unfolding of_bits neg
returns-else-a-c c = none c.args.s c.args.a c.args.t c.args.b c.args.d c.args.e c.shift_sticky-c.result c.requires c.shift_sticky-c.ensures c.if-s-t.false (omega arith)
