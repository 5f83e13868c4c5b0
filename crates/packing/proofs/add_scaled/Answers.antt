use mathlib.Core.Path.{◌≡◌, sym, ap, ap₂, ◌∙◌, subst}
use mathlib.Core.Bool.{Bool, ◌&&◌}
use Prim.Native.Nat.{ℕ, ◌+◌, ◌-◌, ◌*◌, ◌%◌, ◌^◌, ◌≤◌, ◌<◌}
use native.Mathlib.Nat.{le_of_lt, lt_of_lt_of_le, zero-mul, mul-pos, mul_comm, mul_assoc, mul-mod_left, mod-eq_of_lt}
use native.Mathlib.Omega.{arith}
use lib.Dec.{lit≤}
use lib.Pow.{pow_pos, pow-add}
use lib.Ieee.{Float, binary32, round, sum}
use lib.Ieee.Digits.{back}
use lib.Ieee.Scale.{round_same}
use Rattle.packing.specs.Parts.{Aligned, Normalized}
use Rattle.packing.proofs.Sums.{sum_same, sum_comm, sum_zero_left, sum_zeros}
use Rattle.packing.proofs.add_scaled.Goals as goal

-- ---- m * 2 ^ x over 2 ^ 298, over 2 ^ 1074
over : (m x : ℕ) → m * 2 ^ (x + 776) * 2 ^ 298 ≡ m * 2 ^ x * 2 ^ 1074
over m x = ap (λ (y : ℕ). m * y * 2 ^ 298) (pow-add 2 x 776) ∙ ap (λ (y : ℕ). y * 2 ^ 298) (sym (mul_assoc m (2 ^ x) (2 ^ 776))) ∙ mul_assoc (m * 2 ^ x) (2 ^ 776) (2 ^ 298)

over_zero : (s : Bool) (x : ℕ) → round binary32 s (0 * 2 ^ x) (2 ^ 1074) ≡ round binary32 s 0 (2 ^ 298)
over_zero s x = round_same binary32 s (0 * 2 ^ x) (2 ^ 1074) 0 (2 ^ 298) (pow_pos 1074) (pow_pos 298) (ap (λ (y : ℕ). y * 2 ^ 298) (zero-mul (2 ^ x)) ∙ zero-mul (2 ^ 298) ∙ sym (zero-mul (2 ^ 1074)))

over_round : (s : Bool) (m x : ℕ) → round binary32 s (m * 2 ^ (x + 776)) (2 ^ 1074) ≡ round binary32 s (m * 2 ^ x) (2 ^ 298)
over_round s m x = round_same binary32 s (m * 2 ^ (x + 776)) (2 ^ 1074) (m * 2 ^ x) (2 ^ 298) (pow_pos 1074) (pow_pos 298) (over m x)

at_zero : (m x : ℕ) → m ≡ 0 → m * 2 ^ x ≡ 0
at_zero m x e = ap (λ (y : ℕ). y * 2 ^ x) e ∙ zero-mul (2 ^ x)

above_zero : (m x : ℕ) → (m ≡ 0 → ⊥) → 0 < m * 2 ^ x
above_zero m x n = mul-pos {m = m} (omega arith) (pow_pos x)

module _ (s : Bool) (m x : ℕ) (t : Bool) (n y : ℕ) where
  both : m ≡ 0 → n ≡ 0 → round binary32 (s && t) (0 * 2 ^ 0) (2 ^ 1074) ≡ sum binary32 s (m * 2 ^ x) t (n * 2 ^ y) (2 ^ 298)
  both p q = over_zero (s && t) 0 ∙ sym (sum_zeros binary32 s t (2 ^ 298)) ∙ ap₂ (λ (a b : ℕ). sum binary32 s a t b (2 ^ 298)) (sym (at_zero m x p)) (sym (at_zero n y q))

  left : m ≡ 0 → (n ≡ 0 → ⊥) → round binary32 t (n * 2 ^ (y + 776)) (2 ^ 1074) ≡ sum binary32 s (m * 2 ^ x) t (n * 2 ^ y) (2 ^ 298)
  left p q = over_round t n y ∙ sym (sum_zero_left binary32 s t (n * 2 ^ y) (2 ^ 298) (above_zero n y q)) ∙ ap (λ (a : ℕ). sum binary32 s a t (n * 2 ^ y) (2 ^ 298)) (sym (at_zero m x p))

right : (s : Bool) (m x : ℕ) (t : Bool) (n y : ℕ) → (m ≡ 0 → ⊥) → n ≡ 0 → round binary32 s (m * 2 ^ (x + 776)) (2 ^ 1074) ≡ sum binary32 s (m * 2 ^ x) t (n * 2 ^ y) (2 ^ 298)
right s m x t n y p q = left t n y s m x q p ∙ sum_comm binary32 t (n * 2 ^ y) s (m * 2 ^ x) (2 ^ 298)

-- ---- the two shifted
shifted : (m z : ℕ) → Normalized m z → m * 2 ^ z % 2 ^ 64 ≡ m * 2 ^ z
shifted m z r = mod-eq_of_lt (lt_of_lt_of_le r.high (lit≤ tt))

tail : (m z : ℕ) → Normalized m z → m * 2 ^ z ≡ m * 2 ^ (z - 14) * 2 ^ 14
tail m z r = ap (λ (x : ℕ). m * x) (ap (λ (x : ℕ). 2 ^ x) (sym (back z 14 r.zeros)) ∙ pow-add 2 (z - 14) 14) ∙ sym (mul_assoc m (2 ^ (z - 14)) (2 ^ 14))

placed : (m x z : ℕ) → Normalized m z → m * 2 ^ z % 2 ^ 64 * 2 ^ (x + 776 - z) ≡ m * 2 ^ (x + 776)
placed m x z r =
    let e : x + 776 - z + z ≡ x + 776 = omega (arith, r.most) in
    ap (λ (y : ℕ). y * 2 ^ (x + 776 - z)) (shifted m z r) ∙ mul_assoc m (2 ^ z) (2 ^ (x + 776 - z)) ∙ ap (λ (y : ℕ). m * y) (mul_comm (2 ^ z) (2 ^ (x + 776 - z)) ∙ sym (pow-add 2 (x + 776 - z) z) ∙ ap (λ (y : ℕ). 2 ^ y) e)

module _ (m x n y z w : ℕ) (p : Normalized m z) (q : Normalized n w) (small : x ≤ 1024) (order : y + 776 - w ≤ x + 776 - z) where
  aligned : Aligned (m * 2 ^ z % 2 ^ 64) (n * 2 ^ w % 2 ^ 64) (x + 776 - z - (y + 776 - w)) (x + 776 - z)
  aligned =
      subst (λ (a : ℕ). Aligned a (n * 2 ^ w % 2 ^ 64) (x + 776 - z - (y + 776 - w)) (x + 776 - z)) (sym (shifted m z p))
      (subst (λ (b : ℕ). Aligned (m * 2 ^ z) b (x + 776 - z - (y + 776 - w)) (x + 776 - z)) (sym (shifted n w q))
      (record {
        full = p.low;
        a_in = p.high;
        even = omega (arith, tail m z p);
        some = omega (arith, q.low);
        b_in = q.high;
        spare = ap (λ (a : ℕ). a % 2 ^ 14) (tail n w q) ∙ mul-mod_left (n * 2 ^ (w - 14)) (2 ^ 14);
        down = omega arith;
        place = omega arith;
      }))

  added : (s t : Bool) (r : Float) → r ≡ sum binary32 s (m * 2 ^ z % 2 ^ 64 * 2 ^ (x + 776 - z)) t (n * 2 ^ w % 2 ^ 64 * 2 ^ (x + 776 - z - (x + 776 - z - (y + 776 - w)))) (2 ^ 1074) → r ≡ sum binary32 s (m * 2 ^ x) t (n * 2 ^ y) (2 ^ 298)
  added s t r h =
      let e : x + 776 - z - (x + 776 - z - (y + 776 - w)) ≡ y + 776 - w = omega arith in
      h
      ∙ ap₂ (λ (a b : ℕ). sum binary32 s a t b (2 ^ 1074)) (placed m x z p) (ap (λ (k : ℕ). n * 2 ^ w % 2 ^ 64 * 2 ^ k) e ∙ placed n y w q)
      ∙ sum_same binary32 s (m * 2 ^ (x + 776)) t (n * 2 ^ (y + 776)) (2 ^ 1074) (m * 2 ^ x) (n * 2 ^ y) (2 ^ 298) (pow_pos 1074) (pow_pos 298) (over m x) (over n y)

  -- the same with the summands exchanged
  added_other : (s t : Bool) (r : Float) → r ≡ sum binary32 s (m * 2 ^ z % 2 ^ 64 * 2 ^ (x + 776 - z)) t (n * 2 ^ w % 2 ^ 64 * 2 ^ (x + 776 - z - (x + 776 - z - (y + 776 - w)))) (2 ^ 1074) → r ≡ sum binary32 t (n * 2 ^ y) s (m * 2 ^ x) (2 ^ 298)
  added_other s t r h = added s t r h ∙ sum_comm binary32 s (m * 2 ^ x) t (n * 2 ^ y) (2 ^ 298)

pub returns-then-n-eq0 : goal.returns-then-n-eq0
returns-then-n-eq0 c = c.pack.ensures ∙ both c.args.s c.args.m c.args.x c.args.t c.args.n c.args.y c.if-m-eq0.true c.if-n-eq0.true

pub returns-then-m-eq0 : goal.returns-then-m-eq0
returns-then-m-eq0 c = c.pack-then-m-eq0.ensures ∙ left c.args.s c.args.m c.args.x c.args.t c.args.n c.args.y c.if-m-eq0.true c.if-n-eq0.false

pub returns-then-n-eq0-2 : goal.returns-then-n-eq0-2
returns-then-n-eq0-2 c = c.pack-then-n-eq0-2.ensures ∙ right c.args.s c.args.m c.args.x c.args.t c.args.n c.args.y c.if-m-eq0.false c.if-n-eq0-2.true

pub add_aligned-requires : goal.add_aligned-requires
add_aligned-requires c =
    aligned c.args.m c.args.x c.args.n c.args.y c.normalizing_shift-z.result c.normalizing_shift-w.result c.normalizing_shift-z.ensures c.normalizing_shift-w.ensures c.requires.2 c.if-j-i.true

pub add_aligned-requires-else-j-i : goal.add_aligned-requires-else-j-i
add_aligned-requires-else-j-i c =
    aligned c.args.n c.args.y c.args.m c.args.x c.normalizing_shift-w.result c.normalizing_shift-z.result c.normalizing_shift-w.ensures c.normalizing_shift-z.ensures c.requires.3 (le_of_lt c.if-j-i.false)

pub returns-then-j-i : goal.returns-then-j-i
returns-then-j-i c =
    added c.args.m c.args.x c.args.n c.args.y c.normalizing_shift-z.result c.normalizing_shift-w.result c.normalizing_shift-z.ensures c.normalizing_shift-w.ensures c.requires.2 c.if-j-i.true c.args.s c.args.t c.add_aligned.result c.add_aligned.ensures

pub returns-else-j-i : goal.returns-else-j-i
returns-else-j-i c =
    added_other c.args.n c.args.y c.args.m c.args.x c.normalizing_shift-w.result c.normalizing_shift-z.result c.normalizing_shift-w.ensures c.normalizing_shift-z.ensures c.requires.3 (le_of_lt c.if-j-i.false) c.args.t c.args.s c.add_aligned-else-j-i.result c.add_aligned-else-j-i.ensures
