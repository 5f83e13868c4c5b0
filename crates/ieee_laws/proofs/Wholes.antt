-- Whole numbers that an f32 holds, and a shift that loses nothing. Assumes nothing.
use Rattle.std.proofs.Common.{◌≡◌, ℕ, ◌*◌, ◌%◌, ◌^◌, ◌≤◌, T, pos, ap, ◌∙◌, lt_of_le_of_lt, mod-eq_of_lt, one-mul, lit<, le→leb, pow_mono}
use lib.Ieee.{binary32, in_float}

pub held : (n : ℕ) → n ≤ 2 ^ 24 → T (in_float binary32 (pos n))
unfolding in_float
held n h = le→leb n (2 ^ 24) h

-- 1 << h, in 64 bits
pub one_shift : (h : ℕ) → h ≤ 63 → 1 * 2 ^ h % 2 ^ 64 ≡ 2 ^ h
one_shift h l = ap (λ (x : ℕ). x % 2 ^ 64) (one-mul (2 ^ h)) ∙ mod-eq_of_lt (lt_of_le_of_lt (pow_mono l) (lit< tt))
