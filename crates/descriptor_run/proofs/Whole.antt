-- The ends of a run as columns. Assumes nothing.
use Prim.Native.Nat.{ℕ, zero, suc, ◌+◌, ◌-◌, ◌^◌, ◌<◌, ◌≤◌}
use mathlib.Core.Path.{◌≡◌, sym, ap, ◌∙◌}
use mathlib.Core.Logic.{⊎_elim}
use native.Mathlib.Omega.{arith}
use borrow.Author.Tests.{lt-ltb, le-ltb, le-leb, lt-leb}
use lib.Dec.{leb, ltb}
use lib.IntN.{ℤ, pos, negsuc, suc_ℤ, pred_ℤ, ◌+ℤ◌, ◌-ℤ◌, +ℤ_one, -ℤ_one}
use lib.Signed.{le_z, mag}
use mir.Syntax.{w32, w64}
use mir.Val.{SFits, to_z, of_z}
use mir.ValLaws.{to_z-of_z}
use Rattle.std.specs.Int.{saturate_unsigned}
use Rattle.lists.proofs.Naturals.{le_or_lt}
use Rattle.picture.proofs.Apart.{diff_up, diff_down}
use Rattle.descriptor_run.specs.Run.{shifted}

-- ---- a column and a whole number

-- a number of 32 digits, as one of 64
wider : (z : ℤ) → SFits w32 z → to_z w64 (of_z w64 (to_z w32 (of_z w32 z))) ≡ z
wider z h =
    let k : mag z < 2 ^ 31 = h.sfits in
    ap (λ (y : ℤ). to_z w64 (of_z w64 y)) (to_z-of_z w32 z h) ∙ to_z-of_z w64 z (record { sfits = omega arith })

held : (at : ℕ) (z : ℤ) → at ≤ 2 ^ 32 → mag z < 2 ^ 31 → saturate_unsigned w64 (pos at +ℤ z) ≡ shifted at z
unfolding shifted
held at (pos n) h k = omega arith
held at (negsuc n) h k =
    ⊎_elim
    (λ l. rw (le-ltb at (suc n) l) (omega arith))
    (λ l. rw (lt-ltb at (suc n) l) (omega arith))
    (le_or_lt (suc n) at)

-- a column moved by a whole number, and held to 0
pub shifted_is : {r : ℕ} (at : ℕ) (z : ℤ) → at ≤ 2 ^ 32 → SFits w32 z → r ≡ saturate_unsigned w64 (pos at +ℤ to_z w64 (of_z w64 (to_z w32 (of_z w32 z)))) → r ≡ shifted at z
shifted_is at z h k e = e ∙ rw (wider z k) (held at z h k.sfits)

-- ---- the tests of a run, as tests of columns

pub same_test : (a b x y : ℕ) → (a ≤ b → x ≤ y) → (x ≤ y → a ≤ b) → leb a b ≡ leb x y
same_test a b x y f g =
    ⊎_elim
    (λ h. rw (le-leb a b h, le-leb x y (f h)))
    (λ h. ⊎_elim (λ k. absurd (omega (arith, g k))) (λ k. rw (lt-leb a b h, lt-leb x y k)) (le_or_lt x y))
    (le_or_lt a b)

low_near : (px c : ℕ) (d : ℤ) → px ≤ c → le_z (pred_ℤ d) (pos (c - px)) ≡ leb (shifted px d) (c + 1)
unfolding shifted
low_near px c (pos zero) h = sym (le-leb (px + 0) (c + 1) (omega arith))
low_near px c (pos (suc n)) h = same_test n (c - px) (px + suc n) (c + 1) (λ k. omega arith) (λ k. omega arith)
low_near px c (negsuc n) h = sym (le-leb (px - suc n) (c + 1) (omega arith))

low_far : (px c : ℕ) (d : ℤ) → c < px → le_z (pred_ℤ d) (negsuc (px - suc c)) ≡ leb (shifted px d) (c + 1)
unfolding shifted
low_far px c (pos zero) h = same_test (px - suc c) 0 (px + 0) (c + 1) (λ k. omega arith) (λ k. omega arith)
low_far px c (pos (suc n)) h = sym (lt-leb (px + suc n) (c + 1) (omega arith))
low_far px c (negsuc n) h = same_test (px - suc c) (suc n) (px - suc n) (c + 1) (λ k. omega arith) (λ k. omega arith)

-- one to the left of d
pub low_end : (px c : ℕ) (d : ℤ) → le_z (d -ℤ pos 1) (pos c -ℤ pos px) ≡ leb (shifted px d) (c + 1)
low_end px c d =
    ⊎_elim
    (λ l. rw (-ℤ_one d, diff_up c px l) (low_near px c d l))
    (λ l. rw (-ℤ_one d, diff_down c px l) (low_far px c d l))
    (le_or_lt px c)

high_near : (px c : ℕ) (d : ℤ) → px ≤ c → le_z (pos (c - px)) (suc_ℤ d) ≡ ltb c (shifted (px + 2) d)
unfolding shifted
high_near px c (pos n) h = same_test (c - px) (suc n) (suc c) (px + 2 + n) (λ k. omega arith) (λ k. omega arith)
high_near px c (negsuc zero) h = same_test (c - px) 0 (suc c) (px + 2 - 1) (λ k. omega arith) (λ k. omega arith)
high_near px c (negsuc (suc n)) h = sym (lt-leb (suc c) (px + 2 - suc (suc n)) (omega arith))

high_far : (px c : ℕ) (d : ℤ) → c < px → le_z (negsuc (px - suc c)) (suc_ℤ d) ≡ ltb c (shifted (px + 2) d)
unfolding shifted
high_far px c (pos n) h = sym (le-leb (suc c) (px + 2 + n) (omega arith))
high_far px c (negsuc zero) h = sym (le-leb (suc c) (px + 2 - 1) (omega arith))
high_far px c (negsuc (suc n)) h = same_test n (px - suc c) (suc c) (px + 2 - suc (suc n)) (λ k. omega arith) (λ k. omega arith)

-- one to the right of d
pub high_end : (px c : ℕ) (d : ℤ) → le_z (pos c -ℤ pos px) (d +ℤ pos 1) ≡ ltb c (shifted (px + 2) d)
high_end px c d =
    ⊎_elim
    (λ l. rw (+ℤ_one d, diff_up c px l) (high_near px c d l))
    (λ l. rw (+ℤ_one d, diff_down c px l) (high_far px c d l))
    (le_or_lt px c)
