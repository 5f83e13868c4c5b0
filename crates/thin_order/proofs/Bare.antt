-- Of floats that are not below zero the one that is less has the lower bits, the sign left out. Assumes nothing.
use Prim.Native.Nat.{ℕ, ◌+◌, ◌^◌, ◌≤◌, ◌<◌}
use mathlib.Core.Path.{◌≡◌, refl, sym, ap, ◌∙◌, subst}
use mathlib.Core.Bool.{true}
use mathlib.Core.Logic.{⊎_elim}
use native.Mathlib.Omega.{arith}
use borrow.Author.Tests.{lt-ltb, le-ltb}
use lib.Dec.{ltb}
use lib.Ieee.{Float, of_int, of_bits}
use lib.Ieee.Scale.{finite}
use Rattle.lists.proofs.Naturals.{le_or_lt}
use Rattle.ieee.specs.F32.{f32, float, ◌≤ᶠ◌}
use Rattle.ieee_laws.proofs.Order.{lt_not_le}
use Rattle.thin_order.specs.Place.{place, bare, Upward, BareRule}
use Rattle.thin_order.proofs.Signs.{place_high}
use Rattle.thin_order.proofs.Order.{place_rule}

zero_float : f32 0 ≡ float 0
unfolding of_int of_bits
zero_float = refl

zero_finite : finite (f32 0) ≡ true
unfolding of_bits
zero_finite = refl

-- no negative number is upward
none_below : (a : ℕ) → Upward a → place a < place 0 → ⊥
none_below a u l =
    lt_not_le (f32 a) (f32 0)
    (place_rule a 0 u.word (omega arith) u.number zero_finite ∙ lt-ltb (place a) (place 0) l)
    (subst (λ (x : Float). (x ≤ᶠ f32 a) ≡ true) (sym zero_float) u.above)

place_zero : place 0 ≡ 2 ^ 31
unfolding place
place_zero = refl

-- the sign is set for minus zero alone
bare_place : (a : ℕ) → Upward a → place a ≡ 2 ^ 31 + bare a
unfolding place
bare_place a u =
    ⊎_elim
    (λ l. let w = u.word in let e : a ≡ 2 ^ 31 = (let m = low l in omega arith) in rw (le-ltb a (2 ^ 31) l) (omega arith))
    (λ l. rw (lt-ltb a (2 ^ 31) l) (omega arith))
    (le_or_lt (2 ^ 31) a)
  where
    low : 2 ^ 31 ≤ a → a ≤ 2 ^ 31
    low l =
        ⊎_elim (λ m. m) (λ m. absurd (none_below a u (let w = u.word in let x = place_high a l in let y = place_zero in omega arith))) (le_or_lt a (2 ^ 31))

pub bare_rule : BareRule
bare_rule a b u v =
    place_rule a b u.word v.word u.number v.number
    ∙ ap (λ (x : ℕ). ltb x (place b)) (bare_place a u) ∙ ap (λ (x : ℕ). ltb (2 ^ 31 + bare a) x) (bare_place b v) ∙ same (bare a) (bare b)
  where
    same : (x y : ℕ) → ltb (2 ^ 31 + x) (2 ^ 31 + y) ≡ ltb x y
    same x y = ⊎_elim (λ l. le-ltb (2 ^ 31 + x) (2 ^ 31 + y) (omega arith) ∙ sym (le-ltb x y l)) (λ l. lt-ltb (2 ^ 31 + x) (2 ^ 31 + y) (omega arith) ∙ sym (lt-ltb x y l)) (le_or_lt y x)
