use mathlib.Core.Path.{◌≡◌, refl, sym, ap₂, ◌∙◌, subst}
use mathlib.Core.Logic.{◌⊎◌, inl, inr}
use mathlib.Core.Bool.{Bool, true, false, ◌&&◌, ◌||◌, beq, true≢false, false≢true}
use Prim.Native.Nat.{ℕ, zero, suc, ◌*◌, ◌<◌}
use native.Mathlib.Nat.{zero-mul, mul-one, mul-pos, zero-lt-suc}
use native.Mathlib.Omega.{arith}
use lib.Dec.{T, ltb, eqb, lt→ltb, ltb→lt, eqb→eq}
use lib.IntN.{ℤ, pos}
use lib.Ieee.{Float, nan, inf, fin, binary32, fits, up, down, lt, eq, div, neg, of_bits}
use lib.Ieee.Fits.{up_pos}
use lib.Ieee.Bits.{is_true}
use lib.Ieee.Back.{whole_unique}
use lib.Ieee.Positive.{positive, first_pos}
use Rattle.ieee.specs.Root.{sqrt}
use Rattle.ieee_root.proofs.root_general.Goals as goal
use Rattle.ieee_root.proofs.root_general.Goals.{Start}

-- x is tested against +0
abbrev Z : Float
Z = fin false 0 (pos 0)

T_of : (b : Bool) → b ≡ true → T b
T_of b e = subst T (sym e) tt

more : (m : ℕ) (e : ℤ) → ltb (0 * down e) (m * up e * 1) ≡ true → 0 < m
more m e h = first_pos m (up e) (subst (λ (x : ℕ). 0 < x) (mul-one (m * up e)) (subst (λ (x : ℕ). x < m * up e * 1) (zero-mul (down e)) (ltb→lt (0 * down e) (m * up e * 1) (T_of (ltb (0 * down e) (m * up e * 1)) h))))

is_more : (m : ℕ) (e : ℤ) → ltb (0 * down e) (suc m * up e * 1) ≡ true
is_more m e =
    is_true (ltb (0 * down e) (suc m * up e * 1)) (lt→ltb (0 * down e) (suc m * up e * 1)
    (subst (λ (x : ℕ). x < suc m * up e * 1) (sym (zero-mul (down e))) (subst (λ (x : ℕ). 0 < x) (sym (mul-one (suc m * up e))) (mul-pos (zero-lt-suc m) (up_pos e)))))

above : (x : Float) → lt Z x ≡ true → lt x (inf false) ≡ true → T (positive x)
unfolding lt
above nan g h = absurd (false≢true g)
above (inf true) g h = absurd (false≢true g)
above (inf false) g h = absurd (false≢true h)
above (fin true m e) g h = absurd (false≢true g)
above (fin false m e) g h = lt→ltb 0 m (more m e g)

endless : (x : Float) → lt Z x ≡ true → lt x (inf false) ≡ false → x ≡ sqrt binary32 x
unfolding lt sqrt
endless nan g h = absurd (false≢true g)
endless (inf true) g h = absurd (false≢true g)
endless (inf false) g h = refl
endless (fin s m e) g h = absurd (true≢false h)

unequal : (m : ℕ) (e : ℤ) (b : Bool) → (eqb (suc m * up e * 1) (0 * down e) && b) ≡ true → ⊥
unequal m e b h = go (eqb (suc m * up e * 1) (0 * down e)) (eqb→eq (suc m * up e * 1) (0 * down e)) h
  where
    no : suc m * up e * 1 ≡ 0 * down e → ⊥
    no q = let p : 0 < suc m * up e = mul-pos (zero-lt-suc m) (up_pos e) in omega (arith, q, zero-mul (down e), mul-one (suc m * up e))

    go : (c : Bool) → (T c → suc m * up e * 1 ≡ 0 * down e) → (c && b) ≡ true → ⊥
    go true f k = no (f tt)
    go false f k = false≢true k

nought : (e : ℤ) → 0 * up e * 1 ≡ 0 * down e
nought e = mul-one (0 * up e) ∙ zero-mul (up e) ∙ sym (zero-mul (down e))

-- x is a zero, of either sign: what is answered for one is then worked out
nothing : (x : Float) → T (fits binary32 x) → eq x Z ≡ true → (x ≡ fin true 0 (pos 0)) ⊎ (x ≡ fin false 0 (pos 0))
unfolding eq fits
nothing nan k h = absurd (false≢true h)
nothing (inf s) k h = absurd (false≢true h)
nothing (fin true zero e) k h = inl (whole_unique binary32 (fin true 0 e) (fin true 0 (pos 0)) true 0 k tt (refl, nought e) (refl, refl))
nothing (fin false zero e) k h = inr (whole_unique binary32 (fin false 0 e) (fin false 0 (pos 0)) false 0 k tt (refl, nought e) (refl, refl))
nothing (fin true (suc m) e) k h = absurd (unequal m e _ h)
nothing (fin false (suc m) e) k h = absurd (unequal m e _ h)

zeros : (e : ℤ) (s : Bool) → (eqb (0 * up e * 1) (0 * down e) && (beq s false || eqb (0 * up e * 1) 0)) ≡ true
zeros e s = ap₂ (λ (a b : ℕ). eqb a b && (beq s false || eqb a 0)) (mul-one (0 * up e) ∙ zero-mul (up e)) (zero-mul (down e)) ∙ either s
  where
    either : (s : Bool) → (beq s false || true) ≡ true
    either true = refl
    either false = refl

none : (x : Float) → lt Z x ≡ false → eq x Z ≡ false → nan ≡ sqrt binary32 x
unfolding lt eq sqrt
none nan g h = refl
none (inf true) g h = refl
none (inf false) g h = absurd (true≢false g)
none (fin s zero e) g h = absurd (true≢false (sym (zeros e s) ∙ h))
none (fin true (suc m) e) g h = refl
none (fin false (suc m) e) g h = absurd (true≢false (sym (is_more m e) ∙ g))

held : (c : Start) → T (fits binary32 c.args.x)
held c = subst T (sym c.well_formed.0.1) tt

pub root_positive-requires : goal.root_positive-requires
unfolding of_bits div
root_positive-requires c = above c.args.x c.if-x.true c.if-x-2.true

pub returns-then-x-2 : goal.returns-then-x-2
returns-then-x-2 c = c.root_positive.ensures

pub returns-else-x-2 : goal.returns-else-x-2
unfolding of_bits div
returns-else-x-2 c = endless c.args.x c.if-x.true c.if-x-2.false

pub returns-then-x-3 : goal.returns-then-x-3
unfolding of_bits neg sqrt
returns-then-x-3 c = let a = c.before.before in elim (nothing a.args.x (held a) c.if-x-3.true) [
  | inl e ↦ rw e refl
  | inr e ↦ rw e refl
]

pub returns-else-x-3 : goal.returns-else-x-3
unfolding of_bits div
returns-else-x-3 c = none c.args.x c.if-x.false c.if-x-3.false
