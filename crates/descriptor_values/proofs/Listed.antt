-- An array that is written from the front is the list of its values, and a sum that goes by numbers. Assumes nothing.
use mathlib.Core.Path.{◌≡◌, refl, sym, ap, ◌∙◌}
use mathlib.Core.List.{List, [], ◌∷◌, ◌++◌}
use Prim.Native.Nat.{ℕ, zero, suc, ◌+◌, ◌*◌, ◌<◌, ◌≤◌}
use native.Mathlib.Numerals.{add-one}
use native.Mathlib.Omega.{arith}
use lib.ListN.{length, drop, set, get_or}
use Rattle.std.proofs.lemmas.List.{length-append, append-nil, append_assoc, get_or_at, set_at, drop_more, drop_all}
use lib.Ieee.{Float, nan}
use Rattle.ieee.specs.F32.{◌⊕◌, ◌⊗◌, ◌⊘◌, fused, root_of}
use Rattle.ieee.specs.Numbers.{epsilon}
use Rattle.bounds.specs.Bounds.{max_of}
use Rattle.params.specs.Limits.{value_count}
use Rattle.descriptor_values.specs.Values.{factor, at, lane, norm2, plain_norm, scale_of}
use Rattle.lists.specs.Ranges.{joined}
use Rattle.lists.proofs.Ranges.{joined_none, joined_more}

-- the first n values
abbrev pub up_to : (ℕ → Float) → ℕ → List Float
up_to f n = joined 0 n (λ m. f m ∷ [])

pub up_to_length : (f : ℕ → Float) (n : ℕ) → length (up_to f n) ≡ n
up_to_length f zero = ap length (joined_none 0 0 (λ m. f m ∷ []) (omega arith))
up_to_length f (suc n) =
    ap (λ (k : ℕ). length (up_to f k)) (sym (add-one n))
    ∙ ap length (joined_more 0 n (λ m. f m ∷ []) (omega arith))
    ∙ length-append (up_to f n) (f n ∷ [])
    ∙ omega (arith, up_to_length f n)

-- a list whose first n places hold the first n values, and the rest what stood there
abbrev pub filled : (ℕ → Float) → List Float → ℕ → List Float
filled f old n = up_to f n ++ drop n old

pub filled_none : (f : ℕ → Float) (old : List Float) → old ≡ filled f old 0
unfolding joined
filled_none f old = refl

-- place n still holds what stood there, and takes the next value
pub filled_at : (f : ℕ → Float) (old : List Float) (n : ℕ) (d : Float) → n < length old → get_or (filled f old n) n d ≡ get_or old n d
filled_at f old n d h = rw (drop_more old n d h) (get_or_at (up_to f n) (get_or old n d) (drop (n + 1) old) d n (up_to_length f n))

pub filled_more : (f : ℕ → Float) (old : List Float) (n : ℕ) (v : Float) → n < length old → v ≡ f n → set (filled f old n) n v ≡ filled f old (n + 1)
filled_more f old n v h e =
    rw (drop_more old n v h, set_at (up_to f n) (get_or old n v) (drop (n + 1) old) v n (up_to_length f n), joined_more 0 n (λ m. f m ∷ []) (omega arith), append_assoc, e)

-- a turn of a loop that puts g of what stands at place n there
pub filled_next : (g : Float → Float) (old a : List Float) (n : ℕ) {v : Float} → n < length old → a ≡ filled (λ m. g (at old m)) old n → v ≡ g (at a n) → set a n v ≡ filled (λ m. g (at old m)) old (n + 1)
filled_next g old a n {v} h p e =
    ap (λ (u : List Float). set u n v) p
    ∙ filled_more (λ m. g (at old m)) old n v h (e ∙ ap g (ap (λ (u : List Float). at u n) p ∙ filled_at (λ m. g (at old m)) old n nan h))

pub filled_all : (f : ℕ → Float) (old : List Float) (n m : ℕ) → length old ≡ m → n ≤ m → m ≤ n → filled f old n ≡ up_to f m
filled_all f old n m e h k =
    let q : n ≡ m = omega arith in
    rw (q, drop_all m old (omega arith), append-nil)

pub lane_more : (v : List Float) (l n : ℕ) → lane v l (n + 1) ≡ fused (at v (4 * n + l)) (at v (4 * n + l)) (lane v l n)
unfolding lane
lane_more v l n = rw add-one

-- a sum that takes the next value of its lane
pub lane_on : (v : List Float) (l n k : ℕ) {s r : Float} → k ≡ 4 * n + l → s ≡ lane v l n → r ≡ fused (at v k) (at v k) s → r ≡ lane v l (n + 1)
lane_on v l n k {s} {r} p q e =
    e ∙ ap (λ (z : ℕ). fused (at v z) (at v z) s) p ∙ ap (λ (z : Float). fused (at v (4 * n + l)) (at v (4 * n + l)) z) q ∙ sym (lane_more v l n)

pub norm_of : (v : List Float) (n : ℕ) {a b c d : Float} → n ≡ 32 → a ≡ lane v 0 n → b ≡ lane v 1 n → c ≡ lane v 2 n → d ≡ lane v 3 n → (a ⊕ b) ⊕ (c ⊕ d) ≡ norm2 v
unfolding norm2
norm_of v n e a b c d = rw (a, b, c, d, e)

plain_more : (v : List Float) (n : ℕ) → plain_norm v (n + 1) ≡ plain_norm v n ⊕ at v n ⊗ at v n
unfolding plain_norm
plain_more v n = rw add-one

-- a turn of that sum
pub plain_on : (v : List Float) (n : ℕ) (s : Float) → s ≡ plain_norm v n → s ⊕ at v n ⊗ at v n ≡ plain_norm v (n + 1)
plain_on v n s e = ap (λ (z : Float). z ⊕ at v n ⊗ at v n) e ∙ sym (plain_more v n)

-- what the calls give, put together
pub scale_is : (v : List Float) (s r m : Float) → s ≡ plain_norm v value_count → r ≡ root_of s → m ≡ max_of r epsilon → factor ⊘ m ≡ scale_of v
unfolding scale_of
scale_is v s r m es er em = rw (em, er, es) refl
