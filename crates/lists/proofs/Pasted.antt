-- The laws of writing a run of values at a place. Assumes nothing.
use mathlib.Core.Path.{◌≡◌, ◌∙◌}
use mathlib.Core.List.{List, [], ◌∷◌, ◌++◌, append_assoc}
use Prim.Native.Nat.{ℕ, suc, ◌+◌, ◌≤◌, ◌<◌}
use native.Mathlib.Nat.{add-zero, add_assoc}
use native.Mathlib.Numerals.{add-one}
use native.Mathlib.Omega.{arith}
use lib.ListN.{length, set, take, drop, length-append, length-take, length-drop, take-append-drop}
use lib.Seq.{take_at, drop_at, drop-append-add, drop-drop, length-take-le, set_split, take-set-le}
use Rattle.lists.specs.Pasted.{pasted}

pub length_pasted : {A : Type 0} (at : ℕ) (a d : List A) → at + length a ≤ length d → length (pasted at a d) ≡ length d
unfolding pasted
length_pasted at a d h = simp (length-append, length-take, length-drop) (omega arith)

pub pasted_none : {A : Type 0} (at : ℕ) (d : List A) → pasted at [] d ≡ d
unfolding pasted
pasted_none at d = rw (add-zero, take-append-drop)

pub pasted_append : {A : Type 0} (at : ℕ) (a b d : List A) → at + length (a ++ b) ≤ length d → pasted at (a ++ b) d ≡ pasted (at + length a) b (pasted at a d)
unfolding pasted
pasted_append at a b d h =
    let k : at + (length a + length b) ≤ length d = rw length-append at h in
    let f : length (take at d ++ a) ≡ at + length a = rw (length-append, length-take-le at d (omega arith)) in
    let t = take_at (take at d ++ a) (drop (at + length a) d) (at + length a) f in
    let u : drop (at + length a + length b) ((take at d ++ a) ++ drop (at + length a) d) ≡ drop (at + length a + length b) d =
    rw (← f, drop-append-add, drop-drop) in
    rw (← append_assoc (take at d) a (drop (at + length a) d), t, u, length-append, append_assoc, append_assoc, add_assoc)

pub pasted_one : {A : Type 0} (at : ℕ) (v : A) (d : List A) → at < length d → pasted at (v ∷ []) d ≡ set d at v
unfolding pasted
pasted_one at v d h = rw (set_split d at v h, add-one)

-- forward, a byte at a time
pub pasted_cons : {A : Type 0} (at : ℕ) (v : A) (b d : List A) → at + suc (length b) ≤ length d → pasted at (v ∷ b) d ≡ pasted (at + 1) b (set d at v)
pasted_cons at v b d h = pasted_append at (v ∷ []) b d h ∙ rw (pasted_one at v d (omega arith))

-- backward, a byte at a time
pub pasted_snoc : {A : Type 0} (at : ℕ) (v : A) (a d : List A) → at + length a < length d → pasted at (a ++ (v ∷ [])) d ≡ pasted at a (set d (at + length a) v)
unfolding pasted
pasted_snoc at v a d h =
    let j = at + length a in
    let t : take at (set d (at + length a) v) ≡ take at d = take-set-le at d (at + length a) v (omega arith) in
    let u : drop (at + length a) (set d (at + length a) v) ≡ v ∷ drop (suc (at + length a)) d =
    rw (set_split d (at + length a) v h, drop_at (take (at + length a) d) (v ∷ drop (suc (at + length a)) d) (at + length a) (length-take-le (at + length a) d (omega arith))) in
    let n : at + length (a ++ (v ∷ [])) ≡ suc (at + length a) = rw length-append (omega arith) in
    rw (t, u, n, append_assoc)
