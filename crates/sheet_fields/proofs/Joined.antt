-- Fields put one behind the other, and cut off from the last one on: what the code does at any widths. Assumes nothing.
use mathlib.Core.Path.{◌≡◌, refl, sym, ap, ◌∙◌, subst}
use mathlib.Core.Bool.{Bool, true, false, cond}
use mathlib.Core.List.{List, [], ◌∷◌}
use Prim.Native.Nat.{ℕ, zero, suc, ◌+◌, ◌-◌, ◌*◌, ◌/◌, ◌%◌, ◌^◌, ◌≤◌, ◌<◌}
use native.Mathlib.Nat.{suc_inj, le_trans, lt_of_le_of_lt, mul-suc, add-mul, mul_assoc, mod-lt, div-add-mod'}
use native.Mathlib.Omega.{arith}
use lib.ListN.{length}
use lib.Pow.{pow_pos, pow-add, high, shr_lt}
use Rattle.sheet.specs.Pack.{Slot, bits, number, fields, Held}
use Rattle.sheet.specs.Pack.Held.{none, one}
use Rattle.sheet.specs.Layout.{Layout, mark_bits}
use Rattle.sheet.specs.Trip.{Lawful}
use Rattle.sheet.proofs.Packed.{number_lt, fields_number}
use Rattle.sheet.proofs.Lawful.{lawful_edition}
use Rattle.sheet_edition.specs.Edition.{layout_for}
use Rattle.sheet_edition.specs.declared.Edition.{Edition}

-- values put behind what stands before them
unfoldable pub joined : List Slot → List ℕ → ℕ → ℕ
joined [] vs a = a
joined (s ∷ ss) [] a = a
joined (s ∷ ss) (v ∷ vs) a = joined ss vs (a * 2 ^ s.width + v)

joined_is : (ss : List Slot) (vs : List ℕ) → length ss ≡ length vs → (a : ℕ) → joined ss vs a ≡ a * 2 ^ bits ss + number ss vs
unfolding joined number bits
joined_is [] [] e a = omega arith
joined_is [] (v ∷ vs) e a = absurd (omega arith)
joined_is (s ∷ ss) [] e a = absurd (omega arith)
joined_is (s ∷ ss) (v ∷ vs) e a =
    let p : (a * 2 ^ s.width + v) * 2 ^ bits ss ≡ a * (2 ^ s.width * 2 ^ bits ss) + v * 2 ^ bits ss = rw (add-mul, mul_assoc) in
    joined_is ss vs (suc_inj e) (a * 2 ^ s.width + v) ∙ rw pow-add (omega arith)

held_length : {ss : List Slot} {vs : List ℕ} → Held ss vs → length ss ≡ length vs
held_length none = refl
held_length (one h t) = ap suc (held_length t)

times_one : (a p v : ℕ) → 0 < p → a ≤ a * p + v
times_one a zero v h = absurd (omega arith)
times_one a (suc p) v h = rw mul-suc (omega arith)

joined_le : (ss : List Slot) (vs : List ℕ) (a : ℕ) → a ≤ joined ss vs a
unfolding joined
joined_le [] vs a = omega arith
joined_le (s ∷ ss) [] a = omega arith
joined_le (s ∷ ss) (v ∷ vs) a = le_trans (times_one a (2 ^ s.width) v (pow_pos s.width)) (joined_le ss vs (a * 2 ^ s.width + v))

-- a stands before the values vs, and with them is n
pub record Stands (ss : List Slot) (vs : List ℕ) (a n : ℕ) : Type 0 where
  pub is : joined ss vs a ≡ n

-- ---- joining

pub first_stands : (s : Slot) {ss : List Slot} {v : ℕ} {vs : List ℕ} → Held (s ∷ ss) (v ∷ vs) → Stands ss vs v (number (s ∷ ss) (v ∷ vs))
unfolding number
first_stands s (one {v = v} {ss = ss} {vs = vs} h t) = record { is = joined_is ss vs (held_length t) v }

module _ {s : Slot} {ss : List Slot} {v : ℕ} {vs : List ℕ} {a n : ℕ} (h : Stands (s ∷ ss) (v ∷ vs) a n) (p : ℕ) (e : p ≡ 2 ^ s.width) where
  -- with the next behind it
  pub next_stands : (r : ℕ) → r ≡ a * p + v → Stands ss vs r n
  unfolding joined
  next_stands r q = record { is = ap (joined ss vs) (q ∙ ap (λ (x : ℕ). a * x + v) e) ∙ h.is }

  -- and no step goes above the whole
  pub step_fits : (top : ℕ) → n < top → a * p + v < top
  step_fits top l = lt_of_le_of_lt (subst (λ (m : ℕ). a * p + v ≤ m) (next_stands (a * p + v) refl).is (joined_le ss vs (a * p + v))) l

pub all_joined : {a n : ℕ} → Stands [] [] a n → a ≡ n
unfolding joined
all_joined h = h.is

-- ---- cutting, from the last field on

pub none_cut : (n : ℕ) → Stands [] [] n n
unfolding joined
none_cut n = record { is = refl }

-- a field cut off the end
pub cut_off : {s : Slot} {ss : List Slot} {vs : List ℕ} {q n : ℕ} → Stands ss vs q n → (p : ℕ) → p ≡ 2 ^ s.width → Stands (s ∷ ss) ((q % p) ∷ vs) (q / p) n
unfolding joined
cut_off {s} {ss} {vs} {q} {n} h p e = record { is = ap (λ (x : ℕ). joined ss vs (q / p * x + q % p)) (sym e) ∙ ap (joined ss vs) (div-add-mod' q p) ∙ h.is }

-- has room in its slot
pub cut_held : {s : Slot} {ss : List Slot} {vs : List ℕ} → Held ss vs → (q p : ℕ) → p ≡ 2 ^ s.width → Held (s ∷ ss) ((q % p) ∷ vs)
cut_held {s} h q p e = one (subst (λ (x : ℕ). q % p < x) e (mod-lt q (subst (λ (x : ℕ). 0 < x) (sym e) (pow_pos s.width)))) h

-- so does what is left, if all have together; and these are then the fields
module _ (s : Slot) {ss : List Slot} {v : ℕ} {vs : List ℕ} {n : ℕ} (h : Held ss vs) (t : Stands ss vs v n) (l : n < 2 ^ bits (s ∷ ss)) where
  whole : number (s ∷ ss) (v ∷ vs) ≡ n
  unfolding number
  whole = sym (joined_is ss vs (held_length h) v) ∙ t.is

  pub all_held : Held (s ∷ ss) (v ∷ vs)
  unfolding number bits
  all_held = one (subst (λ (x : ℕ). x < 2 ^ s.width) (ap (λ (x : ℕ). x / 2 ^ bits ss) (sym whole) ∙ high v (bits ss) (number_lt h)) (shr_lt s.width (bits ss) l)) h

  pub all_cut : fields (s ∷ ss) n ≡ v ∷ vs
  all_cut = ap (fields (s ∷ ss)) (sym whole) ∙ fields_number all_held

-- ---- the widths

-- the header has four zero bits more than a record
header_spare : (l : Layout) → Lawful l → 2 ^ (32 - (2 * l.side + mark_bits l)) * 16 ≡ 2 ^ (36 - (2 * l.side + mark_bits l))
header_spare l k =
    let e : 36 - (2 * l.side + mark_bits l) ≡ 32 - (2 * l.side + mark_bits l) + 4 = omega (arith, k.side) in
    sym (ap (λ (n : ℕ). 2 ^ n) e ∙ pow-add 2 (32 - (2 * l.side + mark_bits l)) 4)

pub spare_header : (e : Edition) → e.spare * 16 ≡ 2 ^ (36 - (2 * (layout_for e).side + mark_bits (layout_for e)))
spare_header e = ap (λ (n : ℕ). n * 16) e.spare_is ∙ header_spare (layout_for e) (lawful_edition e.number)

-- a mark's largest value is one less than its power of two
mark_either : (b : Bool) → 2 ^ cond b 1 0 - 1 ≡ cond b 1 0
mark_either true = refl
mark_either false = refl

pub mark_top : (l : Layout) → 2 ^ mark_bits l - 1 ≡ mark_bits l
mark_top l = mark_either l.marked
