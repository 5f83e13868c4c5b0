-- What is taken of one record's bytes is what the definitions say, in every layout with an angle. Assumes nothing.
use mathlib.Core.Path.{◌≡◌, refl, sym, ap, ◌∙◌}
use mathlib.Core.Bool.{Bool, true, false, ◌&&◌, ◌||◌, not, cond}
use mathlib.Core.List.{List, [], ◌∷◌, ◌++◌, append_assoc}
use Prim.Native.Nat.{ℕ, zero, suc, ◌+◌, ◌-◌, ◌^◌, ◌≤◌, ◌<◌}
use native.Mathlib.Nat.{add-zero, lt_of_lt_of_le}
use native.Mathlib.Omega.{arith}
use borrow.Rule.Slice.PartMut.{put_mid}
use borrow.Author.Tests.{eq-eqb, ne_eqb}
use lib.Dec.{eqb, lit<, lit≤}
use lib.ListN.{length, get_or, set, take, drop, length-append, length-take, length-drop}
use lib.Pow.{pow_mono}
use lib.Seq.{drop-drop}
use Rattle.lists.specs.Pasted.{pasted}
use Rattle.lists.proofs.Pasted.{length_pasted, pasted_append, pasted_one}
use Rattle.params.specs.Limits.{value_count}
use Rattle.sheet.specs.Pack.{Slot, value, unpack, sound, Held, Bytes}
use Rattle.sheet.specs.Pack.Held.{none, one}
use Rattle.sheet.specs.Layout.{Layout, Frame, head_size, front_size, head_slots, float_slots, record_size}
use Rattle.sheet.specs.Words.{plain_words, read_words, head_words, front_words, all_zero, unknown_of}
use Rattle.sheet.specs.Trip.{Lawful}
use Rattle.sheet.proofs.Cut.{value_fits}
use Rattle.sheet.proofs.Runs.{sized, bytes_runs, words_runs, triple, length_unpack, floats_at}
use Rattle.sheet.proofs.Alike.{head_any}
use Rattle.sheet_edition.specs.Edition.{layout_for}
use Rattle.sheet_edition.specs.declared.Edition.{Edition}
use Rattle.sheet_fields.specs.Fields.{head_values, HeadFits, float_values, any_frame, bytes_front, bytes_words, record_bytes_right}
use Rattle.sheet_fields.specs.declared.Head.{Head}
use Rattle.sheet_fields.specs.declared.Floats.{Floats}

-- four bytes, as they were got, have room in 32 bits
pub got_fits : (bs : List ℕ) (at n : ℕ) → Bytes bs → at + 4 ≤ length bs → n ≡ value (take 4 (drop at bs)) → n < 2 ^ 32
got_fits bs at n g r e = rw e (value_fits bs at 4 g r)

-- a part of a list that is written whole
pub part_set : (at n : ℕ) (old new xs : List ℕ) → new ≡ xs → n ≡ length xs → put_mid at n old new ≡ pasted at xs old
unfolding pasted
part_set at n old new xs e l = rw (e, l, drop-drop (length xs) at old)

-- whether an edition has a blank bit, by the power of two that it makes
two_marked : (b : Bool) → 2 ^ cond b 1 0 ≡ 2 → b ≡ true
two_marked true e = refl
two_marked false e = absurd (omega arith)

other_unmarked : (b : Bool) → (2 ^ cond b 1 0 ≡ 2 → ⊥) → b ≡ false
other_unmarked true n = absurd (n refl)
other_unmarked false n = refl

module _ (e : Edition) where
  pub marked : e.marks ≡ 2 → (layout_for e).marked ≡ true
  marked h = two_marked (layout_for e).marked (sym e.marks_are ∙ h)

  pub unmarked : (e.marks ≡ 2 → ⊥) → (layout_for e).marked ≡ false
  unmarked n = other_unmarked (layout_for e).marked (λ h. n (e.marks_are ∙ h))

-- a value that has room in a slot of at most 32 bits has room in a word
abbrev Narrow : List Slot → Type 0
Narrow [] = Unit
Narrow (s ∷ ss) = (s.width ≤ 32) × Narrow ss

held_word : {ss : List Slot} {vs : List ℕ} → Narrow ss → Held ss vs → (i : ℕ) → get_or vs i 0 < 2 ^ 32
held_word r none i = lit< tt
held_word r (one h t) zero = lt_of_lt_of_le h (pow_mono r.0)
held_word r (one h t) (suc i) = held_word r.1 t i

-- so do a record's whole numbers and its blank bit
pub head_word : (l : Layout) → Lawful l → (h : Head) → HeadFits l h → (i : ℕ) → get_or (head_values h) i 0 < 2 ^ 32
head_word l k h f i =
    let s : l.side ≤ 32 = omega (arith, k.side) in
    held_word (s, (s, (lit≤ tt, (lit≤ tt, (lit≤ tt, (omega (arith, k.side), (omega arith, tt))))))) f i

-- the added word, from a record's bytes,
abbrev pub added_word : Layout → List ℕ → ℕ
added_word l bs = cond l.marked (get_or (unpack (head_slots l any_frame) (take head_size bs)) head_words 0) (unknown_of (drop (front_size l) bs))

-- and what is said of these by their fields
module _ (l : Layout) (bs : List ℕ) where
  pub added_unmarked : l.marked ≡ false → (b : Bool) → b ≡ all_zero (drop (front_size l) bs) → cond b 2 0 ≡ added_word l bs
  added_unmarked m b e = rw (m, e)

  module _ (h : Head) (p : unpack (head_slots l any_frame) (take head_size bs) ≡ head_values h) where
    pub added_marked : l.marked ≡ true → h.blank ≡ added_word l bs
    added_marked m = sym (ap (λ (b : Bool). cond b (get_or (unpack (head_slots l any_frame) (take head_size bs)) head_words 0) (unknown_of (drop (front_size l) bs))) m ∙ ap (λ (v : List ℕ). get_or v head_words 0) p)

    -- a record's first ten words, in two writes
    pub front_set : (x : Floats) → unpack (float_slots l) (take (front_size l - head_size) (drop head_size bs)) ≡ float_values x →
        (to : ℕ) (d : List ℕ) → to + front_words ≤ length d →
        pasted (to + head_words) (float_values x) (pasted to (take head_words (head_values h)) d) ≡ pasted to (bytes_front l bs) d
    front_set x q to d room =
        sym (ap (λ (v : List ℕ). pasted to (take head_words v ++ unpack (float_slots l) (take (front_size l - head_size) (drop head_size bs))) d) p
        ∙ ap (λ (v : List ℕ). pasted to (take head_words (head_values h) ++ v) d) q
        ∙ pasted_append to (take head_words (head_values h)) (float_values x) d room)

  front_length : length (bytes_front l bs) ≡ front_words
  front_length = rw (length-append, length-take, length_unpack, length_unpack)

-- whether a record keeps the rules, r: by its fields, a, by its blank bit, n, and by its values, z
pub record Tested (r a : Bool) (n : ℕ) (z : Bool) : Type 0 where
  pub is : r ≡ (a && (eqb n 0 || z))

pub fields_fail : {r a z : Bool} {n : ℕ} → Tested r a n z → a ≡ false → a ≡ r
fields_fail t h = h ∙ sym (t.is ∙ rw h)

pub not_blank : {r a z : Bool} {n : ℕ} → Tested r a n z → a ≡ true → n ≡ 0 → eqb n 0 ≡ r
not_blank {n = n} t h e = eq-eqb n 0 e ∙ sym (t.is ∙ rw (h, eq-eqb n 0 e))

pub values_say : {r a z : Bool} {n : ℕ} → Tested r a n z → a ≡ true → (n ≡ 0 → ⊥) → z ≡ r
values_say {n = n} t h e = sym (t.is ∙ rw (h, ne_eqb n 0 e))

-- a record's bytes, of which the values are the last
module _ (l : Layout) (k : Lawful l) (a : l.angled ≡ true) (bs : List ℕ) (n : length bs ≡ record_size l) where
  runs_length : length bs ≡ front_size l + value_count
  runs_length = omega (arith, sized l k a any_frame)

  values_length : length (drop (front_size l) bs) ≡ value_count
  values_length = rw length-drop (omega (arith, runs_length))

  module _ (g : Bytes bs) where
    -- whether they keep the rules, from what was said of their fields
    pub right_is : (h : Head) (x : Floats) → unpack (head_slots l any_frame) (take head_size bs) ≡ head_values h →
        unpack (float_slots l) (take (front_size l - head_size) (drop head_size bs)) ≡ float_values x →
        (f : Frame) (u v : Bool) → u ≡ sound (head_slots l f) (head_values h) → v ≡ sound (float_slots l) (float_values x) →
        Tested (record_bytes_right l f bs) (u && v) h.blank (all_zero (drop (front_size l) bs))
    right_is h x p q f u v s t =
        let z = all_zero (drop (front_size l) bs) in
        record {
          is = bytes_runs l k a f bs runs_length g
              ∙ ap (λ (w : List ℕ). (sound (head_slots l f) w && sound (float_slots l) (unpack (float_slots l) (take (front_size l - head_size) (drop head_size bs)))) && (eqb (get_or w head_words 0) 0 || z)) (head_any l f any_frame (take head_size bs) ∙ p)
              ∙ ap (λ (w : List ℕ). (sound (head_slots l f) (head_values h) && sound (float_slots l) w) && (eqb h.blank 0 || z)) q
              ∙ rw (s, t);
        }

    -- their floats, one by one
    pub floats_are : (x : Floats) → x.x ≡ value (take 4 (drop 6 bs)) → x.y ≡ value (take 4 (drop 10 bs)) → x.size ≡ value (take 4 (drop 14 bs)) → x.response ≡ value (take 4 (drop 18 bs)) → x.angle ≡ value (take 4 (drop 22 bs)) →
        unpack (float_slots l) (take (front_size l - head_size) (drop head_size bs)) ≡ float_values x
    floats_are x pa pb pc pd pe = rw (pa, pb, pc, pd, pe) (floats_at l k a any_frame head_size bs (omega (arith, sized l k a any_frame)) g)

    -- all the words, in three writes
    pub words_set : (to : ℕ) (d : List ℕ) → to + read_words ≤ length d →
        set (pasted (to + front_words) (drop (front_size l) bs) (pasted to (bytes_front l bs) d)) (to + plain_words) (added_word l bs) ≡ pasted to (bytes_words l bs) d
    words_set to d room =
        let v = drop (front_size l) bs in
        let lv = values_length in
        let lf = front_length l bs in
        let w = added_word l bs in
        let d1 : length (pasted to (bytes_front l bs) d) ≡ length d = length_pasted to (bytes_front l bs) d (omega arith) in
        let d2 : length (pasted (to + front_words) (drop (front_size l) bs) (pasted to (bytes_front l bs) d)) ≡ length (pasted to (bytes_front l bs) d) = length_pasted (to + front_words) v (pasted to (bytes_front l bs) d) (omega arith) in
        sym (ap (λ (t : List ℕ). pasted to t d) (words_runs l k a any_frame bs runs_length g
        ∙ sym (append_assoc (take head_words (unpack (head_slots l any_frame) (take head_size bs))) (unpack (float_slots l) (take (front_size l - head_size) (drop head_size bs))) (v ++ (w ∷ []))))
        ∙ triple to (bytes_front l bs) v (w ∷ []) d front_words value_count lf lv room
        ∙ pasted_one (to + plain_words) w (pasted (to + front_words) v (pasted to (bytes_front l bs) d)) (omega arith))
