-- What is put down of one record is what the definitions say, for every layout with an angle. Assumes nothing.
use mathlib.Core.Path.{◌≡◌, sym, ap, ◌∙◌, subst}
use mathlib.Core.Bool.{Bool, true, ◌&&◌, ◌||◌}
use mathlib.Core.List.{List, [], ◌∷◌, ◌++◌, flat_map}
use Prim.Native.Nat.{ℕ, ◌+◌, ◌-◌, ◌*◌, ◌≤◌, ◌<◌}
use native.Mathlib.Omega.{arith}
use lib.Dec.{leb, eqb}
use lib.ListN.{length, get_or, take, drop, length-append, length-take, length-drop}
use lib.Seq.{get_or-take, get_or-drop}
use Rattle.std.specs.List.{list_all}
use Rattle.lists.specs.Pasted.{pasted}
use Rattle.lists.proofs.Bools.{and_assoc}
use Rattle.params.specs.Limits.{value_count}
use Rattle.sheet.specs.Pack.{bytes, number, pack, sound, Held}
use Rattle.sheet.specs.Layout.{Layout, Frame, head_size, head_slots, float_slots, value_slots, record_slots, record_size}
use Rattle.sheet.specs.Sheet.{record_right}
use Rattle.sheet.specs.Words.{plain_words, taken_words, head_words, float_words, front_words, head_fields, filled, all_zero}
use Rattle.sheet.specs.Writes.{words_right}
use Rattle.sheet.specs.Trip.{Lawful}
use Rattle.sheet_fields.specs.Fields.{head_values, HeadFits, any_frame, words_bytes}
use Rattle.sheet_fields.specs.declared.Head.{Head}
use Rattle.sheet.proofs.Packed.{length_bytes}
use Rattle.sheet.proofs.Words.{past_at}
use Rattle.sheet.proofs.Return.{taken_plain}
use Rattle.sheet.proofs.Steps.{length_bytes_all, five_at, all_low, all_nought}
use Rattle.sheet.proofs.Runs.{sized, filled_runs, held_head_run, value_lt, pack_runs, right_runs, triple}

-- of a record's words: the values of its head's slots, its floats, its values
abbrev pub heads : List ℕ → List ℕ
heads w = take head_words w ++ (get_or w plain_words 0 ∷ 0 ∷ [])

abbrev floats : List ℕ → List ℕ
floats w = take float_words (drop head_words w)

abbrev values : List ℕ → List ℕ
values w = take value_count (drop front_words w)

-- five words from k, one by one
pub five_are : (w : List ℕ) (k a b c d e : ℕ) → k + 5 ≤ length w → a ≡ get_or w k 0 → b ≡ get_or w (k + 1) 0 → c ≡ get_or w (k + 2) 0 → d ≡ get_or w (k + 3) 0 → e ≡ get_or w (k + 4) 0 →
    a ∷ b ∷ c ∷ d ∷ e ∷ [] ≡ take 5 (drop k w)
five_are w k a b c d e r pa pb pc pd pe = rw (pa, pb, pc, pd, pe) (sym (five_at k w r))

pub head_are : (w : List ℕ) (a b c d e f : ℕ) → plain_words ≤ length w → a ≡ get_or w 0 0 → b ≡ get_or w 1 0 → c ≡ get_or w 2 0 → d ≡ get_or w 3 0 → e ≡ get_or w 4 0 → f ≡ get_or w plain_words 0 →
    a ∷ b ∷ c ∷ d ∷ e ∷ f ∷ 0 ∷ [] ≡ heads w
head_are w a b c d e f r pa pb pc pd pe pf = rw pf (ap (λ (t : List ℕ). t ++ (get_or w plain_words 0 ∷ 0 ∷ [])) (five_are w 0 a b c d e (omega arith) pa pb pc pd pe))

-- a record's words are at least those that every layout takes
pub plain : (l : Layout) (w : List ℕ) → length w ≡ taken_words l → plain_words ≤ length w
plain l w n = subst (λ (m : ℕ). plain_words ≤ m) (sym n) (taken_plain l.marked)

module _ (l : Layout) (k : Lawful l) (a : l.angled ≡ true) (w : List ℕ) (n : plain_words ≤ length w) where
  heads_length : length (heads w) ≡ head_fields
  heads_length = rw (length-append, length-take) (omega arith)

  floats_length : length (floats w) ≡ float_words
  floats_length = rw (length-take, length-drop) (omega arith)

  values_length : length (values w) ≡ value_count
  values_length = rw (length-take, length-drop) (omega arith)

  -- a record's words are right, by its runs
  right_parts : (f : Frame) → words_right l f w
      ≡ ((sound (head_slots l f) (heads w) && (sound (float_slots l) (floats w) && sound value_slots (values w))) && (eqb (get_or w plain_words 0) 0 || all_zero (values w)))
  right_parts f =
      let p : length (take head_words w) ≡ head_words = rw length-take (omega arith) in
      ap (record_right l f) (filled_runs w n)
      ∙ right_runs l k a f (heads w) (floats w) (values w) heads_length floats_length
      ∙ ap (λ (b : ℕ). (sound (head_slots l f) (heads w) && (sound (float_slots l) (floats w) && sound value_slots (values w))) && (eqb b 0 || all_zero (values w)))
      (past_at (take head_words w) (get_or w plain_words 0 ∷ 0 ∷ []) head_words 0 p)

  low_is : list_all (λ v. leb v 255) (values w) ≡ sound value_slots (values w)
  low_is = rw values_length at (all_low 8 255 (values w))

  pub right_is : (f : Frame) (p q r s : Bool) (hs fs : List ℕ) → p ≡ sound (head_slots l f) hs → hs ≡ heads w → q ≡ sound (float_slots l) fs → fs ≡ floats w → r ≡ list_all (λ v. leb v 255) (values w) →
      s ≡ (eqb (get_or w plain_words 0) 0 || list_all (λ v. eqb v 0) (values w)) → (((p && q) && r) && s) ≡ words_right l f w
  right_is f p q r s hs fs ep eh eq ef er es =
      ap (λ (b : Bool). b && s) (and_assoc p q r)
      ∙ rw (ep, eh, eq, ef, er, es, low_is, all_nought (values w)) (sym (right_parts f))

  module _ (h : Held (record_slots l any_frame) (filled w)) where
    held_runs : Held (record_slots l any_frame) (heads w ++ (floats w ++ values w))
    held_runs = subst (Held (record_slots l any_frame)) (filled_runs w n) h

    pub head_room : (x : Head) → head_values x ≡ heads w → HeadFits l x
    head_room x e = subst (Held (head_slots l any_frame)) (sym e) (held_head_run l k a any_frame (heads w) (floats w) (values w) heads_length floats_length held_runs)

    pub value_byte : (i : ℕ) → i < value_count → get_or w (front_words + i) 0 < 256
    value_byte i r =
        let e : get_or (values w) i 0 ≡ get_or w (front_words + i) 0 = get_or-take value_count (drop front_words w) i 0 r ∙ get_or-drop front_words w i 0 in
        rw e at (value_lt l k a any_frame (heads w) (floats w) (values w) heads_length floats_length held_runs i (rw values_length r))

    -- the three writes of a record are one
    three : (at : ℕ) (d : List ℕ) → at + record_size l ≤ length d →
        pasted (at + (head_size + 4 * float_words)) (values w) (pasted (at + head_size) (flat_map (bytes 4) (floats w)) (pasted at (bytes head_size (number (head_slots l any_frame) (heads w))) d))
        ≡ pasted at (words_bytes l w) d
    three at d room =
        let b = flat_map (bytes 4) (floats w) in
        let lb : length (flat_map (bytes 4) (floats w)) ≡ 4 * float_words = length_bytes_all 4 (floats w) ∙ ap (λ (m : ℕ). 4 * m) floats_length in
        let lv = values_length in
        let z = sized l k a any_frame in
        sym (ap (λ (t : List ℕ). pasted at t d) (ap (pack (record_slots l any_frame)) (filled_runs w n) ∙ pack_runs l k a any_frame (heads w) (floats w) (values w) heads_length floats_length held_runs)
        ∙ triple at (bytes head_size (number (head_slots l any_frame) (heads w))) b (values w) d head_size (4 * float_words) (length_bytes head_size _) lb (omega arith))

    pub three_are : (at m size : ℕ) (d d1 d2 d3 : List ℕ) → at + record_size l ≤ length d → m ≡ number (head_slots l any_frame) (heads w) → size ≡ record_size l →
        d1 ≡ pasted at (bytes head_size m) d → d2 ≡ pasted (at + head_size) (flat_map (bytes 4) (floats w)) d1 → d3 ≡ pasted (at + (size - value_count)) (values w) d2 →
        d3 ≡ pasted at (words_bytes l w) d
    three_are at m size d d1 d2 d3 room e s p q r =
        let z = sized l k a any_frame in
        let o : size - value_count ≡ head_size + 4 * float_words = omega arith in
        rw (r, o, q, p, e) (three at d room)
