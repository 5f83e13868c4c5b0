-- What the writer's code puts down is what the definitions say, for every lawful layout. Assumes nothing.
use mathlib.Core.Path.{◌≡◌, refl, sym, ap, ◌∙◌, subst}
use mathlib.Core.Bool.{Bool, true, false, ◌&&◌, ◌||◌, not}
use mathlib.Core.List.{List, [], ◌∷◌, ◌++◌, flat_map}
use Prim.Native.Nat.{ℕ, ◌+◌, ◌-◌, ◌*◌, ◌/◌, ◌%◌, ◌^◌, ◌≤◌, ◌<◌}
use native.Mathlib.Nat.{zero-add}
use native.Mathlib.Omega.{arith}
use borrow.Author.Tests.{eq-eqb, ne_eqb}
use lib.Dec.{leb, ltb, eqb}
use lib.ListN.{length, get_or, take, drop, length-append, length-take, length-drop}
use lib.Seq.{get_or-take, get_or-drop}
use Rattle.lists.specs.Pasted.{pasted}
use Rattle.lists.proofs.Pasted.{pasted_append}
use Rattle.params.specs.Table.{shape_wrong}
use Rattle.std.specs.Prelude.{Result, Ok, Err}
use Rattle.std.specs.Result.{IsErrAnd}
use Rattle.params.specs.Answers.{Answer, Done, Short, Refused, answer_of, landed, refused, told}
use Rattle.params.specs.declared.Refusal.{Refusal}
use Rattle.params.specs.declared.Refusal.TheVariants.{Shape, Layers, Length, Settings, Fields, Samples, Room, Sheet}
use Rattle.params.proofs.Bools.{or_neither}
use Rattle.sheet.specs.Pack.{bytes, number, Held}
use Rattle.sheet.specs.Layout.{Layout, Frame, layout_of, known, header_size, max_count, top_rule, header_slots, header_values, record_slots, record_size}
use Rattle.sheet.specs.Sheet.{parts, all_pass}
use Rattle.sheet.specs.Words.{taken_words, layer_place, filled}
use Rattle.sheet.specs.Writes.{count_in, records_of, frame_of, layer_right, sides_wrong, layers_wrong, records_layered, words_right, words_wrong, fault_in, write_fault, written, write_size, write_answer, write_out}
use Rattle.sheet.specs.Trip.{Lawful}
use Rattle.sheet_edition.specs.Edition.{layout_for}
use Rattle.sheet_edition.specs.declared.Edition.{Edition}
use Rattle.sheet_fields.specs.Fields.{header_list, HeaderFits, any_frame, words_bytes}
use Rattle.sheet_fields.specs.declared.Header.{Header}
use Rattle.sheet.proofs.Packed.{length_bytes, held}
use Rattle.sheet.proofs.Lawful.{Framed, header_roomy, right_held}
use Rattle.sheet.proofs.Parts.{pass_at}
use Rattle.sheet.proofs.Trip.{record_length}
use Rattle.sheet.proofs.Steps.{step_inside, length_all}
use Rattle.sheet.proofs.Alike.{held_any, written_is}
use Rattle.sheet.proofs.Answered.{answer_refused, answer_short, answer_done}
use Rattle.sheet.proofs.Faults.{Sound, sound_of, shape_fine, fault_asked, fault_sides, fault_layers, fault_edition, fault_words, no_fault}
use Rattle.sheet.proofs.Return.{taken_plain, taken_pos, whole_records, header_sound}
use Rattle.sheet_edition.proofs.Layouts.{layout_is, size_is}

-- record i of n, of w words or bytes each, ends inside the room of n
pub inside : (w k n i room : ℕ) → w ≡ k → k * n ≤ room → i < n → w * i + w ≤ room
inside w k n i room e r h =
    let t = step_inside k n i h in
    rw e (omega arith)

-- its part of the words, as the code cuts it
pub part_is : (w k i : ℕ) (ws : List ℕ) → w ≡ k → take (w * i + w - w * i) (drop (w * i) ws) ≡ take k (drop (k * i) ws)
part_is w k i ws e =
    let m : k * i + k - k * i ≡ k = omega arith in
    rw (e, m)

pub part_length : (w k n i : ℕ) (ws : List ℕ) → w ≡ k → k * n ≤ length ws → i < n → length (take (w * i + w - w * i) (drop (w * i) ws)) ≡ k
part_length w k n i ws e r h =
    let t = inside k k n i (length ws) refl r h in
    ap length (part_is w k i ws e) ∙ rw (length-take, length-drop) (omega arith)

-- its bytes, behind the header
pub inside_out : (b k n i room : ℕ) → b ≡ k → header_size + k * n ≤ room → i < n → header_size + b * i + k ≤ room
inside_out b k n i room e r h =
    let t = inside b k n i (k * n) e (omega arith) h in
    omega arith

pub part_put : (l : Layout) (w b i : ℕ) (ws d : List ℕ) → w ≡ taken_words l → b ≡ record_size l →
    pasted (header_size + b * i) (words_bytes l (take (w * i + w - w * i) (drop (w * i) ws))) d
    ≡ pasted (header_size + record_size l * i) (words_bytes l (take (taken_words l) (drop (taken_words l * i) ws))) d
part_put l w b i ws d e q =
    ap (λ (x : List ℕ). pasted (header_size + b * i) (words_bytes l x) d) (part_is w (taken_words l) i ws e)
    ∙ ap (λ (m : ℕ). pasted (header_size + m * i) (words_bytes l (take (taken_words l) (drop (taken_words l * i) ws))) d) q

-- how many they are
pub length_record : (l : Layout) → Lawful l → (w : List ℕ) → length (words_bytes l w) ≡ record_size l
length_record l k w = record_length l k (record { frame = any_frame; records = [] }) (filled w)

-- the test of the sides, as the code makes it
pub sides_is : (l : Layout) (f : Frame) (a : Bool) (s : ℕ) → a ≡ shape_wrong f.width f.height → s ≡ 2 ^ l.side → (a || (ltb s f.width || ltb s f.height)) ≡ sides_wrong l f
unfolding sides_wrong
sides_is l f a s p q = rw (p, q)

pub sides_fine : (l : Layout) (f : Frame) → sides_wrong l f ≡ false → (1 ≤ f.width) × (1 ≤ f.height)
unfolding sides_wrong
sides_fine l f e = shape_fine f.width f.height (or_neither _ _ e).0

-- of an edition's value: the header's values, the words of a record, how many records there are, and the bytes that they take
module _ (e : Edition) where
  pub header_is : (width height layers n : ℕ) → e.number ∷ (width - 1) ∷ (height - 1) ∷ layers ∷ n ∷ 0 ∷ 0 ∷ [] ≡ header_values (layout_for e) (frame_of width height layers) n
  header_is width height layers n = ap (λ (x : ℕ). x ∷ (width - 1) ∷ (height - 1) ∷ layers ∷ n ∷ 0 ∷ 0 ∷ []) e.number_is

  pub words_pos : 0 < e.words
  words_pos = subst (λ (n : ℕ). 0 < n) (sym e.words_are) (taken_pos (layout_for e).marked)

  module _ (ws : List ℕ) where
    -- its whole records, as the code cuts them
    pub records_are : parts e.words (length ws / e.words) ws ≡ records_of (layout_for e) ws
    unfolding records_of
    records_are = ap (λ (k : ℕ). parts k (length ws / k) ws) e.words_are

    pub count_is : length ws / e.words ≡ count_in (layout_for e) ws
    count_is = ap (λ (n : ℕ). length ws / n) e.words_are

    pub whole_is : taken_words (layout_for e) * (length ws / e.words) ≤ length ws
    whole_is = subst (λ (n : ℕ). taken_words (layout_for e) * n ≤ length ws) (sym count_is) (whole_records (layout_for e) ws)

    pub bytes_is : header_size + e.bytes * (length ws / e.words) ≡ header_size + record_size (layout_for e) * (length ws / e.words)
    bytes_is = ap (λ (b : ℕ). header_size + b * (length ws / e.words)) e.bytes_are

    pub sheet_size_lem : header_size + e.bytes * (length ws / e.words) ≡ write_size (layout_for e) ws
    sheet_size_lem = bytes_is ∙ ap (λ (n : ℕ). header_size + record_size (layout_for e) * n) count_is

    pub size_small : (f : Frame) → Sound (layout_for e) f ws → header_size + e.bytes * (length ws / e.words) ≤ header_size + 154 * max_count
    size_small f s =
        let z = size_is e in
        let c : length ws / e.words ≤ max_count = subst (λ (n : ℕ). n ≤ max_count) (sym count_is) s.count in
        rw (e.bytes_are, z) (omega arith)

module _ (l : Layout) (f : Frame) (ws : List ℕ) where
  -- the test of the records, as the code makes it
  words_is : (k : ℕ) (b : Bool) → k ≡ taken_words l → b ≡ all_pass (words_right l f) (records_of l ws) →
      words_wrong l f ws ≡ (not (eqb (length ws % k) 0) || (ltb max_count (length ws / k) || not b))
  unfolding words_wrong
  words_is k b e p = rw (p, e)

  -- the faults that are looked for where the layout was asked for
  module _ (asked : Bool) (y : asked ≡ true) (a : sides_wrong l f ≡ false) (b : layers_wrong f ≡ false) where
    asked_layers : records_layered l f ws ≡ false → fault_in asked l f ws ≡ 2
    asked_layers c = fault_layers asked l f ws a (rw (b, y, c))

    asked_words : records_layered l f ws ≡ true → words_wrong l f ws ≡ true → fault_in asked l f ws ≡ 5
    asked_words c d = ap (λ (t : Bool). fault_in t l f ws) y ∙ fault_words l f ws a (rw (b, c)) d

    asked_none : records_layered l f ws ≡ true → words_wrong l f ws ≡ false → fault_in asked l f ws ≡ 0
    asked_none c d = ap (λ (t : Bool). fault_in t l f ws) y ∙ no_fault l f ws a (rw (b, c)) d

  sound_in : (asked : Bool) → fault_in asked l f ws ≡ 0 → Sound l f ws
  sound_in asked h = sound_of l f ws (sym (ap (λ (t : Bool). fault_in t l f ws) (fault_asked asked l f ws h)) ∙ h)

  -- where there is no fault the header's values have room, and each record's
  module _ (k : Lawful l) (s : Sound l f ws) where
    pub held_header : (n : ℕ) (h : Header) → n ≡ count_in l ws → f.rule ≤ top_rule l → header_list h ≡ header_values l f n → HeaderFits l h
    held_header n h e r p = subst (Held (header_slots l)) (sym p) (held (header_slots l) (header_values l f n) (header_roomy l k) (header_sound l f ws n s r e))

    pub held_each : (n i : ℕ) → n ≡ count_in l ws → i < n → Held (record_slots l any_frame) (filled (take (taken_words l) (drop (taken_words l * i) ws)))
    unfolding records_of
    held_each n i e h =
        let w = take (taken_words l) (drop (taken_words l * i) ws) in
        let r : Framed l f = record { width = omega (arith, s.width_low, s.width_high); height = omega (arith, s.height_low, s.height_high); layers = s.layers_high } in
        held_any l f any_frame (filled w) (right_held l f r (filled w) (pass_at (words_right l f) (taken_words l) (count_in l ws) i ws s.records (subst (λ (m : ℕ). i < m) e h)))

-- the header and the records, one after the other
module _ (l : Layout) (k : Lawful l) (f : Frame) (ws out : List ℕ) (room : write_size l ws ≤ length out) where
  two : pasted header_size (flat_map (words_bytes l) (parts (taken_words l) (count_in l ws) ws))
      (pasted 0 (bytes header_size (number (header_slots l) (header_values l f (count_in l ws)))) out)
      ≡ pasted 0 (written l f ws) out
  unfolding records_of
  two =
      let h = bytes header_size (number (header_slots l) (header_values l f (count_in l ws))) in
      let t = flat_map (words_bytes l) (parts (taken_words l) (count_in l ws) ws) in
      let lh : length h ≡ header_size = length_bytes header_size (number (header_slots l) (header_values l f (count_in l ws))) in
      let lt : length t ≡ record_size l * count_in l ws = length_all (words_bytes l) (record_size l) (length_record l k) (taken_words l) (count_in l ws) ws in
      let g : 0 + length (h ++ t) ≤ length out = rw length-append (omega arith) in
      sym (ap (λ (x : List ℕ). pasted 0 x out) (written_is l k f any_frame ws)
      ∙ pasted_append 0 h t out g
      ∙ ap (λ (m : ℕ). pasted m t (pasted 0 h out)) (zero-add (length h) ∙ lh))

  pub two_are : (n m : ℕ) (d e : List ℕ) → n ≡ count_in l ws → m ≡ number (header_slots l) (header_values l f n) →
      d ≡ pasted 0 (bytes header_size m) out → e ≡ pasted header_size (flat_map (words_bytes l) (parts (taken_words l) n ws)) d → e ≡ pasted 0 (written l f ws) out
  two_are n m d e c h p q =
      q
      ∙ ap (pasted header_size (flat_map (words_bytes l) (parts (taken_words l) n ws))) (p ∙ ap (λ (x : ℕ). pasted 0 (bytes header_size x) out) h)
      ∙ ap (λ (x : ℕ). pasted header_size (flat_map (words_bytes l) (parts (taken_words l) x ws)) (pasted 0 (bytes header_size (number (header_slots l) (header_values l f x))) out)) c
      ∙ two

-- what is asked of an edition by its number, of its value, and each refusal of that
module _ (edition : ℕ) (e : Edition) (h : layout_for e ≡ layout_of edition) (f : Frame) (ws : List ℕ) where
  fault_is : write_fault edition f ws ≡ fault_in (eqb e.number edition) (layout_for e) f ws
  unfolding known
  fault_is =
      ap (λ (n : ℕ). fault_in (eqb n edition) (layout_of edition) f ws) (sym (e.number_is ∙ ap (λ (l : Layout). l.edition) h))
      ∙ ap (λ (l : Layout). fault_in (eqb e.number edition) l f ws) (sym h)

  told_as : (n : ℕ) → fault_in (eqb e.number edition) (layout_for e) f ws ≡ n → Refused n ≡ Refused (write_fault edition f ws)
  told_as n p = ap Refused (sym (fault_is ∙ p))

  pub shape_told : sides_wrong (layout_for e) f ≡ true → Refused 1 ≡ Refused (write_fault edition f ws)
  shape_told a = told_as 1 (fault_sides (eqb e.number edition) (layout_for e) f ws a)

  module _ (a : sides_wrong (layout_for e) f ≡ false) where
    pub layers_told : layers_wrong f ≡ true → Refused 2 ≡ Refused (write_fault edition f ws)
    layers_told b = told_as 2 (fault_layers (eqb e.number edition) (layout_for e) f ws a (ap (λ (t : Bool). t || (eqb e.number edition && not (records_layered (layout_for e) f ws))) b))

    module _ (b : layers_wrong f ≡ false) where
      pub edition_told : (e.number ≡ edition → ⊥) → Refused 4 ≡ Refused (write_fault edition f ws)
      edition_told n = told_as 4 (ap (λ (t : Bool). fault_in t (layout_for e) f ws) (ne_eqb e.number edition n) ∙ fault_edition (layout_for e) f ws a b)

      module _ (n : e.number ≡ edition) where
        pub layered_told : records_layered (layout_for e) f ws ≡ false → Refused 2 ≡ Refused (write_fault edition f ws)
        layered_told r = told_as 2 (asked_layers (layout_for e) f ws (eqb e.number edition) (eq-eqb e.number edition n) a b r)

        module _ (r : records_layered (layout_for e) f ws ≡ true) where
          pub words_told : (t : Bool) → t ≡ all_pass (words_right (layout_for e) f) (records_of (layout_for e) ws) →
              (not (eqb (length ws % e.words) 0) || (ltb max_count (length ws / e.words) || not t)) ≡ true → Refused 5 ≡ Refused (write_fault edition f ws)
          words_told t p q =
              told_as 5 (asked_words (layout_for e) f ws (eqb e.number edition) (eq-eqb e.number edition n) a b r (words_is (layout_for e) f ws e.words t e.words_are p ∙ q))

          pub none_told : (t : Bool) → t ≡ all_pass (words_right (layout_for e) f) (records_of (layout_for e) ws) →
              (not (eqb (length ws % e.words) 0) || (ltb max_count (length ws / e.words) || not t)) ≡ false → write_fault edition f ws ≡ 0
          none_told t p q =
              fault_is ∙ asked_none (layout_for e) f ws (eqb e.number edition) (eq-eqb e.number edition n) a b r (words_is (layout_for e) f ws e.words t e.words_are p ∙ q)

  pub accepted_sound : write_fault edition f ws ≡ 0 → Sound (layout_for e) f ws
  accepted_sound p = sound_in (layout_for e) f ws (eqb e.number edition) (sym fault_is ∙ p)

-- a refusal that is told by its number has one
refusal_some : (r : Refusal) (k : ℕ) → refused r ≡ Refused k → k ≡ 0 → ⊥
refusal_some Shape k e z = let n : k ≡ 1 = cc in omega arith
refusal_some Layers k e z = let n : k ≡ 2 = cc in omega arith
refusal_some Length k e z = let n : k ≡ 3 = cc in omega arith
refusal_some Settings k e z = let n : k ≡ 4 = cc in omega arith
refusal_some Fields k e z = let n : k ≡ 5 = cc in omega arith
refusal_some Samples k e z = let n : k ≡ 6 = cc in omega arith
refusal_some (Room m) k e z = absurd (let x : ◌≡◌ {A = ℕ} 0 1 = cc in omega arith)
refusal_some Sheet k e z = let n : k ≡ 8 = cc in omega arith

err_told : (r : Result ℕ Refusal) (x : Refusal) → IsErrAnd r (λ y. y ≡ x) → told r ≡ refused x
err_told (Ok n) x h = absurd h
err_told (Err y) x h = ap refused h

-- what is answered and left: on a refusal, without room, and where all is written
module _ (edition : ℕ) (f : Frame) (ws out : List ℕ) where
  landed_is : (a : Answer) (new : List ℕ) → a ≡ write_answer edition f ws (length out) → new ≡ landed a (written (layout_of edition) f ws) out → new ≡ write_out edition f ws out
  unfolding write_out
  landed_is a new p q = q ∙ ap (λ (x : Answer). landed x (written (layout_of edition) f ws) out) p

  pub refusal_told : (r : Result ℕ Refusal) (x : Refusal) → IsErrAnd r (λ y. y ≡ x) → refused x ≡ Refused (write_fault edition f ws) →
      (told r ≡ write_answer edition f ws (length out)) × (out ≡ write_out edition f ws out)
  unfolding write_answer
  refusal_told r x h e =
      let k = write_fault edition f ws in
      let a : Refused k ≡ write_answer edition f ws (length out) = sym (answer_refused k _ _ (length out) (refusal_some x k e)) in
      (err_told r x h ∙ e ∙ a, landed_is (Refused k) out a refl)

  module _ (e : Edition) (h : layout_for e ≡ layout_of edition) (fine : write_fault edition f ws ≡ 0) where
    size_is_lem : header_size + e.bytes * (length ws / e.words) ≡ write_size (layout_of edition) ws
    size_is_lem = sheet_size_lem e ws ∙ ap (λ (l : Layout). write_size l ws) h

    pub short_told : length out < header_size + e.bytes * (length ws / e.words) →
        (Short (header_size + e.bytes * (length ws / e.words)) ≡ write_answer edition f ws (length out)) × (out ≡ write_out edition f ws out)
    unfolding write_answer
    short_told less =
        let n = header_size + e.bytes * (length ws / e.words) in
        let a : Short n ≡ write_answer edition f ws (length out) =
        ap Short size_is_lem ∙ sym (answer_short _ _ _ _ fine (subst (λ (m : ℕ). length out < m) size_is_lem less)) in
        (a, landed_is (Short n) out a refl)

    pub done_told : header_size + e.bytes * (length ws / e.words) ≤ length out → (new : List ℕ) → new ≡ pasted 0 (written (layout_for e) f ws) out →
        (Done (header_size + e.bytes * (length ws / e.words)) ≡ write_answer edition f ws (length out)) × (new ≡ write_out edition f ws out)
    unfolding write_answer
    done_told room new p =
        let n = header_size + e.bytes * (length ws / e.words) in
        let a : Done n ≡ write_answer edition f ws (length out) =
        ap Done size_is_lem ∙ sym (answer_done _ _ _ _ fine (subst (λ (m : ℕ). m ≤ length out) size_is_lem room)) in
        (a, landed_is (Done n) new a (p ∙ ap (λ (l : Layout). pasted 0 (written l f ws) out) h))
