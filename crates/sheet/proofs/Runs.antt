-- A record in three runs, its whole numbers, its floats and its 128 values: its bytes, its fields and its words. For every layout with an angle. Assumes nothing.
use mathlib.Core.Path.{◌≡◌, refl, sym, ap, ◌∙◌, subst}
use mathlib.Core.Bool.{Bool, true, false, ◌&&◌, ◌||◌, cond, and_assoc, and-true}
use mathlib.Core.List.{List, [], ◌∷◌, ◌++◌, append_assoc, flat_map}
use Prim.Native.Nat.{ℕ, zero, suc, ◌+◌, ◌-◌, ◌*◌, ◌/◌, ◌%◌, ◌^◌, ◌≤◌, ◌<◌}
use native.Mathlib.Nat.{add_assoc, not-suc-le-zero, le_of_suc-le-suc, suc_inj}
use native.Mathlib.Omega.{arith}
use borrow.Author.Tests.{le-leb}
use lib.Dec.{leb, eqb}
use lib.ListN.{length, get_or, take, drop, replicate, length-append, length-take, length-drop, length-replicate, take-append-drop, get_or-append}
use lib.Seq.{drop-drop, take-take, take-add, drop_at, take-append-le}
use Rattle.lists.specs.Pasted.{pasted}
use Rattle.lists.proofs.Pasted.{length_pasted, pasted_append}
use Rattle.params.specs.Limits.{value_count}
use Rattle.sheet.specs.Pack.{Slot, slot, bits, number, bytes, pack, value, fields, unpack, sound, Held, Bytes}
use Rattle.sheet.specs.Pack.Held.{none, one}
use Rattle.sheet.specs.Layout.{Layout, Frame, record_size, head_size, front_size, largest_finite, least_positive, largest_angle, head_slots, float_slots, value_slots, record_slots}
use Rattle.sheet.specs.Sheet.{record_right}
use Rattle.sheet.specs.Words.{plain_words, head_words, float_words, front_words, head_fields, front_fields, filled, unknown_of, all_zero, worded}
use Rattle.sheet.proofs.Packed.{bits_append, Each, each_bits, pack_append, pack_each, pack_bytes}
use Rattle.sheet.proofs.Cut.{bytes_take, bytes_drop, both_bytes, one_value, unpack_append, unpack_step}
use Rattle.sheet.specs.Trip.{Lawful}
use Rattle.sheet.proofs.Lawful.{head_bits}
use Rattle.sheet.proofs.Words.{drop_take, past}

held_left : (ss ts : List Slot) (vs us : List ℕ) → length ss ≡ length vs → Held (ss ++ ts) (vs ++ us) → Held ss vs
held_left [] ts [] us e h = none
held_left [] ts (v ∷ vs) us e h = absurd (omega arith)
held_left (s ∷ ss) ts [] us e h = absurd (omega arith)
held_left (s ∷ ss) ts (v ∷ vs) us e (one h t) = one h (held_left ss ts vs us (suc_inj e) t)

held_right : (ss ts : List Slot) (vs us : List ℕ) → length ss ≡ length vs → Held (ss ++ ts) (vs ++ us) → Held ts us
held_right [] ts [] us e h = h
held_right [] ts (v ∷ vs) us e h = absurd (omega arith)
held_right (s ∷ ss) ts [] us e h = absurd (omega arith)
held_right (s ∷ ss) ts (v ∷ vs) us e (one h t) = held_right ss ts vs us (suc_inj e) t

pub held_at : {ss : List Slot} {vs : List ℕ} (w : ℕ) → Each w ss → Held ss vs → (i : ℕ) → i < length vs → get_or vs i 0 < 2 ^ w
held_at w e none i h = absurd (not-suc-le-zero h)
held_at w e (one {v = v} g t) zero h = subst (λ (n : ℕ). v < 2 ^ n) e.0 g
held_at w e (one g t) (suc i) h = held_at w e.1 t i (le_of_suc-le-suc h)

pub sound_append : (ss ts : List Slot) (vs us : List ℕ) → length ss ≡ length vs → sound (ss ++ ts) (vs ++ us) ≡ (sound ss vs && sound ts us)
unfolding sound
sound_append [] ts [] us e = refl
sound_append [] ts (v ∷ vs) us e = absurd (omega arith)
sound_append (s ∷ ss) ts [] us e = absurd (omega arith)
sound_append (s ∷ ss) ts (v ∷ vs) us e =
    ap (λ (b : Bool). (leb s.low v && leb v s.high) && b) (sound_append ss ts vs us (suc_inj e))
    ∙ sym (and_assoc (leb s.low v && leb v s.high) (sound ss vs) (sound ts us))

each_replicate : (n w : ℕ) (s : Slot) → s.width ≡ w → Each w (replicate n s)
each_replicate zero w s e = tt
each_replicate (suc n) w s e = (e, each_replicate n w s e)

-- three writes, one after the other, are one
pub triple : (at : ℕ) (a b v d : List ℕ) (j k : ℕ) → length a ≡ j → length b ≡ k → at + (j + (k + length v)) ≤ length d →
    pasted at (a ++ (b ++ v)) d ≡ pasted (at + (j + k)) v (pasted (at + j) b (pasted at a d))
triple at a b v d j k la lb room =
    let r : at + length (a ++ (b ++ v)) ≤ length d = rw (length-append, length-append) (omega arith) in
    let l : length (pasted at a d) ≡ length d = length_pasted at a d (omega arith) in
    let q : at + j + length (b ++ v) ≤ length (pasted at a d) = rw (length-append) (omega arith) in
    pasted_append at a (b ++ v) d r
    ∙ ap (λ (n : ℕ). pasted (at + n) (b ++ v) (pasted at a d)) la
    ∙ pasted_append (at + j) b v (pasted at a d) q
    ∙ rw (lb, add_assoc)

value_bits : bits value_slots ≡ 8 * value_count
unfolding bits
value_bits = refl

float_bits : (a : Bool) → a ≡ true → cond a 32 0 ≡ 8 * 4
float_bits true e = refl
float_bits false e = absurd (let z : ◌≡◌ {A = ℕ} 0 1 = cc in omega arith)

size_is : (a : Bool) → a ≡ true → ◌≡◌ {A = ℕ} (cond a 154 150) 154
size_is true e = refl
size_is false e = absurd (let z : ◌≡◌ {A = ℕ} 0 1 = cc in omega arith)

values_each : Each 8 value_slots
values_each = each_replicate value_count 8 (slot 8 0 255) refl

unpack_none : (bs : List ℕ) → unpack [] bs ≡ []
unfolding unpack fields
unpack_none bs = refl

-- bytes are their own fields, and in their range
unpack_bytes : (n lo hi : ℕ) (bs : List ℕ) → length bs ≡ n → Bytes bs → unpack (replicate n (slot 8 lo hi)) bs ≡ bs
unpack_bytes zero lo hi [] l g = unpack_none []
unpack_bytes zero lo hi (b ∷ bs) l g = absurd (omega arith)
unpack_bytes (suc n) lo hi [] l g = absurd (omega arith)
unpack_bytes (suc n) lo hi (b ∷ bs) l g =
    let e : bits (replicate n (slot 8 lo hi)) ≡ 8 * n =
    each_bits 1 (replicate n (slot 8 lo hi)) (each_replicate n 8 (slot 8 lo hi) refl) ∙ rw (length-replicate) (omega arith) in
    unpack_step (slot 8 lo hi) (replicate n (slot 8 lo hi)) (b ∷ bs) 1 n refl e (omega arith) g
    ∙ rw (one_value b, unpack_bytes n lo hi bs (suc_inj l) (λ i. g (suc i)))

sound_bytes : (n : ℕ) (bs : List ℕ) → length bs ≡ n → Bytes bs → sound (replicate n (slot 8 0 255)) bs ≡ true
unfolding sound
sound_bytes zero [] l g = refl
sound_bytes zero (b ∷ bs) l g = absurd (omega arith)
sound_bytes (suc n) [] l g = absurd (omega arith)
sound_bytes (suc n) (b ∷ bs) l g =
    rw (le-leb 0 b (omega arith), le-leb b 255 (omega (arith, g 0)), sound_bytes n bs (suc_inj l) (λ i. g (suc i)))

-- the field of four bytes at `at`, and the rest, at `to`
four_bytes : (s : Slot) (ss : List Slot) (m at to : ℕ) (bs : List ℕ) → s.width ≡ 8 * 4 → bits ss ≡ 8 * m → at + (4 + m) ≤ length bs → Bytes bs → at + 4 ≡ to →
    unpack (s ∷ ss) (take (4 + m) (drop at bs)) ≡ value (take 4 (drop at bs)) ∷ unpack ss (take m (drop to bs))
four_bytes s ss m at to bs w b h g e =
    let l : length (take (4 + m) (drop at bs)) ≡ 4 + m = rw (length-take, length-drop) (omega arith) in
    unpack_step s ss (take (4 + m) (drop at bs)) 4 m w b l (bytes_take (4 + m) (drop at bs) (bytes_drop at bs g))
    ∙ rw (take-take 4 (4 + m) (drop at bs) (omega arith), drop_take 4 m (drop at bs), drop-drop, e)

-- the runs of a record's words, as the values of its slots
pub filled_runs : (w : List ℕ) → plain_words ≤ length w →
    filled w ≡ (take head_words w ++ (get_or w plain_words 0 ∷ 0 ∷ [])) ++ (take float_words (drop head_words w) ++ take value_count (drop front_words w))
unfolding filled
filled_runs w h =
    ap (λ (t : List ℕ). take head_words w ++ (get_or w plain_words 0 ∷ 0 ∷ t)) (take-add float_words value_count (drop head_words w) ∙ ap (λ (t : List ℕ). take float_words (drop head_words w) ++ take value_count t) (drop-drop float_words head_words w))
    ∙ sym (append_assoc (take head_words w) (get_or w plain_words 0 ∷ 0 ∷ []) (take float_words (drop head_words w) ++ take value_count (drop front_words w)))

length_fields : (ss : List Slot) (n : ℕ) → length (fields ss n) ≡ length ss
unfolding fields
length_fields [] n = refl
length_fields (s ∷ ss) n = ap suc (length_fields ss (n % 2 ^ bits ss))

pub length_unpack : (ss : List Slot) (bs : List ℕ) → length (unpack ss bs) ≡ length ss
unfolding unpack
length_unpack ss bs = length_fields ss (value bs)

-- the runs of a record's slots, as its words
worded_runs : (l : Layout) (hv fv vv : List ℕ) → length hv ≡ head_fields → length fv ≡ float_words →
    worded l (hv ++ (fv ++ vv)) ≡ take head_words hv ++ (fv ++ (vv ++ (cond l.marked (get_or hv head_words 0) (unknown_of vv) ∷ [])))
unfolding worded
worded_runs l hv fv vv lh lf =
    let p : take head_words (hv ++ (fv ++ vv)) ≡ take head_words hv = take-append-le head_words hv (fv ++ vv) (omega arith) in
    let q : drop head_fields (hv ++ (fv ++ vv)) ≡ fv ++ vv = drop_at hv (fv ++ vv) head_fields lh in
    let r : drop front_fields (hv ++ (fv ++ vv)) ≡ vv = past hv (fv ++ vv) head_fields float_words lh ∙ drop_at fv vv float_words lf in
    let b : get_or (hv ++ (fv ++ vv)) head_words 0 ≡ get_or hv head_words 0 = get_or-append hv (fv ++ vv) 0 head_words (omega arith) in
    rw (p, q, r, b, append_assoc)

module _ (l : Layout) (k : Lawful l) (a : l.angled ≡ true) (f : Frame) where
  -- the bytes of a record
  pub sized : record_size l ≡ 154
  sized = size_is l.angled a

  floats_bits : bits (float_slots l) ≡ 8 * (front_size l - head_size)
  unfolding bits
  floats_bits =
      let e = float_bits l.angled a in
      omega (arith, sized)

  tail_bits : bits (float_slots l ++ value_slots) ≡ 8 * (front_size l - head_size + value_count)
  tail_bits = bits_append (float_slots l) value_slots ∙ rw (floats_bits, value_bits) (omega (arith, sized))

  floats_each : Each (8 * 4) (float_slots l)
  floats_each = (refl, (refl, (refl, (refl, (float_bits l.angled a, tt)))))

  -- the bytes of a record, from its runs
  module _ (hv fv vv : List ℕ) (lh : length hv ≡ head_fields) (lf : length fv ≡ float_words) (h : Held (record_slots l f) (hv ++ (fv ++ vv))) where
    pub held_head_run : Held (head_slots l f) hv
    unfolding record_slots
    held_head_run = held_left (head_slots l f) (float_slots l ++ value_slots) hv (fv ++ vv) (sym lh) h

    held_tail_run : Held (float_slots l ++ value_slots) (fv ++ vv)
    unfolding record_slots
    held_tail_run = held_right (head_slots l f) (float_slots l ++ value_slots) hv (fv ++ vv) (sym lh) h

    held_floats : Held (float_slots l) fv
    held_floats = held_left (float_slots l) value_slots fv vv (sym lf) held_tail_run

    pub held_values : Held value_slots vv
    held_values = held_right (float_slots l) value_slots fv vv (sym lf) held_tail_run

    pub value_lt : (i : ℕ) → i < length vv → get_or vv i 0 < 256
    value_lt i r = held_at 8 values_each held_values i r

    head_run : pack (head_slots l f) hv ≡ bytes head_size (number (head_slots l f) hv)
    unfolding pack
    head_run = ap (λ (n : ℕ). bytes (n / 8) (number (head_slots l f) hv)) (head_bits l f k)

    tail_run : pack (float_slots l ++ value_slots) (fv ++ vv) ≡ flat_map (bytes 4) fv ++ vv
    tail_run =
        pack_append (front_size l - head_size) value_count floats_bits value_bits held_floats held_values
        ∙ rw (pack_each 4 floats_each held_floats, pack_each 1 values_each held_values, pack_bytes values_each held_values)

    pub pack_runs : pack (record_slots l f) (hv ++ (fv ++ vv)) ≡ bytes head_size (number (head_slots l f) hv) ++ (flat_map (bytes 4) fv ++ vv)
    unfolding record_slots
    pack_runs = pack_append head_size (front_size l - head_size + value_count) (head_bits l f k) tail_bits held_head_run held_tail_run ∙ rw (head_run, tail_run)

  -- whether a record's values are right, from its runs
  pub right_runs : (hv fv vv : List ℕ) → length hv ≡ head_fields → length fv ≡ float_words →
      record_right l f (hv ++ (fv ++ vv))
      ≡ ((sound (head_slots l f) hv && (sound (float_slots l) fv && sound value_slots vv)) && (eqb (get_or hv head_words 0) 0 || all_zero vv))
  unfolding record_right record_slots
  right_runs hv fv vv lh lf =
      let r : drop front_fields (hv ++ (fv ++ vv)) ≡ vv = past hv (fv ++ vv) head_fields float_words lh ∙ drop_at fv vv float_words lf in
      let b : get_or (hv ++ (fv ++ vv)) head_words 0 ≡ get_or hv head_words 0 = get_or-append hv (fv ++ vv) 0 head_words (omega arith) in
      ap (λ (c : Bool). c && (eqb (get_or (hv ++ (fv ++ vv)) head_words 0) 0 || all_zero (drop front_fields (hv ++ (fv ++ vv)))))
      (sound_append (head_slots l f) (float_slots l ++ value_slots) hv (fv ++ vv) (sym lh)
      ∙ ap (λ (c : Bool). sound (head_slots l f) hv && c) (sound_append (float_slots l) value_slots fv vv (sym lf)))
      ∙ rw (r, b)

  -- the fields of a record's bytes, in runs
  module _ (bs : List ℕ) (n : length bs ≡ front_size l + value_count) (g : Bytes bs) where
    front : front_size l ≡ head_size + (front_size l - head_size)
    front = omega (arith, sized)

    whole : bs ≡ take head_size bs ++ (take (front_size l - head_size) (drop head_size bs) ++ drop (front_size l) bs)
    whole = sym (ap (λ (t : List ℕ). take head_size bs ++ t) (ap (λ (t : List ℕ). take (front_size l - head_size) (drop head_size bs) ++ t)
        (ap (λ (m : ℕ). drop m bs) front ∙ sym (drop-drop (front_size l - head_size) head_size bs))
        ∙ take-append-drop (front_size l - head_size) (drop head_size bs))
        ∙ take-append-drop head_size bs)

    pub fields_runs : unpack (record_slots l f) bs
        ≡ unpack (head_slots l f) (take head_size bs) ++ (unpack (float_slots l) (take (front_size l - head_size) (drop head_size bs)) ++ drop (front_size l) bs)
    unfolding record_slots
    fields_runs =
        let x = take head_size bs in
        let y = take (front_size l - head_size) (drop head_size bs) in
        let z = drop (front_size l) bs in
        let lx : length (take head_size bs) ≡ head_size = rw length-take (omega arith) in
        let ly : length (take (front_size l - head_size) (drop head_size bs)) ≡ front_size l - head_size = rw (length-take, length-drop) (omega arith) in
        let lz : length (drop (front_size l) bs) ≡ value_count = rw length-drop (omega arith) in
        let gx = bytes_take head_size bs g in
        let gy = bytes_take (front_size l - head_size) (drop head_size bs) (bytes_drop head_size bs g) in
        let gz = bytes_drop (front_size l) bs g in
        let lt : length (y ++ z) ≡ front_size l - head_size + value_count = length-append y z ∙ rw (ly, lz) in
        ap (unpack (head_slots l f ++ (float_slots l ++ value_slots))) whole
        ∙ unpack_append (head_slots l f) (float_slots l ++ value_slots) x (y ++ z) (head_bits l f k ∙ ap (λ (m : ℕ). 8 * m) (sym lx)) (tail_bits ∙ ap (λ (m : ℕ). 8 * m) (sym lt)) gx (both_bytes y z gy gz)
        ∙ ap (λ (t : List ℕ). unpack (head_slots l f) x ++ t)
        (unpack_append (float_slots l) value_slots y z (floats_bits ∙ ap (λ (m : ℕ). 8 * m) (sym ly)) (value_bits ∙ ap (λ (m : ℕ). 8 * m) (sym lz)) gy gz
        ∙ ap (λ (t : List ℕ). unpack (float_slots l) y ++ t) (unpack_bytes value_count 0 255 z lz gz))

    -- whether they are right: a byte always lies in its range
    pub bytes_runs : record_right l f (unpack (record_slots l f) bs)
        ≡ ((sound (head_slots l f) (unpack (head_slots l f) (take head_size bs)) && sound (float_slots l) (unpack (float_slots l) (take (front_size l - head_size) (drop head_size bs))))
        && (eqb (get_or (unpack (head_slots l f) (take head_size bs)) head_words 0) 0 || all_zero (drop (front_size l) bs)))
    bytes_runs =
        let hv = unpack (head_slots l f) (take head_size bs) in
        let fv = unpack (float_slots l) (take (front_size l - head_size) (drop head_size bs)) in
        let vv = drop (front_size l) bs in
        ap (record_right l f) fields_runs
        ∙ right_runs hv fv vv (length_unpack (head_slots l f) (take head_size bs)) (length_unpack (float_slots l) (take (front_size l - head_size) (drop head_size bs)))
        ∙ ap (λ (b : Bool). (sound (head_slots l f) hv && (sound (float_slots l) fv && b)) && (eqb (get_or hv head_words 0) 0 || all_zero vv))
        (sound_bytes value_count vv (rw length-drop (omega (arith, sized))) (bytes_drop (front_size l) bs g))
        ∙ ap (λ (b : Bool). (sound (head_slots l f) hv && b) && (eqb (get_or hv head_words 0) 0 || all_zero vv)) (and-true (sound (float_slots l) fv))

    -- a record's words, from its bytes
    pub words_runs : worded l (unpack (record_slots l f) bs)
        ≡ take head_words (unpack (head_slots l f) (take head_size bs))
        ++ (unpack (float_slots l) (take (front_size l - head_size) (drop head_size bs))
        ++ (drop (front_size l) bs ++ (cond l.marked (get_or (unpack (head_slots l f) (take head_size bs)) head_words 0) (unknown_of (drop (front_size l) bs)) ∷ [])))
    words_runs =
        ap (worded l) fields_runs
        ∙ worded_runs l (unpack (head_slots l f) (take head_size bs)) (unpack (float_slots l) (take (front_size l - head_size) (drop head_size bs))) (drop (front_size l) bs)
        (length_unpack (head_slots l f) (take head_size bs)) (length_unpack (float_slots l) (take (front_size l - head_size) (drop head_size bs)))

  rest_bits : bits (slot (cond l.angled 32 0) 0 (cond l.angled largest_angle 0) ∷ []) ≡ 8 * 4
  unfolding bits
  rest_bits = let e = float_bits l.angled a in omega arith

  rest_bits_2 : bits (slot 32 0 largest_finite ∷ slot (cond l.angled 32 0) 0 (cond l.angled largest_angle 0) ∷ []) ≡ 8 * 8
  unfolding bits
  rest_bits_2 = let e = float_bits l.angled a in omega arith

  rest_bits_3 : bits (slot 32 least_positive largest_finite ∷ slot 32 0 largest_finite ∷ slot (cond l.angled 32 0) 0 (cond l.angled largest_angle 0) ∷ []) ≡ 8 * 12
  unfolding bits
  rest_bits_3 = let e = float_bits l.angled a in omega arith

  rest_bits_4 : bits (slot 32 0 largest_finite ∷ slot 32 least_positive largest_finite ∷ slot 32 0 largest_finite ∷ slot (cond l.angled 32 0) 0 (cond l.angled largest_angle 0) ∷ []) ≡ 8 * 16
  unfolding bits
  rest_bits_4 = let e = float_bits l.angled a in omega arith

  -- the five floats at `at`
  pub floats_at : (at : ℕ) (bs : List ℕ) → at + 20 ≤ length bs → Bytes bs →
      unpack (float_slots l) (take (front_size l - head_size) (drop at bs))
      ≡ value (take 4 (drop at bs)) ∷ value (take 4 (drop (at + 4) bs)) ∷ value (take 4 (drop (at + 8) bs)) ∷ value (take 4 (drop (at + 12) bs)) ∷ value (take 4 (drop (at + 16) bs)) ∷ []
  unfolding bits
  floats_at at bs r g =
      let m : front_size l - head_size ≡ 20 = omega (arith, sized) in
      ap (λ (k : ℕ). unpack (float_slots l) (take k (drop at bs))) m
      ∙ four_bytes _ _ 16 at (at + 4) bs refl rest_bits_4 (omega arith) g refl
      ∙ ap (λ (t : List ℕ). value (take 4 (drop at bs)) ∷ t) (four_bytes _ _ 12 (at + 4) (at + 8) bs refl rest_bits_3 (omega arith) g (omega arith)
      ∙ ap (λ (t : List ℕ). value (take 4 (drop (at + 4) bs)) ∷ t) (four_bytes _ _ 8 (at + 8) (at + 12) bs refl rest_bits_2 (omega arith) g (omega arith)
      ∙ ap (λ (t : List ℕ). value (take 4 (drop (at + 8) bs)) ∷ t) (four_bytes _ _ 4 (at + 12) (at + 16) bs refl rest_bits (omega arith) g (omega arith)
      ∙ ap (λ (t : List ℕ). value (take 4 (drop (at + 12) bs)) ∷ t) (four_bytes _ [] 0 (at + 16) (at + 20) bs (float_bits l.angled a) refl (omega arith) g (omega arith)
      ∙ ap (λ (t : List ℕ). value (take 4 (drop (at + 16) bs)) ∷ t) (unpack_none (take 0 (drop (at + 20) bs)))))))
