-- The record of a sound keypoint, of an angle and of what the descriptor gave keeps the sheet's rules, and the maker accepts it. Assumes nothing.
use Prim.Native.Nat.{ℕ, zero, suc, ◌+◌, ◌-◌, ◌/◌, ◌^◌, ◌<◌, ◌≤◌}
use native.Mathlib.Nat.{le_trans, lt_of_lt_of_le, le_of_eq, zero-lt-suc}
use native.Mathlib.Omega.{arith}
use mathlib.Core.Path.{◌≡◌, refl, sym, ap, ◌∙◌, subst}
use mathlib.Core.Bool.{Bool, true, false, ◌&&◌, ◌||◌, cond, false≢true}
use mathlib.Core.List.{List, [], ◌∷◌, ◌++◌, map}
use borrow.Author.Tests.{eqb-true, eq-eqb}
use lib.Dec.{T, leb, eqb, le→leb, lit<, lit≤}
use lib.ListN.{length, get_or, take, replicate, length-append, length-map}
use lib.Seq.{take_all, get_or-take}
use lib.Ieee.{Float, nan, inf, fin, is_nan, binary32, fits, to_unsigned, lt, eq, of_int, of_bits, to_bits}
use lib.Ieee.Scale.{finite}
use lib.Ieee.Bits.{is_true}
use Rattle.ieee.specs.F32.{bits_of, abs_of}
use Rattle.ieee.specs.Numbers.{nought}
use Rattle.ieee_laws.proofs.Monotone.{nil}
use Rattle.ieee_laws.proofs.Bounds.{zero_is}
use Rattle.params.specs.Limits.{border, max_side, max_layers, max_octave, value_count}
use Rattle.params.specs.Table.{first_fault}
use Rattle.params.specs.declared.Settings.{Settings}
use Rattle.detect_keypoint.specs.Sound.{Sound, Number}
use Rattle.detect_keypoint.specs.declared.RawKeypoint.{RawKeypoint}
use Rattle.orient_words.specs.Oriented.{oriented_of}
use Rattle.orient_words.specs.declared.OrientedKeypoint.{OrientedKeypoint}
use Rattle.orient_laws.specs.Rules.{Turn}
use Rattle.descriptor_inputs.proofs.Checks.{finite_number}
use Rattle.descriptor_laws.specs.ValuesRules.{Byte}
use Rattle.picture.specs.declared.Size.{Size}
use Rattle.descriptor_run.specs.Cells.{samples_of}
use Rattle.descriptor_grid.specs.Grid.{gathered}
use Rattle.descriptor_laws.proofs.ValuesRules.{value_rule}
use Rattle.descriptor_words.specs.Words.{turn_at, values_at}
use Rattle.picture.specs.declared.Spot.{Spot}
use Rattle.descriptor.specs.Entry.{fault_of}
use Rattle.descriptor.proofs.Nothing.{none_zeros}
use Rattle.descriptor.proofs.Rules.{descriptor_rule}
use Rattle.record.specs.Record.{head_of, floats_of, byte_of, blank_of, record_of}
use Rattle.record.specs.Make.{alike, widest, record_wrong, make_fault, make_number}
use Rattle.record.proofs.Bytes.{each}
use Rattle.sheet.specs.Pack.{Slot, slot, sound}
use Rattle.sheet.specs.Layout.{Layout, Frame, edition2, layout_of, mark_bits, value_slots, head_slots, float_slots, largest_finite, least_positive, largest_angle}
use Rattle.sheet.specs.Sheet.{record_right}
use Rattle.sheet.specs.Trip.{Lawful}
use Rattle.sheet.specs.Words.{plain_words, read_words, head_words, layer_place, taken_words, filled, all_zero}
use Rattle.sheet.specs.Writes.{words_right, layer_right}
use Rattle.sheet.proofs.Lawful.{lawful_edition}
use Rattle.sheet.proofs.Return.{taken_plain}
use Rattle.sheet.proofs.Runs.{right_runs}
use Rattle.sheet.proofs.Words.{fill_back}
use Rattle.sheet_floats.proofs.Patterns.{finite_bits, bits_above}
use Rattle.road.specs.Blank.{Makeable}

-- ---- a slot at a time

in_range : (lo hi v : ℕ) → lo ≤ v → v ≤ hi → (leb lo v && leb v hi) ≡ true
in_range lo hi v a b = rw (is_true (leb lo v) (le→leb lo v a), is_true (leb v hi) (le→leb v hi b))

one_more : (s : Slot) (ss : List Slot) (v : ℕ) (vs : List ℕ) → s.low ≤ v → v ≤ s.high → sound ss vs ≡ true → sound (s ∷ ss) (v ∷ vs) ≡ true
unfolding sound
one_more s ss v vs a b h = rw (in_range s.low s.high v a b, h)

no_more : sound [] [] ≡ true
unfolding sound
no_more = refl

inside : (at side most : ℕ) → at < side - border → side ≤ most → at ≤ most - 1
inside at side most a b = omega (arith, a, b)

third : (n : ℕ) → n < 2 ^ 8 → n ≤ 255
third n a = omega (arith, a)

-- ---- the 128 values

-- a descriptor's values: 128 whole numbers from 0 to 255, all 0 where no sample was used
pub record Filled (values : List Float) (samples : ℕ) : Type 0 where
  pub all : length values ≡ value_count
  pub each : (i : ℕ) → i < value_count → Byte (get_or values i nan)
  pub none : samples ≡ 0 → values ≡ replicate value_count nought

-- what the descriptor gives for a picture and a spot that it accepts is such
pub filled_at : (img : List Float) (s : Size) (p : Spot) → fault_of img s p ≡ 0 → Filled (values_at img s p) (length (samples_of img (turn_at s p)))
unfolding values_at
filled_at img s p fine = record {
  all = value_rule.count (gathered p.angle (samples_of img (turn_at s p)));
  each = descriptor_rule.whole img s p fine;
  none = none_zeros img s p;
}

-- as the bytes of a record
abbrev bytes_of : List Float → List ℕ
bytes_of values = map byte_of (map bits_of values)

bytes_length : (values : List Float) → length (bytes_of values) ≡ length values
bytes_length values = length-map (map bits_of values) byte_of ∙ length-map values bits_of

-- a whole number from 0 to 255 is taken as itself
byte_small : (v : Float) → Byte v → byte_of (bits_of v) ≤ 255
byte_small v b = subst (λ (n : ℕ). n ≤ 255) (sym (ap (λ (x : Float). byte_of (bits_of x)) b.is ∙ each b.number b.small)) b.small

each_right : (n : ℕ) (vs : List Float) → length vs ≡ n → ((i : ℕ) → i < n → Byte (get_or vs i nan)) → sound (replicate n (slot 8 0 255)) (bytes_of vs) ≡ true
each_right zero [] e h = no_more
each_right (suc n) (v ∷ vs) e h =
    one_more (slot 8 0 255) (replicate n (slot 8 0 255)) (byte_of (bits_of v)) (bytes_of vs) (omega arith) (byte_small v (h 0 (zero-lt-suc n)))
    (each_right n vs (omega (arith, e)) (λ i l. h (suc i) (omega (arith, l))))
each_right zero (v ∷ vs) e h = absurd (omega (arith, e))
each_right (suc n) [] e h = absurd (omega (arith, e))

nought_byte : byte_of (bits_of nought) ≡ 0
unfolding byte_of of_bits to_bits of_int to_unsigned eq
nought_byte = refl

zeros_bytes : (n : ℕ) → all_zero (bytes_of (replicate n nought)) ≡ true
unfolding all_zero
zeros_bytes zero = refl
zeros_bytes (suc n) = rw (nought_byte, zeros_bytes n)

-- ---- the blank word: it has room where the layout has a bit for it, and stands only over zeros

pub blank_small : (samples : ℕ) → blank_of samples ≤ 1
blank_small samples = either (eqb samples 0)
  where
    either : (b : Bool) → cond b 1 0 ≤ 1
    either true = lit≤ tt
    either false = lit≤ tt

blank_fits : (m : Bool) (samples : ℕ) → cond m (blank_of samples) 0 ≤ cond m 1 0
blank_fits true samples = blank_small samples
blank_fits false samples = lit≤ tt

blank_same : (m : Bool) (b : ℕ) → cond m (cond m b 0) b ≡ b
blank_same true b = refl
blank_same false b = refl

blank_right_lem : (m : Bool) (samples : ℕ) (vs : List ℕ) → (samples ≡ 0 → all_zero vs ≡ true) → (eqb (cond m (blank_of samples) 0) 0 || all_zero vs) ≡ true
blank_right_lem false samples vs h = refl
blank_right_lem true samples vs h = go (eqb samples 0) refl
  where
    go : (b : Bool) → eqb samples 0 ≡ b → (eqb (cond b 1 0) 0 || all_zero vs) ≡ true
    go false e = refl
    go true e = h (eqb-true samples 0 e)

-- ---- the floats

above_plain : (x : Float) → lt nil x ≡ true → abs_of x ≡ x
unfolding abs_of lt
above_plain nan l = refl
above_plain (inf false) l = refl
above_plain (inf true) l = absurd (false≢true l)
above_plain (fin false m e) l = refl
above_plain (fin true m e) l = absurd (false≢true l)

above_right : (x : Float) → T (fits binary32 x) → finite x ≡ true → lt nil x ≡ true → (least_positive ≤ bits_of x) × (bits_of x ≤ largest_finite)
above_right x f n l = (bits_above x f n (above_plain x l) l, finite_bits x f n (above_plain x l))

pub above : (x : Float) → lt nought x ≡ true → lt nil x ≡ true
above x l = subst (λ (z : Float). lt z x ≡ true) (zero_is binary32) l

positive_right : (x : Float) → Number x → lt nought x ≡ true → (least_positive ≤ bits_of x) × (bits_of x ≤ largest_finite)
positive_right x n l = above_right x n.held n.ends (above x l)

angle_right : (b : Bool) (n : ℕ) → b ≡ true → n ≤ largest_angle → n ≤ cond b largest_angle 0
angle_right true n e h = h
angle_right false n e h = absurd (false≢true e)

-- ---- the record of any two keypoints and of what the descriptor gave

module _ (k : RawKeypoint) (o : OrientedKeypoint) {values : List Float} {samples : ℕ} (full : Filled values samples) where
  abbrev words : List ℕ
  words = record_of k o (map bits_of values) samples

  abbrev tail : List ℕ
  tail = floats_of o ++ bytes_of values

  tail_length : length tail ≡ plain_words - head_words
  tail_length = length-append (floats_of o) (bytes_of values) ∙ ap (λ (n : ℕ). 5 + n) (bytes_length values ∙ full.all)

  pub record_long : length words ≡ read_words
  unfolding record_of
  record_long = length-append (head_of k) (tail ++ (blank_of samples ∷ [])) ∙ ap (λ (n : ℕ). 5 + n) (length-append tail (blank_of samples ∷ []) ∙ ap (λ (n : ℕ). n + 1) tail_length)

  -- its values, and its blank bit where the layout has one, keep the rules whatever was read: so it does where its head and its floats do
  module _ (l : Layout) (f : Frame) where
    abbrev blank : ℕ
    blank = cond l.marked (blank_of samples) 0

    abbrev head : List ℕ
    head = head_of k ++ (blank ∷ 0 ∷ [])

    values_right : sound value_slots (bytes_of values) ≡ true
    values_right = each_right value_count values full.all full.each

    blank_over : (eqb blank 0 || all_zero (bytes_of values)) ≡ true
    blank_over = blank_right_lem l.marked samples (bytes_of values) (λ z. ap (λ (vs : List Float). all_zero (bytes_of vs)) (full.none z) ∙ zeros_bytes value_count)

    runs_are : filled (take (taken_words l) words) ≡ head ++ tail
    unfolding record_of
    runs_are =
        ap (λ (b : ℕ). filled (take (taken_words l) (head_of k ++ (tail ++ (b ∷ []))))) (sym (blank_same l.marked (blank_of samples)))
        ∙ fill_back l.marked (head_of k) tail blank (blank_of samples) refl tail_length (blank_fits l.marked samples)

    rules_kept : Lawful l → l.angled ≡ true → sound (head_slots l f) head ≡ true → sound (float_slots l) (floats_of o) ≡ true → words_right l f (take (taken_words l) words) ≡ true
    rules_kept lawful angled h g =
        ap (record_right l f) runs_are
        ∙ right_runs l lawful angled f head (floats_of o) (bytes_of values) refl refl
        ∙ rw (h, g, values_right, blank_over)

  -- and the maker takes it where the keypoints are alike and the rules are kept
  maker_takes : is_nan k.xi ≡ false → alike k o ≡ true → words_right edition2 widest (take read_words words) ≡ true → make_number k o (map bits_of values) samples read_words ≡ 0
  unfolding make_number make_fault record_wrong first_fault
  maker_takes x a r =
      let w : words_right edition2 widest words ≡ true = ap (words_right edition2 widest) (sym (take_all read_words words (le_of_eq record_long))) ∙ r in
      let n : eqb (length (map bits_of values)) value_count ≡ true = eq-eqb (length (map bits_of values)) value_count (length-map values bits_of ∙ full.all) in
      rw (x, a, n, w)

  pub makeable_taken : Makeable k o → make_number k o (map bits_of values) samples read_words ≡ 0
  unfolding layout_of
  makeable_taken m = maker_takes m.number m.same (rules_kept edition2 widest (lawful_edition 2) refl (m.head (blank_of samples) (blank_small samples)) m.floats)

-- ---- the record of a sound keypoint

self : (n : ℕ) → eqb n n ≡ true
self n = eq-eqb n n refl

-- what it is made of: a sound keypoint of an octave that is w wide and h high, an angle, and a descriptor's values and samples
pub record Given (w h : ℕ) (s : Settings) (octave : ℕ) (k : RawKeypoint) (angle : Float) (values : List Float) (samples : ℕ) : Type 0 where
  pub good : Sound w h s octave k
  pub low : octave ≤ max_octave
  pub turn : Turn angle
  pub full : Filled values samples

module _ {w h : ℕ} {s : Settings} {octave : ℕ} {k : RawKeypoint} {angle : Float} {values : List Float} {samples : ℕ} (g : Given w h s octave k angle values samples) where
  abbrev turned : OrientedKeypoint
  turned = oriented_of k angle

  abbrev made : List ℕ
  made = words k turned g.full

  layer_in_lem : (layers : ℕ) → s.layers ≤ layers → (1 ≤ get_or made layer_place 0) × (get_or made layer_place 0 ≤ layers)
  unfolding record_of
  layer_in_lem layers l = let e = g.good.next_byte in (subst (λ (n : ℕ). 1 ≤ n) (sym e) g.good.first, subst (λ (n : ℕ). n ≤ layers) (sym e) (le_trans g.good.last l))

  -- on a frame that is no smaller than the octave, and has its layers
  module _ (l : Layout) (f : Frame) (across : w ≤ f.width) (down : h ≤ f.height) (deep : s.layers ≤ f.layers) where
    head_right : (b : ℕ) → b ≤ mark_bits l → sound (head_slots l f) (head_of k ++ (b ∷ 0 ∷ [])) ≡ true
    unfolding record_of
    head_right b small =
        one_more _ _ _ _ (omega arith) (inside k.rr h f.height g.good.bottom down)
        (one_more _ _ _ _ (omega arith) (inside k.cc w f.width g.good.right across)
        (one_more _ _ _ _ (omega arith) (subst (λ (n : ℕ). n ≤ max_octave) (sym g.good.low_byte) g.low)
        (one_more _ _ _ _ (layer_in_lem f.layers deep).0 (layer_in_lem f.layers deep).1
        (one_more _ _ _ _ (omega arith) (third (k.octave / 2 ^ 16) g.good.third_byte)
        (one_more _ _ _ _ (omega arith) small
        (one_more _ _ _ _ (omega arith) (omega arith) no_more))))))

    pub record_layer : layer_right f.layers (take (taken_words l) made) ≡ true
    record_layer =
        let r = layer_in_lem f.layers deep in
        let e : get_or (take (taken_words l) made) layer_place 0 ≡ get_or made layer_place 0 = get_or-take (taken_words l) made layer_place 0 (lt_of_lt_of_le (lit< tt) (taken_plain l.marked)) in
        rw e (in_range 1 f.layers (get_or made layer_place 0) r.0 r.1)

    module _ (lawful : Lawful l) (angled : l.angled ≡ true) where
      floats_right : sound (float_slots l) (floats_of turned) ≡ true
      floats_right =
          one_more _ _ _ _ (omega arith) (positive_right k.x g.good.x_number g.good.x_above).1
          (one_more _ _ _ _ (omega arith) (positive_right k.y g.good.y_number g.good.y_above).1
          (one_more _ _ _ _ (positive_right k.size g.good.size_number g.good.size_above).0 (positive_right k.size g.good.size_number g.good.size_above).1
          (one_more _ _ _ _ (omega arith) (finite_bits k.response g.good.response_number.held g.good.response_number.ends g.good.response_plain)
          (one_more _ _ _ _ (omega arith) (angle_right l.angled (bits_of angle) angled g.turn.bits) no_more))))

      pub record_right_lem : words_right l f (take (taken_words l) made) ≡ true
      record_right_lem = rules_kept k turned g.full l f lawful angled (head_right _ (blank_fits l.marked samples)) floats_right

  alike_self : alike k turned ≡ true
  unfolding alike
  alike_self = rw (self k.octave, self (bits_of k.x), self (bits_of k.y), self (bits_of k.size), self (bits_of k.response))

  -- the maker takes it, where the octave is within the limits
  pub make_accepts : w ≤ max_side → h ≤ max_side → s.layers ≤ max_layers → make_number k turned (map bits_of values) samples read_words ≡ 0
  unfolding layout_of
  make_accepts wide high deep =
      makeable_taken k turned g.full
      (record {
        number = finite_number k.xi g.good.xi_number.ends;
        same = alike_self;
        head = head_right edition2 widest wide high deep;
        floats = floats_right edition2 widest wide high deep (lawful_edition 2) refl;
      })
