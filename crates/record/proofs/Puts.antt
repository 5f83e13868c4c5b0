-- The words of a record as they are written, one after another. Assumes nothing.
use Rattle.std.proofs.Common.{◌≡◌, ℕ, suc, ◌+◌, ◌<◌, ◌≤◌, Bool, true, false, cond, ◌&&◌, eqb, List, [], ◌∷◌, ◌++◌, map, length, get_or, drop, set, sym, refl, ap, ◌∙◌, append-nil, arith, add-one, length-append, length-set, length-drop, drop_of_length-le}
use lib.ListN.{length-map}
use lib.Seq.{sets, sets-eq, drop-cons}
use mir.Val.{bool_byte}
use Rattle.lists.specs.Pasted.{pasted}
use Rattle.lists.proofs.Pasted.{pasted_none, pasted_one, pasted_cons, length_pasted}
use Rattle.ieee.specs.F32.{bits_of}
use Rattle.params.specs.Limits.{value_count}
use Rattle.detect_keypoint.specs.declared.RawKeypoint.{RawKeypoint}
use Rattle.orient_words.specs.declared.OrientedKeypoint.{OrientedKeypoint}
use Rattle.sheet.specs.Words.{read_words, front_words, plain_words}
use Rattle.sheet.proofs.Runs.{triple}
use Rattle.record.specs.Record.{head_of, floats_of, byte_of, blank_of, record_of}
use Rattle.record.specs.Make.{alike}

pub alike_is : (k : RawKeypoint) (o : OrientedKeypoint) (a b c d e f g h : ℕ) → a ≡ bits_of k.x → b ≡ bits_of o.x → c ≡ bits_of k.y → d ≡ bits_of o.y
    → e ≡ bits_of k.size → f ≡ bits_of o.size → g ≡ bits_of k.response → h ≡ bits_of o.response
    → (eqb k.octave o.octave && (eqb a b && (eqb c d && (eqb e f && eqb g h)))) ≡ alike k o
unfolding alike
alike_is k o a b c d e f g h p q r s t u v w = rw (p, q, r, s, t, u, v, w)

-- stores one after another are one run
run : (vs d : List ℕ) → length vs ≤ length d → sets d 0 vs ≡ pasted 0 vs d
unfolding pasted
run vs d h = sets-eq vs d 0 (let z : 0 + length vs ≡ length vs = omega arith in rw z h)

pub front_is : (k : RawKeypoint) (o : OrientedKeypoint) (d : List ℕ) (x y size response angle : ℕ) → front_words ≤ length d
    → x ≡ bits_of o.x → y ≡ bits_of o.y → size ≡ bits_of o.size → response ≡ bits_of o.response → angle ≡ bits_of o.angle
    → sets d 0 (head_of k ++ (x ∷ y ∷ size ∷ response ∷ angle ∷ [])) ≡ pasted 0 (head_of k ++ floats_of o) d
front_is k o d x y size response angle h p q r s t = run (head_of k ++ (x ∷ y ∷ size ∷ response ∷ angle ∷ [])) d h ∙ rw (p, q, r, s, t)

-- ---- the values

pub length_bytes : (values : List ℕ) → length values ≡ value_count → length (map byte_of values) ≡ value_count
length_bytes values l = length-map values byte_of ∙ l

-- one value more, as a whole number
pub value_next : (values out : List ℕ) (i : ℕ) → front_words + length values ≤ length out → i < length values
    → pasted (front_words + (i + 1)) (map byte_of (drop (i + 1) values)) (set out (front_words + i) (byte_of (get_or values i 0))) ≡ pasted (front_words + i) (map byte_of (drop i values)) out
value_next values out i h t =
    let d : drop i values ≡ get_or values i 0 ∷ drop (i + 1) values = rw (add-one, drop-cons values i 0 t) in
    let n : front_words + i + 1 ≡ front_words + (i + 1) = omega arith in
    let r : front_words + i + suc (length (map byte_of (drop (i + 1) values))) ≤ length out = simp (length-map, length-drop) (omega arith) in
    rw (d, pasted_cons (front_words + i) (byte_of (get_or values i 0)) (map byte_of (drop (i + 1) values)) out r, n)

-- past the last nothing is left to write
pub values_end : (values out : List ℕ) (i : ℕ) → length values ≤ i → pasted (front_words + i) (map byte_of (drop i values)) out ≡ out
values_end values out i h = rw (drop_of_length-le values h) (pasted_none (front_words + i) out)

-- ---- the whole record

-- the blank word
pub blank_is : (b : Bool) → bool_byte b ≡ cond {A = ℕ} b 1 0
blank_is true = refl
blank_is false = refl

pub length_record : (k : RawKeypoint) (o : OrientedKeypoint) (values : List ℕ) (samples : ℕ) → length values ≡ value_count → length (record_of k o values samples) ≡ read_words
unfolding record_of
length_record k o values samples l = simp (length-append, length-map, l)

-- the front at the start, the values after it, the blank word last: nothing of what stood there is left
module _ (k : RawKeypoint) (o : OrientedKeypoint) (values out x y : List ℕ) (samples : ℕ) (l : length values ≡ value_count) (h : length out ≡ read_words)
    (p : x ≡ pasted 0 (head_of k ++ floats_of o) out) (q : y ≡ pasted front_words (map byte_of values) x) where
  abbrev front : List ℕ
  front = head_of k ++ floats_of o

  long_x : length x ≡ read_words
  long_x = ap length p ∙ length_pasted 0 front out (omega arith) ∙ h

  long_y : length y ≡ read_words
  long_y = let m = length_bytes values l in ap length q ∙ length_pasted front_words (map byte_of values) x (omega (arith, long_x)) ∙ long_x

  pub record_is : set y plain_words (blank_of samples) ≡ record_of k o values samples
  unfolding record_of pasted
  record_is =
      let vs = map byte_of values in
      let last = blank_of samples ∷ [] in
      let e = length_record k o values samples l in
      let whole : length out ≤ 0 + length (record_of k o values samples) = omega arith in
      sym (pasted_one plain_words (blank_of samples) y (omega (arith, long_y)))
      ∙ ap (pasted plain_words last) (q ∙ ap (pasted front_words vs) p)
      ∙ sym (triple 0 front vs last out front_words value_count refl (length_bytes values l) (omega arith))
      ∙ ap (λ (r : List ℕ). record_of k o values samples ++ r) (drop_of_length-le out whole)
      ∙ append-nil (record_of k o values samples)

  pub record_long : (n : ℕ) → length (set y plain_words n) ≡ length out
  record_long n = length-set y plain_words n ∙ long_y ∙ sym h
