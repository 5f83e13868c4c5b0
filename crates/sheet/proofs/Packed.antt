-- The laws of packing: what is packed comes out again, at any widths.
-- Assumes nothing.
use mathlib.Core.Path.{◌≡◌, refl, ap, ◌∙◌, subst}
use mathlib.Core.Bool.{true, false, ◌&&◌, and-eq-true_iff}
use mathlib.Core.List.{List, [], ◌∷◌, ◌++◌, append_assoc, append-nil, flat_map}
use Prim.Native.Nat.{ℕ, zero, suc, ◌+◌, ◌*◌, ◌/◌, ◌%◌, ◌^◌, ◌≤◌, ◌<◌}
use native.Mathlib.Nat.{not-suc-le-zero, le_of_suc-le-suc, lt_of_le_of_lt, add-zero, mul_assoc, mod-lt, div-add-mod', mul-suc, mul-zero, add-mul, mul-add, add-suc, mod-eq_of_lt}
use native.Mathlib.Omega.{arith}
use borrow.Author.Tests.{leb-true}
use lib.Dec.{leb}
use lib.ListN.{length, get_or, length-append}
use lib.Pow.{pow_pos, pow-add, high, low, shr_lt}
use lib.Arith.{digits_lt}
use Rattle.sheet.specs.Pack.{Slot, bits, number, bytes, pack, value, fields, unpack, sound, Held, Bytes}
use Rattle.sheet.specs.Pack.Held.{none, one}

-- each slot's largest value has room in its width
abbrev pub Roomy : List Slot → Type 0
Roomy [] = Unit
Roomy (s ∷ ss) = (s.high < 2 ^ s.width) × Roomy ss

false_true : {A : Type 0} → false ≡ true → A
false_true e = absurd (let z : ◌≡◌ {A = ℕ} 0 1 = cc in omega arith)

pub held : (ss : List Slot) (vs : List ℕ) → Roomy ss → sound ss vs ≡ true → Held ss vs
unfolding sound
held [] [] r e = none
held [] (v ∷ vs) r e = false_true e
held (s ∷ ss) [] r e = false_true e
held (s ∷ ss) (v ∷ vs) r e =
    let b = (and-eq-true_iff (leb s.low v && leb v s.high) (sound ss vs)).0 e in
    let a = (and-eq-true_iff (leb s.low v) (leb v s.high)).0 b.0 in
    one (lt_of_le_of_lt (leb-true _ _ a.1) r.0) (held ss vs r.1 b.1)

-- what `sound` says, as data
pub data Ranged : List Slot → List ℕ → Type 0 where
  nought : Ranged [] []
  more : {s : Slot} {v : ℕ} {ss : List Slot} {vs : List ℕ} → s.low ≤ v → v ≤ s.high → Ranged ss vs → Ranged (s ∷ ss) (v ∷ vs)

pub ranged : (ss : List Slot) (vs : List ℕ) → sound ss vs ≡ true → Ranged ss vs
unfolding sound
ranged [] [] e = nought
ranged [] (v ∷ vs) e = false_true e
ranged (s ∷ ss) [] e = false_true e
ranged (s ∷ ss) (v ∷ vs) e =
    let b = (and-eq-true_iff (leb s.low v && leb v s.high) (sound ss vs)).0 e in
    let a = (and-eq-true_iff (leb s.low v) (leb v s.high)).0 b.0 in
    more (leb-true _ _ a.0) (leb-true _ _ a.1) (ranged ss vs b.1)

pub ranged_head : {s : Slot} {v : ℕ} {ss : List Slot} {vs : List ℕ} → Ranged (s ∷ ss) (v ∷ vs) → (s.low ≤ v) × (v ≤ s.high)
ranged_head (more a b t) = (a, b)

pub ranged_tail : {s : Slot} {v : ℕ} {ss : List Slot} {vs : List ℕ} → Ranged (s ∷ ss) (v ∷ vs) → Ranged ss vs
ranged_tail (more a b t) = t

-- what `sound` says of the field at a place
pub sound_length : (ss : List Slot) (vs : List ℕ) → sound ss vs ≡ true → length vs ≡ length ss
unfolding sound
sound_length [] [] e = refl
sound_length [] (v ∷ vs) e = false_true e
sound_length (s ∷ ss) [] e = false_true e
sound_length (s ∷ ss) (v ∷ vs) e = ap suc (sound_length ss vs ((and-eq-true_iff (leb s.low v && leb v s.high) (sound ss vs)).0 e).1)

pub sound_at : (ss : List Slot) (vs : List ℕ) (d : Slot) → sound ss vs ≡ true → (i : ℕ) → i < length ss → ((get_or ss i d).low ≤ get_or vs i 0) × (get_or vs i 0 ≤ (get_or ss i d).high)
unfolding sound
sound_at [] vs d e i h = absurd (not-suc-le-zero h)
sound_at (s ∷ ss) [] d e i h = false_true e
sound_at (s ∷ ss) (v ∷ vs) d e zero h = ranged_head (ranged (s ∷ ss) (v ∷ vs) e)
sound_at (s ∷ ss) (v ∷ vs) d e (suc i) h =
    sound_at ss vs d ((and-eq-true_iff (leb s.low v && leb v s.high) (sound ss vs)).0 e).1 i (le_of_suc-le-suc h)

pub held_head : {s : Slot} {v : ℕ} {ss : List Slot} {vs : List ℕ} → Held (s ∷ ss) (v ∷ vs) → v < 2 ^ s.width
held_head (one h t) = h

pub held_tail : {s : Slot} {v : ℕ} {ss : List Slot} {vs : List ℕ} → Held (s ∷ ss) (v ∷ vs) → Held ss vs
held_tail (one h t) = t

pub bits_append : (a b : List Slot) → bits (a ++ b) ≡ bits a + bits b
unfolding bits
bits_append [] b = omega arith
bits_append (s ∷ a) b = rw (bits_append a b) (omega arith)

pub number_lt : {ss : List Slot} {vs : List ℕ} → Held ss vs → number ss vs < 2 ^ bits ss
unfolding number bits
number_lt none = omega arith
number_lt (one {s} {v} {ss} {vs} h t) = rw pow-add (digits_lt h (number_lt t))

pub fields_number : {ss : List Slot} {vs : List ℕ} → Held ss vs → fields ss (number ss vs) ≡ vs
unfolding number fields
fields_number none = refl
fields_number (one {s} {v} {ss} {vs} h t) =
    rw (high v (bits ss) (number_lt t), low v (bits ss) (number_lt t), fields_number t)

pub bytes_none : (n : ℕ) → bytes 0 n ≡ []
unfolding bytes
bytes_none n = refl

pub length_bytes : (k n : ℕ) → length (bytes k n) ≡ k
unfolding bytes
length_bytes zero n = refl
length_bytes (suc k) n = rw (length-append, length_bytes k (n / 256)) (omega arith)

pub value_append : (a b : List ℕ) → value (a ++ b) ≡ value a * 2 ^ (8 * length b) + value b
unfolding value
value_append [] b = omega arith
value_append (x ∷ a) b =
    let e : 2 ^ (8 * length (a ++ b)) ≡ 2 ^ (8 * length a) * 2 ^ (8 * length b) = rw (length-append, mul-add, pow-add) in
    rw (value_append a b, e, add-mul, mul_assoc) (omega arith)

top : (k n : ℕ) → n < 2 ^ (8 * suc k) → n / 256 < 2 ^ (8 * k)
top k n h = shr_lt (8 * k) 8 (rw mul-suc at h)

pub value_bytes : (k n : ℕ) → n < 2 ^ (8 * k) → value (bytes k n) ≡ n
unfolding value bytes
value_bytes zero n h = omega arith
value_bytes (suc k) n h = rw (value_append, value_bytes k (n / 256) (top k n h)) (omega arith)

-- bytes of a number in two parts
pub bytes_append : (j k m n : ℕ) → n < 2 ^ (8 * k) → bytes (j + k) (m * 2 ^ (8 * k) + n) ≡ bytes j m ++ bytes k n
unfolding bytes
bytes_append j zero m n h =
    let e : m * 2 ^ (8 * 0) + n ≡ m = omega arith in
    rw (add-zero, e, append-nil)
bytes_append j (suc k) m n h =
    let p : m * 2 ^ (8 * suc k) ≡ m * 2 ^ (8 * k) * 256 = rw (mul-suc, pow-add, mul_assoc) in
    let q : (m * 2 ^ (8 * suc k) + n) / 256 ≡ m * 2 ^ (8 * k) + n / 256 = omega arith in
    let r : (m * 2 ^ (8 * suc k) + n) % 256 ≡ n % 256 = omega arith in
    rw (add-suc, q, r, bytes_append j k m (n / 256) (top k n h), append_assoc)

pub value_lt : (bs : List ℕ) → Bytes bs → value bs < 2 ^ (8 * length bs)
unfolding value
value_lt [] h = omega arith
value_lt (b ∷ bs) h =
    let e : 2 ^ (8 * suc (length bs)) ≡ 256 * 2 ^ (8 * length bs) = rw (mul-suc, pow-add) (omega arith) in
    rw e (digits_lt (h 0) (value_lt bs (λ i. h (suc i))))

pub bytes_one : (b : ℕ) → b < 256 → bytes 1 b ≡ b ∷ []
unfolding bytes
bytes_one b h = ap (λ (x : ℕ). x ∷ []) (mod-eq_of_lt h)

pub bytes_value : (bs : List ℕ) → Bytes bs → bytes (length bs) (value bs) ≡ bs
unfolding value
bytes_value [] h = bytes_none 0
bytes_value (b ∷ bs) h =
    let e : suc (length bs) ≡ 1 + length bs = omega arith in
    rw (e, bytes_append 1 (length bs) b (value bs) (value_lt bs (λ i. h (suc i))), bytes_value bs (λ i. h (suc i)), bytes_one b (h 0))

pub number_fields : (ss : List Slot) (n : ℕ) → n < 2 ^ bits ss → number ss (fields ss n) ≡ n
unfolding number fields bits
number_fields [] n h = omega arith
number_fields (s ∷ ss) n h =
    rw (number_fields ss (n % 2 ^ bits ss) (mod-lt n (pow_pos (bits ss)))) (div-add-mod' n (2 ^ bits ss))

pub length_pack : (ss : List Slot) (vs : List ℕ) → length (pack ss vs) ≡ bits ss / 8
unfolding pack
length_pack ss vs = length_bytes _ _

eight : (k : ℕ) → 8 * k / 8 ≡ k
eight k = omega arith

-- THE RETURN TRIP, over the widths: whatever fits its slots is read back, where the slots fill whole bytes
pub unpack_pack : (ss : List Slot) (vs : List ℕ) (k : ℕ) → bits ss ≡ 8 * k → Held ss vs → unpack ss (pack ss vs) ≡ vs
unfolding pack unpack
unpack_pack ss vs k e h =
    rw (e, eight, value_bytes k (number ss vs) (rw e at (number_lt h)), fields_number h)

-- and the other way round: bytes are written back as they were
pub pack_unpack : (ss : List Slot) (bs : List ℕ) → bits ss ≡ 8 * length bs → Bytes bs → pack ss (unpack ss bs) ≡ bs
unfolding pack unpack
pack_unpack ss bs e h =
    rw (number_fields ss (value bs) (rw (← e) at (value_lt bs h)), e, eight, bytes_value bs h)

-- two runs of fields, the second of whole bytes
pub number_append : {ss : List Slot} {vs : List ℕ} → Held ss vs → (ts : List Slot) (us : List ℕ) → number (ss ++ ts) (vs ++ us) ≡ number ss vs * 2 ^ bits ts + number ts us
unfolding number
number_append none ts us = omega arith
number_append (one {s} {v} {ss} {vs} h t) ts us =
    let e : 2 ^ bits (ss ++ ts) ≡ 2 ^ bits ss * 2 ^ bits ts = rw (bits_append, pow-add) in
    let m : (v * 2 ^ bits ss + number ss vs) * 2 ^ bits ts ≡ v * (2 ^ bits ss * 2 ^ bits ts) + number ss vs * 2 ^ bits ts = rw (add-mul, mul_assoc) in
    rw (number_append t ts us, e) (omega arith)

pub pack_append : {ss ts : List Slot} {vs us : List ℕ} (j k : ℕ) → bits ss ≡ 8 * j → bits ts ≡ 8 * k → Held ss vs → Held ts us →
    pack (ss ++ ts) (vs ++ us) ≡ pack ss vs ++ pack ts us
unfolding pack
pack_append {ss} {ts} {vs} {us} j k p q h g =
    let e : (8 * j + 8 * k) / 8 ≡ j + k = omega arith in
    rw (bits_append, number_append h ts us, p, q, e, eight, eight, bytes_append j k (number ss vs) (number ts us) (rw q at (number_lt g)))

-- fields that are each k bytes
abbrev pub Each : ℕ → List Slot → Type 0
Each w [] = Unit
Each w (s ∷ ss) = (s.width ≡ w) × Each w ss

pub each_bits : (k : ℕ) (ss : List Slot) → Each (8 * k) ss → bits ss ≡ 8 * (k * length ss)
unfolding bits
each_bits k [] e = rw mul-zero
each_bits k (s ∷ ss) e = rw (e.0, each_bits k ss e.1, mul-suc) (omega arith)

pack_none : pack [] [] ≡ []
unfolding pack bits number bytes
pack_none = refl

pack_one : (s : Slot) (v k : ℕ) → s.width ≡ 8 * k → pack (s ∷ []) (v ∷ []) ≡ bytes k v
unfolding pack bits number
pack_one s v k e =
    let m : (8 * k + 0) / 8 ≡ k = omega arith in
    let n : v * 1 + 0 ≡ v = omega arith in
    rw (e, m, n)

one_bits : (s : Slot) (k : ℕ) → s.width ≡ 8 * k → bits (s ∷ []) ≡ 8 * k
unfolding bits
one_bits s k e = omega arith

pub pack_each : {ss : List Slot} {vs : List ℕ} (k : ℕ) → Each (8 * k) ss → Held ss vs → pack ss vs ≡ flat_map (bytes k) vs
unfolding flat_map
pack_each k e none = pack_none
pack_each k e (one {s} {v} {ss} {vs} h t) =
    pack_append {ss = s ∷ []} {ts = ss} {vs = v ∷ []} {us = vs} k (k * length ss) (one_bits s k e.0) (each_bits k ss e.1) (one h none) t
    ∙ rw (pack_each k e.1 t, pack_one s v k e.0)

-- one-byte fields are their values
pub pack_bytes : {ss : List Slot} {vs : List ℕ} → Each 8 ss → Held ss vs → flat_map (bytes 1) vs ≡ vs
unfolding flat_map
pack_bytes e none = refl
pack_bytes e (one {s} {v} {ss} {vs} h t) =
    let g : v < 256 = subst (λ (w : ℕ). v < 2 ^ w) e.0 h in
    rw (bytes_one v g, pack_bytes e.1 t)
