-- The laws that specs/Rules.antt states. Assumes nothing.
use Rattle.std.proofs.Common.{◌≡◌, ℕ, ◌+◌, ◌<◌, ◌≤◌, true, ◌&&◌, leb, List, [], ◌∷◌, ◌++◌, map, length, get_or, sym, ap, ◌∙◌, arith, get_or-append-add, eq-eqb, ne_eqb, le-leb}
use Rattle.lists.proofs.Bools.{and_left, and_right, both_and}
use Rattle.params.specs.Limits.{value_count}
use Rattle.detect_keypoint.specs.declared.RawKeypoint.{RawKeypoint}
use Rattle.orient_words.specs.declared.OrientedKeypoint.{OrientedKeypoint}
use Rattle.sheet.specs.Pack.{Slot, sound}
use Rattle.sheet.specs.Layout.{Frame, edition2, record_slots}
use Rattle.sheet.specs.Sheet.{record_right, blank_right}
use Rattle.sheet.specs.Words.{plain_words, filled}
use Rattle.sheet.specs.Writes.{words_right}
use Rattle.sheet.proofs.Packed.{ranged, ranged_head}
use Rattle.record.specs.Record.{byte_of, blank_of, record_of}
use Rattle.record.specs.Make.{widest, make_number}
use Rattle.record.specs.Rules.{Made, MakerRule}
use Rattle.record.proofs.Bytes.{taken, each}
use Rattle.record.proofs.Puts.{length_bytes, length_record}
use Rattle.record.proofs.Wrong.{accepted, right, left_is}

-- ---- a record on another frame

-- a value in one slot's range is in another's that starts no later and does not end before the value
next : (s t : Slot) (ss ts : List Slot) (v : ℕ) (vs : List ℕ) → t.low ≤ s.low → (v ≤ s.high → v ≤ t.high) → (sound ss vs ≡ true → sound ts vs ≡ true)
    → sound (s ∷ ss) (v ∷ vs) ≡ true → sound (t ∷ ts) (v ∷ vs) ≡ true
unfolding sound
next s t ss ts v vs a b f h =
    let r = ranged_head (ranged (s ∷ ss) (v ∷ vs) h) in
    both_and _ _ (both_and _ _ (le-leb t.low v (omega (arith, r.0))) (le-leb v t.high (b r.1))) (f (and_right (leb s.low v && leb v s.high) (sound ss vs) h))

-- only row, column and layer are asked of the frame
framed : (f : Frame) (a b c d : ℕ) (vs : List ℕ) → a < f.height → b < f.width → d ≤ f.layers
    → sound (record_slots edition2 widest) (a ∷ b ∷ c ∷ d ∷ vs) ≡ true → sound (record_slots edition2 f) (a ∷ b ∷ c ∷ d ∷ vs) ≡ true
unfolding record_slots
framed f a b c d vs h w l =
    next _ _ _ _ a _ (omega arith) (λ _. omega arith)
    (next _ _ _ _ b _ (omega arith) (λ _. omega arith)
    (next _ _ _ _ c _ (omega arith) (λ g. g)
    (next _ _ _ _ d vs (omega arith) (λ _. l) (λ g. g))))

kept : (k : RawKeypoint) (o : OrientedKeypoint) (values : List ℕ) (samples : ℕ) (f : Frame) → k.rr < f.height → k.cc < f.width → get_or (record_of k o values samples) 3 0 ≤ f.layers
    → words_right edition2 widest (record_of k o values samples) ≡ true → words_right edition2 f (record_of k o values samples) ≡ true
unfolding record_right filled record_of
kept k o values samples f h w l r =
    let v = filled (record_of k o values samples) in
    both_and _ _ (framed f _ _ _ _ _ h w l (and_left (sound (record_slots edition2 widest) v) (blank_right v) r)) (and_right (sound (record_slots edition2 widest) v) (blank_right v) r)

-- ---- the blank word

blank_at : (k : RawKeypoint) (o : OrientedKeypoint) (values : List ℕ) (samples : ℕ) → length values ≡ value_count → get_or (record_of k o values samples) plain_words 0 ≡ blank_of samples
unfolding record_of
blank_at k o values samples l =
    ap (λ (n : ℕ). get_or (map byte_of values ++ (blank_of samples ∷ [])) (n + 0) 0) (sym (length_bytes values l)) ∙ get_or-append-add (map byte_of values) (blank_of samples ∷ []) 0 0

made : (k : RawKeypoint) (o : OrientedKeypoint) (values : List ℕ) (samples : ℕ) (out : List ℕ) → make_number k o values samples (length out) ≡ 0 → Made k o values samples out
made k o values samples out h =
    let i = left_is k o values samples out h in
    let g = right k o values samples (accepted k o values samples (length out) h) in
    let b = ap (λ (ws : List ℕ). get_or ws plain_words 0) i ∙ blank_at k o values samples g.0 in
    record {
      whole = ap length i ∙ length_record k o values samples g.0;
      nothing = λ z. b ∙ rw (eq-eqb samples 0 z);
      something = λ n. b ∙ rw (ne_eqb samples 0 n);
      kept = λ f y x l. rw i (kept k o values samples f y x (rw i at l) g.1);
    }

pub maker_rule : MakerRule
maker_rule = record { made = made; taken = taken; each = each }
