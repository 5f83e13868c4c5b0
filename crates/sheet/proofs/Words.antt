-- A record's words and the values of its slots: each gives the other back, for every layout. Assumes nothing.
use mathlib.Core.Path.{◌≡◌, sym, ap, ◌∙◌}
use mathlib.Core.Bool.{Bool, true, false, cond}
use mathlib.Core.List.{List, [], ◌∷◌, ◌++◌, append_assoc, append-nil}
use Prim.Native.Nat.{ℕ, zero, suc, ◌+◌, ◌-◌, ◌≤◌}
use native.Mathlib.Nat.{zero-add, suc-add}
use native.Mathlib.Omega.{arith}
use lib.ListN.{length, get_or, take, drop, length-append, length-take, length-drop, take-append-drop}
use lib.Seq.{take_at, drop_at, take_all, take-add, take-nil, drop-drop, drop-cons, drop-append-add, get_or-append-add, get_or-drop}
use Rattle.params.specs.Limits.{value_count}
use Rattle.sheet.specs.Layout.{Layout, mark_bits}
use Rattle.sheet.specs.Words.{plain_words, read_words, head_words, head_fields, front_fields, front_words, taken_words, filled, unknown_of, worded, with_blank}

pub drop_take : (k m : ℕ) (l : List ℕ) → drop k (take (k + m) l) ≡ take m (drop k l)
drop_take zero m l = ap (λ (n : ℕ). take n l) (zero-add m)
drop_take (suc k) m [] = ap (drop (suc k)) (take-nil (suc k + m)) ∙ sym (take-nil m)
drop_take (suc k) m (x ∷ l) = ap (λ (n : ℕ). drop (suc k) (take n (x ∷ l))) (suc-add k m) ∙ drop_take k m l

-- what stands past the first n of p ++ ys
pub past : (p ys : List ℕ) (n k : ℕ) → length p ≡ n → drop (n + k) (p ++ ys) ≡ drop k ys
past p ys n k e = ap (λ (j : ℕ). drop (j + k) (p ++ ys)) (sym e) ∙ drop-append-add p ys k

pub past_at : (p ys : List ℕ) (n k : ℕ) → length p ≡ n → get_or (p ++ ys) (n + k) 0 ≡ get_or ys k 0
past_at p ys n k e = ap (λ (j : ℕ). get_or (p ++ ys) (j + k) 0) (sym e) ∙ get_or-append-add p ys k 0

-- words in three runs, as values
pub filled_is : (p t q : List ℕ) → length p ≡ head_words → length t ≡ plain_words - head_words → filled (p ++ (t ++ q)) ≡ p ++ (get_or q 0 0 ∷ 0 ∷ t)
unfolding filled
filled_is p t q lp lt =
    let a : take head_words (p ++ (t ++ q)) ≡ p = take_at p (t ++ q) head_words lp in
    let b : drop head_words (p ++ (t ++ q)) ≡ t ++ q = drop_at p (t ++ q) head_words lp in
    let c : take (plain_words - head_words) (t ++ q) ≡ t = take_at t q (plain_words - head_words) lt in
    let d : get_or (p ++ (t ++ q)) plain_words 0 ≡ get_or q 0 0 = past_at p (t ++ q) head_words (plain_words - head_words) lp ∙ past_at t q (plain_words - head_words) 0 lt in
    rw (a, b, c, d)

-- values in three runs, as words
pub worded_is : (l : Layout) (p t : List ℕ) (b z : ℕ) → length p ≡ head_words →
    worded l (p ++ (b ∷ z ∷ t)) ≡ p ++ (t ++ (cond l.marked b (unknown_of (drop head_words t)) ∷ []))
unfolding worded
worded_is l p t b z lp =
    let a : take head_words (p ++ (b ∷ z ∷ t)) ≡ p = take_at p (b ∷ z ∷ t) head_words lp in
    let d : drop head_fields (p ++ (b ∷ z ∷ t)) ≡ t = past p (b ∷ z ∷ t) head_words 2 lp in
    let e : drop front_fields (p ++ (b ∷ z ∷ t)) ≡ drop head_words t = past p (b ∷ z ∷ t) head_words 7 lp in
    let g : get_or (p ++ (b ∷ z ∷ t)) head_words 0 ≡ b = past_at p (b ∷ z ∷ t) head_words 0 lp in
    rw (a, d, e, g)

words_split : (w : List ℕ) → w ≡ take head_words w ++ (take (plain_words - head_words) (drop head_words w) ++ drop plain_words w)
words_split w =
    sym (ap (λ (t : List ℕ). take head_words w ++ t) (ap (λ (t : List ℕ). take (plain_words - head_words) (drop head_words w) ++ t) (sym (drop-drop (plain_words - head_words) head_words w))
    ∙ take-append-drop (plain_words - head_words) (drop head_words w))
    ∙ take-append-drop head_words w)

-- what is written of a record's words is read as them, with the added word
pub worded_filled : (l : Layout) (w : List ℕ) → plain_words ≤ length w → worded l (filled w) ≡ with_blank l w
unfolding with_blank
worded_filled l w h =
    let p = take head_words w in
    let t = take (plain_words - head_words) (drop head_words w) in
    let lp : length (take head_words w) ≡ head_words = rw length-take (omega arith) in
    let lt : length (take (plain_words - head_words) (drop head_words w)) ≡ plain_words - head_words = rw (length-take, length-drop) (omega arith) in
    let q : get_or (drop plain_words w) 0 0 ≡ get_or w plain_words 0 = get_or-drop plain_words w 0 0 in
    let v : drop head_words t ≡ take value_count (drop front_words w) = drop_take head_words value_count (drop head_words w) ∙ ap (take value_count) (drop-drop head_words head_words w) in
    ap (worded l) (ap filled (words_split w) ∙ filled_is p t (drop plain_words w) lp lt)
    ∙ worded_is l p t (get_or (drop plain_words w) 0 0) 0 lp
    ∙ ap (λ (n : ℕ). p ++ (t ++ (cond l.marked n (unknown_of (drop head_words t)) ∷ []))) q
    ∙ ap (λ (vs : List ℕ). p ++ (t ++ (cond l.marked (get_or w plain_words 0) (unknown_of vs) ∷ []))) v
    ∙ sym (append_assoc p t _)
    ∙ ap (λ (x : List ℕ). x ++ (cond l.marked (get_or w plain_words 0) (unknown_of (take value_count (drop front_words w))) ∷ [])) (sym (take-add head_words (plain_words - head_words) w))

pub fill_back : (m : Bool) (p t : List ℕ) (b y : ℕ) → length p ≡ head_words → length t ≡ plain_words - head_words → b ≤ cond m 1 0 →
    filled (take (cond m read_words plain_words) (p ++ (t ++ (cond m b y ∷ [])))) ≡ p ++ (b ∷ 0 ∷ t)
fill_back true p t b y lp lt h =
    ap filled (take_all read_words (p ++ (t ++ (b ∷ []))) (rw (length-append, length-append) (omega arith)))
    ∙ filled_is p t (b ∷ []) lp lt
fill_back false p t b y lp lt h =
    let z : 0 ≡ b = omega arith in
    let lq : length (p ++ t) ≡ plain_words = rw length-append (omega arith) in
    ap (λ (x : List ℕ). filled (take plain_words x)) (sym (append_assoc p t (y ∷ [])))
    ∙ ap filled (take_at (p ++ t) (y ∷ []) plain_words lq ∙ ap (λ (x : List ℕ). p ++ x) (sym (append-nil t)))
    ∙ filled_is p t [] lp lt
    ∙ ap (λ (n : ℕ). p ++ (n ∷ 0 ∷ t)) z

-- how many slots a record has, and which is that of the zero bits
abbrev pub field_count : ℕ
field_count = 140

abbrev zeros_place : ℕ
zeros_place = 6

values_split : (v : List ℕ) → head_fields ≤ length v → v ≡ take head_words v ++ (get_or v head_words 0 ∷ get_or v zeros_place 0 ∷ drop head_fields v)
values_split v h =
    sym (ap (λ (t : List ℕ). take head_words v ++ t) (sym (drop-cons v 5 0 (omega arith) ∙ ap (λ (t : List ℕ). get_or v 5 0 ∷ t) (drop-cons v 6 0 (omega arith))))
    ∙ take-append-drop head_words v)

-- the values of a record, of which the blank one has room and the zero bits are 0
pub record Values (l : Layout) (v : List ℕ) : Type 0 where
  pub length_is : length v ≡ field_count
  pub blank : get_or v head_words 0 ≤ mark_bits l
  pub zeros : get_or v zeros_place 0 ≡ 0

-- what is read of a record's values, without the added word, is written as them
pub filled_worded : (l : Layout) (v : List ℕ) → Values l v → filled (take (taken_words l) (worded l v)) ≡ v
filled_worded l v h =
    let n = h.length_is in
    let p = take head_words v in
    let t = drop head_fields v in
    let b = get_or v head_words 0 in
    let lp : length (take head_words v) ≡ head_words = rw length-take (omega arith) in
    let lt : length (drop head_fields v) ≡ plain_words - head_words = rw length-drop (omega arith) in
    let s : v ≡ p ++ (b ∷ 0 ∷ t) = values_split v (omega arith) ∙ ap (λ (z : ℕ). take head_words v ++ (get_or v head_words 0 ∷ z ∷ drop head_fields v)) h.zeros in
    ap (λ (x : List ℕ). filled (take (taken_words l) (worded l x))) s
    ∙ ap (λ (x : List ℕ). filled (take (taken_words l) x)) (worded_is l p t b 0 lp)
    ∙ fill_back l.marked p t b (unknown_of (drop head_words t)) lp lt h.blank
    ∙ sym s

pub length_worded : (l : Layout) (v : List ℕ) → length v ≡ field_count → length (worded l v) ≡ read_words
unfolding worded
length_worded l v h = simp (length-append, length-take, length-drop, h)
