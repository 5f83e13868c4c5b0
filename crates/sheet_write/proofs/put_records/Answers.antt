use mathlib.Core.Path.{refl, sym, ap, ◌∙◌, subst}
use mathlib.Core.List.{List, flat_map}
use Prim.Native.Nat.{ℕ, ◌+◌, ◌-◌, ◌*◌, ◌≤◌}
use native.Mathlib.Omega.{arith}
use borrow.Author.Rules.{rules}
use lib.ListN.{length, drop}
use Rattle.lists.specs.Pasted.{pasted}
use Rattle.sheet.specs.Pack.{Held}
use Rattle.sheet.specs.Layout.{header_size, record_size, record_slots}
use Rattle.sheet.specs.Sheet.{parts}
use Rattle.sheet.specs.Words.{taken_words, filled}
use Rattle.sheet.proofs.Lawful.{lawful_edition}
use Rattle.sheet.proofs.Steps.{parts_begin, parts_put, parts_end}
use Rattle.sheet_edition.specs.Edition.{layout_for}
use Rattle.sheet_fields.specs.Fields.{any_frame, words_bytes}
use Rattle.sheet_write.proofs.Written.{inside, inside_out, part_is, part_length, part_put, length_record}
use Rattle.sheet_write.proofs.put_records.Goals as goal

pub loop-i-init : goal.loop-i-init
loop-i-init c =
    let l = layout_for c.args.e in
    (refl, parts_begin (words_bytes l) (taken_words l) (record_size l) header_size c.args.n c.args.words.now c.args.out.now)

pub overflow_mul-from : goal.overflow_mul-from
overflow_mul-from c =
    let l = c.loop-i in
    omega (arith, inside c.args.e.words (taken_words (layout_for c.args.e)) c.args.n l.i (length c.args.words.now) c.args.e.words_are c.requires.n_words c.loop-i-test.true)

pub overflow_add-to : goal.overflow_add-to
overflow_add-to c =
    let l = c.loop-i in
    omega (arith, inside c.args.e.words (taken_words (layout_for c.args.e)) c.args.n l.i (length c.args.words.now) c.args.e.words_are c.requires.n_words c.loop-i-test.true)

pub offset_bounds-words-from : goal.offset_bounds-words-from
offset_bounds-words-from c =
    let l = c.loop-i in
    omega (arith, inside c.args.e.words (taken_words (layout_for c.args.e)) c.args.n l.i (length c.args.words.now) c.args.e.words_are c.requires.n_words c.loop-i-test.true)

pub slice_bounds-put_record-end : goal.slice_bounds-put_record-end
slice_bounds-put_record-end c =
    let l = c.loop-i in
    omega (arith, inside c.args.e.words (taken_words (layout_for c.args.e)) c.args.n l.i (length c.args.words.now) c.args.e.words_are c.requires.n_words c.loop-i-test.true)

pub overflow_mul-e : goal.overflow_mul-e
overflow_mul-e c =
    let l = c.loop-i in
    omega (arith, inside_out c.args.e.bytes (record_size (layout_for c.args.e)) c.args.n l.i (length c.args.out.now) c.args.e.bytes_are c.requires.n_in_bounds c.loop-i-test.true)

pub overflow_add-e : goal.overflow_add-e
overflow_add-e c =
    let l = c.loop-i in
    omega (arith, inside_out c.args.e.bytes (record_size (layout_for c.args.e)) c.args.n l.i (length c.args.out.now) c.args.e.bytes_are c.requires.n_in_bounds c.loop-i-test.true)

pub put_record-requires-clause-words_len : goal.put_record-requires-clause-words_len
put_record-requires-clause-words_len c =
    let l = c.loop-i in
    let y = layout_for c.args.e in
    let k = taken_words (layout_for c.args.e) in
    let w = c.args.e.words_are in
    let i = c.loop-i-test.true in
    part_length c.args.e.words k c.args.n l.i c.args.words.now w c.requires.n_words i

pub put_record-requires-clause-e_in_bounds : goal.put_record-requires-clause-e_in_bounds
put_record-requires-clause-e_in_bounds c =
    let l = c.loop-i in
    let y = layout_for c.args.e in
    let k = taken_words (layout_for c.args.e) in
    let w = c.args.e.words_are in
    let i = c.loop-i-test.true in
    omega (arith, inside_out c.args.e.bytes (record_size (layout_for c.args.e)) c.args.n l.i (length c.args.out.now) c.args.e.bytes_are c.requires.n_in_bounds c.loop-i-test.true, l.invariant.0)

pub put_record-requires-clause-held : goal.put_record-requires-clause-held
put_record-requires-clause-held c =
    let l = c.loop-i in
    let y = layout_for c.args.e in
    let k = taken_words (layout_for c.args.e) in
    let w = c.args.e.words_are in
    let i = c.loop-i-test.true in
    subst (λ (t : List ℕ). Held (record_slots y any_frame) (filled t)) (sym (part_is c.args.e.words k l.i c.args.words.now w)) (c.requires.by_index l.i i)

pub loop-i-preserved : goal.loop-i-preserved
loop-i-preserved c =
    let p = c.put_record in
    let l = c.loop-i in
    let y = layout_for c.args.e in
    let k = taken_words (layout_for c.args.e) in
    let room : header_size + record_size (layout_for c.args.e) * c.args.n ≤ length l.out = omega (arith, c.requires.n_in_bounds, l.invariant.0) in
    let e = p.ensures ∙ part_put y c.args.e.words c.args.e.bytes l.i c.args.words.now l.out c.args.e.words_are c.args.e.bytes_are in (
      search rules,
      ap (λ (d : List ℕ). pasted (header_size + record_size y * (l.i + 1)) (flat_map (words_bytes y) (parts k (c.args.n - (l.i + 1)) (drop (k * (l.i + 1)) c.args.words.now))) d) e
          ∙ parts_put (words_bytes y) k (record_size y) header_size c.args.n l.i c.args.words.now l.out (length_record y (lawful_edition c.args.e.number)) c.loop-i-test.true room
          ∙ l.invariant.1,
    )

pub returns : goal.returns
returns c =
    let l = c.loop-i in
    let y = layout_for c.args.e in
    sym (parts_end (words_bytes y) (taken_words y) (header_size + record_size y * l.i) c.args.n l.i c.args.words.now l.out c.loop-i-test.false) ∙ l.invariant.1
