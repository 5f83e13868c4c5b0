use mathlib.Core.Path.{refl, sym, ap, ◌∙◌}
use mathlib.Core.List.{List, flat_map}
use Prim.Native.Nat.{ℕ, ◌+◌, ◌-◌, ◌*◌, ◌≤◌}
use native.Mathlib.Nat.{zero-add}
use native.Mathlib.Omega.{arith}
use borrow.Author.Rules.{rules}
use lib.ListN.{length, take, drop, length-take, length-drop}
use Rattle.lists.specs.Pasted.{pasted}
use Rattle.sheet.specs.Layout.{header_size, record_size}
use Rattle.sheet.specs.Sheet.{parts}
use Rattle.sheet.specs.Words.{read_words}
use Rattle.sheet.proofs.Steps.{parts_begin, parts_put, parts_end}
use Rattle.sheet_edition.specs.Edition.{layout_for}
use Rattle.sheet_fields.specs.Fields.{bytes_words}
use Rattle.sheet_read.proofs.Taken.{words_length, record_inside, record_at}
use Rattle.sheet_read.proofs.take_records.Goals as goal
use Rattle.sheet_read.proofs.take_records.Goals.{In-loop-i}

pub loop-i-init : goal.loop-i-init
loop-i-init c =
    let l = layout_for c.args.e in
    (refl, parts_begin (bytes_words l) (record_size l) read_words 0 c.args.n (drop header_size c.args.sheet.now) c.args.out.now)

inside : (c : In-loop-i) →
    header_size + c.args.e.bytes * c.loop-i.i + c.args.e.bytes ≤ length c.args.sheet.now
inside c =
    record_inside c.args.e c.args.n c.loop-i.i (length c.args.sheet.now) c.requires.n_records c.loop-i-test.true

pub overflow_mul-from : goal.overflow_mul-from
overflow_mul-from c = omega (arith, inside (goal.at.overflow_mul-from c).In-loop-i)

pub overflow_add-from : goal.overflow_add-from
overflow_add-from c = omega (arith, inside (goal.at.overflow_add-from c).In-loop-i)

pub overflow_add-to : goal.overflow_add-to
overflow_add-to c = omega (arith, inside (goal.at.overflow_add-to c).In-loop-i)

pub slice_bounds-take_record-start : goal.slice_bounds-take_record-start
slice_bounds-take_record-start c = omega (arith, inside (goal.at.slice_bounds-take_record-start c).In-loop-i)

pub slice_bounds-take_record-end : goal.slice_bounds-take_record-end
slice_bounds-take_record-end c = omega (arith, inside (goal.at.slice_bounds-take_record-end c).In-loop-i)

pub take_record-requires-clause-bytes_len : goal.take_record-requires-clause-bytes_len
take_record-requires-clause-bytes_len c = rw (length-take, length-drop) (omega (arith, inside (goal.at.take_record-requires-clause-bytes_len c).In-loop-i, c.args.e.bytes_are))

pub take_record-requires-clause-read_words_in_bounds : goal.take_record-requires-clause-read_words_in_bounds
take_record-requires-clause-read_words_in_bounds c = omega arith

pub loop-i-preserved : goal.loop-i-preserved
loop-i-preserved c =
    let t = c.loop-i in
    let l = layout_for c.args.e in
    let bs = drop header_size c.args.sheet.now in
    let p = c.take_record in
    let room : 0 + read_words * c.args.n ≤ length t.out = omega arith in
    let q = ap (λ (b : List ℕ). pasted (read_words * t.i) (bytes_words l b) t.out) (record_at c.args.e c.args.sheet.now t.i) in
    let e = p.ensures ∙ q ∙ ap (λ (m : ℕ). pasted m (bytes_words l (take (record_size l) (drop (record_size l * t.i) bs))) t.out) (sym (zero-add (read_words * t.i))) in (
      search rules,
      ap (λ (d : List ℕ). pasted (0 + read_words * (t.i + 1)) (flat_map (bytes_words l) (parts (record_size l) (c.args.n - (t.i + 1)) (drop (record_size l * (t.i + 1)) bs))) d) e
          ∙ parts_put (bytes_words l) (record_size l) read_words 0 c.args.n t.i bs t.out (words_length l) c.loop-i-test.true room
          ∙ t.invariant.1,
    )

pub returns : goal.returns
returns c =
    let t = c.loop-i in
    let l = layout_for c.args.e in
    sym (parts_end (bytes_words l) (record_size l) (0 + read_words * t.i) c.args.n t.i (drop header_size c.args.sheet.now) t.out c.loop-i-test.false) ∙ t.invariant.1
