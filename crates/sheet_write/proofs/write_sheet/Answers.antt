use mathlib.Core.Path.{◌≡◌, ap, ◌∙◌, subst}
use mathlib.Core.List.{List}
use Prim.Native.Nat.{ℕ, ◌/◌, ◌≤◌}
use native.Mathlib.Omega.{arith}
use lib.ListN.{length}
use Rattle.lists.specs.Pasted.{pasted}
use Rattle.sheet.specs.Pack.{number}
use Rattle.sheet.specs.Layout.{Frame, layout_of, header_slots}
use Rattle.sheet.specs.Writes.{frame_of, frame_for, write_fault, written}
use Rattle.sheet.specs.declared.Frame as declared
use Rattle.sheet.proofs.Lawful.{lawful_edition}
use Rattle.sheet.proofs.Faults.{Sound}
use Rattle.sheet_edition.specs.Edition.{layout_for}
use Rattle.sheet_edition.specs.declared.Edition.{Edition}
use Rattle.sheet_write.proofs.Written.{header_is, count_is, sheet_size_lem, accepted_sound, held_header, held_each, two_are, refusal_told, short_told, done_told}
use Rattle.sheet_write.proofs.write_sheet.Goals as goal

pub returns-in_err-e : goal.returns-in_err-e
returns-in_err-e c =
    let a = c.args in
    refusal_told a.edition (frame_of a.width a.height a.layers) a.words.now a.out.now c.from_residual.result c.in_err-e.field-0.0 c.from_residual.ensures.1 c.in_err-e.ensures

pub returns-then-out-size : goal.returns-then-out-size
returns-then-out-size c =
    let a = c.args in
    let h = c.in_ok-e.ensures in
    short_told a.edition (frame_of a.width a.height a.layers) a.words.now a.out.now c.in_ok-e.e h.1 h.0 c.if-out-size.true

-- the frame that was asked for is the one that is handed on
held : (edition : ℕ) (e : Edition) (frame : declared.Frame) (f : Frame) (ws : List ℕ) → write_fault edition f ws ≡ 0 → layout_for e ≡ layout_of edition → frame_for frame ≡ f → Sound (layout_for e) (frame_for frame) ws
held edition e frame f ws z h g = accepted_sound edition e h (frame_for frame) ws (ap (λ (x : Frame). write_fault edition x ws) g ∙ z)

pub header_number-requires : goal.header_number-requires
header_number-requires c =
    let a = c.args in
    let ws = a.words.now in
    let e = c.in_ok-e.e in
    let f = c.in_ok-e.frame in
    let h = c.in_ok-e.ensures in
    held_header (layout_for e) (frame_for f) ws (lawful_edition e.number) (held a.edition e f (frame_of a.width a.height a.layers) ws h.0 h.1 h.2) _ _ (count_is e ws) (omega arith)
    (header_is e f.width f.height f.layers (length ws / e.words))

pub put_records-requires-clause-by_index : goal.put_records-requires-clause-by_index
put_records-requires-clause-by_index c =
    let a = c.args in
    let ws = a.words.now in
    let e = c.in_ok-e.e in
    let f = c.in_ok-e.frame in
    let h = c.in_ok-e.ensures in
    λ i. held_each (layout_for e) (frame_for f) ws (lawful_edition e.number) (held a.edition e f (frame_of a.width a.height a.layers) ws h.0 h.1 h.2) _ i (count_is e ws)

pub returns : goal.returns
returns c =
    let a = c.args in
    let ws = a.words.now in
    let out = a.out.now in
    let e = c.in_ok-e.e in
    let f = c.in_ok-e.frame in
    let h = c.in_ok-e.ensures in
    let l = layout_for e in
    let room = subst (λ (n : ℕ). n ≤ length out) (sheet_size_lem e ws) c.if-out-size.false in
    let m = c.header_number.ensures ∙ ap (number (header_slots l)) (header_is e f.width f.height f.layers (length ws / e.words)) in
    let w = two_are l (lawful_edition e.number) (frame_for f) ws out room _ _ _ _ (count_is e ws) m c.put.ensures c.put_records.ensures in
    done_told a.edition (frame_of a.width a.height a.layers) ws out e h.1 h.0 c.if-out-size.false _ (w ∙ ap (λ (x : Frame). pasted 0 (written l x ws) out) h.2)
