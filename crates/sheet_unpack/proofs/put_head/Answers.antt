use Prim.Native.Nat.{ℕ, ◌^◌, ◌<◌}
use native.Mathlib.Omega.{arith}
use lib.ListN.{get_or}
use Rattle.sheet.proofs.Lawful.{lawful_edition}
use Rattle.sheet_edition.specs.Edition.{layout_for}
use Rattle.sheet_edition.specs.declared.Edition.{Edition}
use Rattle.sheet_fields.specs.Fields.{head_values, HeadFits}
use Rattle.sheet_fields.specs.declared.Head.{Head}
use Rattle.sheet_unpack.proofs.Taken.{head_word, part_set}
use Rattle.sheet_unpack.proofs.put_head.Goals as goal

room : (e : Edition) (h : Head) → HeadFits (layout_for e) h → (i : ℕ) → get_or (head_values h) i 0 < 2 ^ 32
room e h f i = head_word (layout_for e) (lawful_edition e.number) h f i

pub overflow_cast-h : goal.overflow_cast-h
overflow_cast-h c = record { fits = room c.args.e c.args.h c.requires.head_fits 0 }

pub overflow_cast-h-2 : goal.overflow_cast-h-2
overflow_cast-h-2 c = record { fits = room c.args.e c.args.h c.requires.head_fits 1 }

pub overflow_cast-h-3 : goal.overflow_cast-h-3
overflow_cast-h-3 c = record { fits = room c.args.e c.args.h c.requires.head_fits 2 }

pub overflow_cast-h-4 : goal.overflow_cast-h-4
overflow_cast-h-4 c = record { fits = room c.args.e c.args.h c.requires.head_fits 3 }

pub overflow_cast-h-5 : goal.overflow_cast-h-5
overflow_cast-h-5 c = record { fits = room c.args.e c.args.h c.requires.head_fits 4 }

pub returns : goal.returns
returns c = part_set c.args.to _ c.args.out.now _ _ c.copy_from_slice.ensures.after (omega arith)
