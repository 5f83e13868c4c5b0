use mathlib.Core.Path.{sym, ◌∙◌}
use Rattle.detect_look.proofs.Hints.{unseen}
use Rattle.detect_cell.proofs.seen.Goals as goal

pub returns-else-mark : goal.returns-else-mark
returns-else-mark c = sym (unseen _ _ _ _ _ (sym c.requires.mark_value ∙ c.if-mark.false))
