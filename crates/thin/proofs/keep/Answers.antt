use Rattle.thin.proofs.Keeps.{whole_short, whole_done}
use mathlib.Core.Path.{refl}
use native.Mathlib.Omega.{arith}
use Rattle.thin.proofs.keep.Goals as goal

pub returns-then-out-n : goal.returns-then-out-n
returns-then-out-n c = whole_short _ _ _ _ _ refl c.requires.le_q.1 (omega arith) _ c.if-out-n.true

pub returns : goal.returns
returns c = whole_done _ _ _ _ _ refl c.requires.le_q.1 (omega arith) _ _ (omega arith) c.list_all.ensures.beside c.list_all.ensures.by_index
