use mathlib.Core.Path.{refl}
use native.Mathlib.Omega.{arith}
use Rattle.thin.proofs.Keeps.{given_missing, room_enough, given_kept, added_fits, added_listed}
use Rattle.thin.proofs.keep_some.Goals as goal

pub returns-in-Some : goal.returns-in-Some
returns-in-Some c = given_missing _ _ _ c.in-Some.ensures

pub arrange-requires-clause-from_le_to : goal.arrange-requires-clause-from_le_to
arrange-requires-clause-from_le_to c = (omega arith, added_fits _ _ _ _ _ _ _ c.thin_all-n.ensures (room_enough _ _ c.in_default.ensures))

pub arrange-requires-clause-listed : goal.arrange-requires-clause-listed
arrange-requires-clause-listed c = added_listed _ _ _ _ _ _ _ c.thin_all-n.ensures (room_enough _ _ c.in_default.ensures) _ refl

pub returns : goal.returns
returns c = given_kept _ _ _ _ _ _ _ c.thin_all-n.ensures (room_enough _ _ c.in_default.ensures) _ _ refl c.arrange.ensures
