use Rattle.std.proofs.Common.{◌≡◌, ◌+◌}
use Rattle.lists.specs.Ranges.{every}
use Rattle.params.specs.Table.{all_good}
use Rattle.picture.specs.Picture.{four_at}
use Rattle.orient_window.proofs.row_good.Given as goal

abbrev pub invariant-loop-j : goal.invariant-loop-j
invariant-loop-j l = l.ok ≡ every l.j (λ k. all_good (four_at l.img l.win.size.width l.y (l.win.left + k)))
