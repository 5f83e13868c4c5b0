use mathlib.Core.Path.{sym, ◌∙◌, subst}
use Rattle.descriptor_shares.specs.Reach.{Inside}
use Rattle.descriptor_shares.proofs.Spreads.{turn_near, row_fits, col_fits, spread_split, spread_inside}
use Rattle.descriptor_shares.proofs.spread_of.Goals as goal

pub split_of-o-requires : goal.split_of-o-requires
split_of-o-requires c =
    let s = c.args.l.sample in
    let h = c.requires.lands in
    rw c.angle_in.ensures (turn_near s.dx s.dy c.args.angle h.slopes h.turn)

pub overflow_add-result : goal.overflow_add-result
overflow_add-result c =
    record { fits = row_fits c.args.angle c.args.l c.requires }

pub overflow_add-result-2 : goal.overflow_add-result-2
overflow_add-result-2 c =
    record { fits = col_fits c.args.angle c.args.l c.requires }

pub returns : goal.returns
returns c =
    let h = c.requires in
    let k =
    spread_split c.args.angle c.args.l h c.split_of-o.result c.shares_of.result (c.split_of-o.ensures ∙ rw c.angle_in.ensures)
    (c.shares_of.ensures ∙ rw (c.magnitude_in.ensures, c.exp_in.ensures)) in
    (k, subst Inside (sym k) (spread_inside c.args.angle c.args.l.sample h.lands))
