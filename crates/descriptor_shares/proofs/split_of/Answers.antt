use Rattle.descriptor_shares.proofs.Floors.{Parted, parted_up, parted_down, split_parted, split_number}
use Rattle.descriptor_shares.proofs.split_of.Goals as goal
use Rattle.descriptor_shares.proofs.split_of.Goals.{Joined-v-near, then-v-near, else-v-near}

parted_of : (c : Joined-v-near) → Parted c.args.v c.if-v-near.one
parted_of c =
    let v = c.args.v in
    let n = c.requires in
    elim c.if-v-near.branch [
      | then-v-near w ↦ rw w.one-is (parted_up v n w.if-v-near.true)
      | else-v-near w ↦ rw w.one-is (parted_down v n w.if-v-near.false)
    ]

pub float_to_bits-result : goal.float_to_bits-result
float_to_bits-result c = rw (parted_of c).whole (split_number c.args.v c.requires)

pub returns : goal.returns
returns c = split_parted c.args.v c.if-v-near.one (parted_of c)
