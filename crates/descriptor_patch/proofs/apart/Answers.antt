use Rattle.std.proofs.Common.{◌≡◌, ℕ, suc, ◌-◌, ◌^◌, ◌≤◌, T, pos, ◌-ℤ◌, ap, ⊎_elim, arith, le→leb, lt→ltb, w32, SFits, to_z, of_z}
use lib.Ieee.{binary32, of_int, in_float}
use mir.ValLaws.{to_z_pos, to_z-of_z}
use Rattle.lists.proofs.Naturals.{le_or_lt}
use Rattle.picture.proofs.Apart.{diff_up, diff_down, mag_diff}
use Rattle.params.specs.Limits.{max_side}
use Rattle.descriptor_patch.proofs.apart.Goals as goal

small : (a b : ℕ) → a ≤ max_side → b ≤ max_side → SFits w32 (pos a -ℤ pos b)
small a b h k = record { sfits = mag_diff a b (2 ^ 31) (omega arith) (omega arith) }

held_diff : (a b : ℕ) → a ≤ max_side → b ≤ max_side → T (in_float binary32 (pos a -ℤ pos b))
unfolding in_float
held_diff a b h k =
    ⊎_elim
    (λ l. rw (diff_up a b l) (le→leb (a - b) (2 ^ 24) (omega arith)))
    (λ l. rw (diff_down a b l) (lt→ltb (b - suc a) (2 ^ 24) (omega arith)))
    (le_or_lt b a)

-- what the code computes with
is : (a b : ℕ) → a ≤ max_side → b ≤ max_side → to_z w32 (of_z w32 (to_z w32 a -ℤ to_z w32 b)) ≡ pos a -ℤ pos b
is a b h k = rw (to_z_pos w32 a (omega arith), to_z_pos w32 b (omega arith)) (to_z-of_z w32 (pos a -ℤ pos b) (small a b h k))

pub overflow_sub-result : goal.overflow_sub-result
overflow_sub-result c = let a = c.args.a in let b = c.args.b in rw (to_z_pos w32 a (omega arith), to_z_pos w32 b (omega arith)) (small a b c.requires.0 c.requires.1)

pub int_to_float-result : goal.int_to_float-result
int_to_float-result c = let a = c.args.a in let b = c.args.b in rw (is a b c.requires.0 c.requires.1) (held_diff a b c.requires.0 c.requires.1)

pub returns : goal.returns
returns c = ap (of_int binary32) (is c.args.a c.args.b c.requires.0 c.requires.1)
