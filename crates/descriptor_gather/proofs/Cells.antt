-- A cell whose row and column are tested one after the other. Assumes nothing.
use Prim.Native.Nat.{ℕ}
use mathlib.Core.Path.{◌≡◌, sym, ap, ◌∙◌}
use mathlib.Core.Bool.{Bool, true, false}
use mathlib.Core.List.{List}
use lib.Ieee.{Float}
use Rattle.lists.proofs.Bools.{and_false}
use Rattle.params.specs.Table.{all_good}
use Rattle.picture.specs.Picture.{four_at}
use Rattle.hal_turn.specs.Turn.{in_turn}
use Rattle.descriptor_patch.specs.Patch.{rots_of, bin_of, in_grid, grid_at, sample_at}
use Rattle.descriptor_patch.specs.declared.Patch.{Patch}
use Rattle.descriptor_patch.specs.declared.Sample.{Sample}
use Rattle.descriptor_patch.proofs.Rules.{fair}
use Rattle.descriptor_shares.specs.Reach.{split_of, Settled}
use Rattle.descriptor_shares.specs.declared.Split.{Split}

-- x is how far the cell lies along one side of the turned patch, b its place in the grid, and g whether it lies in it
pub record Tested (rot x b : Float) (g : Bool) : Type 0 where
  pub is : x ≡ rot
  pub bin : b ≡ bin_of x
  pub test : g ≡ in_grid b

pub bin_is : {rot x b : Float} {g : Bool} → Tested rot x b g → b ≡ bin_of rot
bin_is e = e.bin ∙ ap bin_of e.is

pub in_is : {rot x b : Float} {g : Bool} → Tested rot x b g → in_grid (bin_of rot) ≡ g
in_is e = ap in_grid (sym (bin_is e)) ∙ sym e.test

module _ (t : Patch) (r c : ℕ) {x b : Float} {g : Bool} (row : Tested (rots_of t r c).row x b g) where
  pub grid_above : g ≡ false → grid_at t r c ≡ false
  unfolding grid_at
  grid_above e = rw (in_is row, e)

  module _ {y d : Float} {h : Bool} (col : Tested (rots_of t r c).col y d h) where
    pub grid_beside : h ≡ false → grid_at t r c ≡ false
    unfolding grid_at
    grid_beside e = rw (in_is col, e) (and_false (in_grid (bin_of (rots_of t r c).row)))

    pub grid_in : g ≡ true → h ≡ true → grid_at t r c ≡ true
    unfolding grid_at
    grid_in e f = rw (in_is row, in_is col, e, f)

    pub settled : (img : List Float) (s : Sample) (i j : Split) → in_turn t.angle ≡ true → grid_at t r c ≡ true → all_good (four_at img t.size.width r c) ≡ true
        → s ≡ sample_at img t r c → i ≡ split_of b → j ≡ split_of d → Settled t.angle (record { sample = s; row = i; col = j })
    unfolding sample_at
    settled img s i j a k m e p q =
        let f = fair img t r c k m in
        let u = p ∙ ap split_of (bin_is row) in
        let v = q ∙ ap split_of (bin_is col) in
        rw e (record { lands = record { row = f.row; col = f.col; turn = a; slopes = f.slopes }; fall = f.fall; row = u; col = v })
