-- The patch about a position, and its values put into a list from the front. Assumes nothing.
use Prim.Native.Nat.{ℕ, ◌+◌, ◌<◌, ◌≤◌}
use mathlib.Core.Path.{◌≡◌, refl, sym, ap, ◌∙◌}
use mathlib.Core.Bool.{true}
use mathlib.Core.List.{List, map}
use native.Mathlib.Numerals.{add-one}
use lib.ListN.{length, get_or, take, set, replicate, length-map, get_or-map}
use lib.Seq.{take-suc, take-suc-set, take_all}
use lib.Ieee.{Float, nan, of_bits}
use Rattle.ieee.specs.F32.{bits_of}
use Rattle.ieee.specs.Numbers.{nought, whole_turn}
use Rattle.hal_turn.specs.Turn.{in_turn}
use Rattle.params.specs.Table.{within}
use Rattle.picture.specs.declared.Size.{Size}
use Rattle.descriptor_patch.specs.Patch.{patch_of}
use Rattle.descriptor_patch.specs.declared.Patch.{Patch}
use Rattle.descriptor_run.specs.Cells.{samples_of}
use Rattle.descriptor_grid.specs.Grid.{gathered_in, gathered}
use Rattle.descriptor_values.specs.Places.{places}
use Rattle.descriptor_values.specs.Values.{values_of}
use Rattle.descriptor_words.specs.Words.{turn_at, values_at, words_at}
use Rattle.picture.specs.declared.Spot.{Spot}

pub in_turn_lem : (angle : Float) → within nought whole_turn angle ≡ true → in_turn angle ≡ true
unfolding of_bits
in_turn_lem angle e = e

-- the patch is turned by the angle that is asked
pub turn_angle : (s : Size) (p : Spot) → (turn_at s p).angle ≡ p.angle
unfolding turn_at patch_of
turn_angle s p = refl

-- ---- a list filled from the front with the bits of another's elements
pub put_more : (v : List Float) (out : List ℕ) (n b : ℕ) → n < length v → n < length out → b ≡ bits_of (get_or v n nan) → take n out ≡ take n (map bits_of v)
    → take (n + 1) (set out n b) ≡ take (n + 1) (map bits_of v)
put_more v out n b h k q e =
    rw (add-one, take-suc-set out n b k, take-suc (map bits_of v) n (bits_of nan) (rw length-map h), e, get_or-map bits_of v n nan, q)

pub put_all : (v : List Float) (out : List ℕ) (n : ℕ) → length v ≤ n → length out ≤ n → take n out ≡ take n (map bits_of v) → out ≡ map bits_of v
put_all v out n h k e = sym (take_all n out k) ∙ e ∙ take_all n (map bits_of v) (rw length-map h)

-- ---- the values of what was gathered
pub filled : (img : List Float) (s : Size) (p : Spot) (t : Patch) (hist v : List Float) (out : List ℕ) → t ≡ turn_at s p
    → hist ≡ gathered_in t.angle (replicate places nought) (samples_of img t) → v ≡ values_of hist → out ≡ map bits_of v → out ≡ words_at img s p
unfolding words_at values_at gathered
filled img s p t hist v out a b c d = d ∙ ap (map bits_of) c ∙ rw (b, a, turn_angle s p)
