-- The histogram of 6 × 6 cells of 10 slots: what a sample's shares add to it (rule P12). Operation by operation as `scatter` of the source. Definitions only.
use Rattle.std.specs.Prelude.{ℕ, ◌+◌, Bool, ◌&&◌, cond, List, [], ◌∷◌, leb, get_or, set, replicate, Float}
use Rattle.std.specs.Float.{nan}
use Rattle.ieee.specs.F32.{◌⊕◌}
use Rattle.ieee.specs.Numbers.{nought}
use Rattle.descriptor_values.specs.Places.{places, place}
use Rattle.descriptor_patch.specs.declared.Sample.{Sample}
use Rattle.descriptor_shares.specs.Sharing.{spread_of}
use Rattle.descriptor_shares.specs.declared.Spread.{Spread}

abbrev pub add_at : List Float → ℕ → Float → List Float
add_at h i a = set h i (get_or h i nan ⊕ a)

-- two slots side by side
unfoldable pub pair_at : List Float → ℕ → Float → Float → List Float
pair_at h i a b = add_at (add_at h i a) (i + 1) b

unfoldable pub when : Bool → List Float → ℕ → Float → Float → List Float
when t h i a b = cond t (pair_at h i a b) h

-- the outer ring, 0 and 5, takes nothing (rule P12)
unfoldable pub live : ℕ → Bool
live r = leb 1 r && leb r 4

-- the eight shares in the source's order; pairs of the outer ring are left out
unfoldable pub scattered : List Float → Spread → List Float
scattered h p =
    let r = p.row in
    let c = p.col in
    let o = p.slot in
    let s = p.shares in
    when (live (r + 1) && live (c + 1))
    (when (live (r + 1) && live c)
    (when (live r && live (c + 1))
    (when (live r && live c) h (place r c o) s.v000 s.v001)
    (place r (c + 1) o) s.v010 s.v011)
    (place (r + 1) c o) s.v100 s.v101)
    (place (r + 1) (c + 1) o) s.v110 s.v111

-- from an empty histogram, sample by sample
unfoldable pub gathered_in : Float → List Float → List Sample → List Float
gathered_in angle h [] = h
gathered_in angle h (s ∷ ss) = gathered_in angle (scattered h (spread_of angle s)) ss

unfoldable pub gathered : Float → List Sample → List Float
gathered angle ss = gathered_in angle (replicate places nought) ss
