-- An empty histogram gives zeros. Assumes nothing.
use Prim.Native.Nat.{ℕ, zero, suc, ◌+◌, ◌*◌, ◌/◌, ◌%◌, ◌<◌, ◌≤◌}
use mathlib.Core.Path.{◌≡◌, refl}
use mathlib.Core.Bool.{Bool, true, false, cond}
use mathlib.Core.List.{List}
use native.Mathlib.Omega.{arith}
use lib.Dec.{eqb}
use lib.ListN.{get_or, replicate, get_or-replicate}
use lib.Ieee.{Float, nan, of_bits, add, mul, div, lt, le, eq}
use Rattle.ieee.specs.F32.{◌⊕◌, ◌⊗◌, ◌⊘◌, fused, root_of, rounded}
use Rattle.ieee.specs.Fused.{fma}
use Rattle.ieee.specs.Root.{sqrt}
use Rattle.ieee.specs.Whole.{round_even}
use Rattle.ieee.specs.Numbers.{nought, epsilon, top_byte}
use Rattle.bounds.specs.Bounds.{max_of, min_of, clamp_of}
use Rattle.params.specs.Limits.{value_count}
use Rattle.descriptor_values.specs.Places.{places, place, bins}
use Rattle.descriptor_values.specs.Values.{clamp_ratio, factor, at, folded_at, raw_of, lane, norm2, clamped, plain_norm, scale_of, finished, values_of}
use Rattle.descriptor_laws.proofs.Lists.{up_to_same}

abbrev empty : List Float
empty = replicate places nought

abbrev none : List Float
none = replicate value_count nought

sum_none : nought ⊕ nought ≡ nought
unfolding of_bits add
sum_none = refl

fused_none : fused nought nought nought ≡ nought
unfolding of_bits fma
fused_none = refl

plain_none : nought ⊕ nought ⊗ nought ≡ nought
unfolding of_bits add mul
plain_none = refl

limit_none : root_of nought ⊗ clamp_ratio ≡ nought
unfolding of_bits sqrt mul
limit_none = refl

min_none : min_of nought nought ≡ nought
unfolding min_of of_bits le eq
min_none = refl

finish_none : clamp_of (rounded (nought ⊗ (factor ⊘ max_of (root_of nought) epsilon))) nought top_byte ≡ nought
unfolding clamp_of max_of of_bits sqrt le lt eq div mul round_even
finish_none = refl

at_empty : (i : ℕ) → i < places → get_or empty i nan ≡ nought
at_empty i h = get_or-replicate places i nought nan h

at_none : (n : ℕ) → n < value_count → at none n ≡ nought
at_none n h = get_or-replicate value_count n nought nan h

folded_none : (n : ℕ) → n < value_count → folded_at empty (n / 32) (n / 8 % 4) (n % 8) ≡ nought
unfolding folded_at
folded_none n h = go (eqb (n % 8) 0)
  where
    go : (b : Bool) → cond b (get_or empty (place (n / 32 + 1) (n / 8 % 4 + 1) 0) nan ⊕ get_or empty (place (n / 32 + 1) (n / 8 % 4 + 1) 0 + bins) nan) (get_or empty (place (n / 32 + 1) (n / 8 % 4 + 1) 0 + n % 8) nan) ≡ nought
    go true = rw (at_empty (place (n / 32 + 1) (n / 8 % 4 + 1) 0) (omega arith), at_empty (place (n / 32 + 1) (n / 8 % 4 + 1) 0 + bins) (omega arith)) sum_none
    go false = at_empty (place (n / 32 + 1) (n / 8 % 4 + 1) 0 + n % 8) (omega arith)

raw_none : raw_of empty ≡ none
unfolding raw_of
raw_none = up_to_same (λ n. folded_at empty (n / 32) (n / 8 % 4) (n % 8)) value_count nought folded_none

lane_none : (l n : ℕ) → l < 4 → n ≤ 32 → lane none l n ≡ nought
unfolding lane
lane_none l zero a b = refl
lane_none l (suc n) a b = rw (lane_none l n a (omega arith), at_none (4 * n + l) (omega arith)) fused_none

norm_none : norm2 none ≡ nought
unfolding norm2
norm_none = rw (lane_none 0 32 (omega arith) (omega arith), lane_none 1 32 (omega arith) (omega arith), lane_none 2 32 (omega arith) (omega arith), lane_none 3 32 (omega arith) (omega arith), sum_none, sum_none)

clamped_none : clamped none ≡ none
unfolding clamped
clamped_none = up_to_same (λ n. min_of (at none n) (root_of (norm2 none) ⊗ clamp_ratio)) value_count nought (λ n h. rw (norm_none, limit_none, at_none n h) min_none)

sum_of_none : (n : ℕ) → n ≤ value_count → plain_norm none n ≡ nought
unfolding plain_norm
sum_of_none zero h = refl
sum_of_none (suc n) h = rw (sum_of_none n (omega arith), at_none n (omega arith)) plain_none

finished_none : finished none ≡ none
unfolding finished scale_of
finished_none = up_to_same (λ n. clamp_of (rounded (at none n ⊗ (factor ⊘ max_of (root_of (plain_norm none value_count)) epsilon))) nought top_byte) value_count nought (λ n h. rw (sum_of_none value_count (omega arith), at_none n h) finish_none)

pub zeros : values_of empty ≡ none
unfolding values_of
zeros = rw (raw_none, clamped_none, finished_none)
