-- How many cells of a run have a hint, one more cell at a time, and that they give no more keypoints than that. Assumes nothing.
use Rattle.std.specs.Int.{from_bool}
use Prim.Native.Nat.{ℕ, ◌+◌, ◌-◌, ◌*◌, ◌≤◌}
use mathlib.Core.Path.{◌≡◌, refl}
use mathlib.Core.Bool.{Bool, true, false, cond}
use mathlib.Core.List.{List, [], ◌∷◌}
use native.Mathlib.Nat.{mul-one}
use native.Mathlib.Omega.{arith}
use lib.ListN.{length, length-append}
use lib.Ieee.{Float}
use Rattle.lists.proofs.Both.{joined_shorter}
use Rattle.lists.proofs.Ranges.{joined_start, joined_more, joined_bound}
use Rattle.picture.specs.declared.Shape.{Shape}
use Rattle.detect_keypoint.specs.declared.Search.{Search}
use Rattle.detect_extrema.specs.Neighbours.{tied}
use Rattle.detect_extrema.specs.Scan.{cells_of}
use Rattle.detect_look.specs.Hints.{hint_at, hinted}
use Rattle.detect_look.proofs.Hints.{found_hinted}

one_length : (b : Bool) (c : ℕ) → length (cond b (c ∷ []) []) ≡ from_bool b
one_length true c = refl
one_length false c = refl

one_bound : (b : Bool) (c : ℕ) → length (cond b (c ∷ []) []) ≤ 1
one_bound true c = omega arith
one_bound false c = omega arith

pub one_few : (b : Bool) (x : ℕ) → x ≡ from_bool b → x ≤ 1
one_few true x e = omega arith
one_few false x e = omega arith

module _ (d : List Float) (t : Shape) (s : Search) (r lo : ℕ) where
  abbrev look : ℕ → Bool
  look c = hint_at s.threshold d t s.layer r c

  abbrev columns : ℕ → List ℕ
  columns c = cond (look c) (c ∷ []) []

  pub hinted_none : 0 ≡ length (hinted d t s r lo lo)
  unfolding hinted
  hinted_none = rw (joined_start lo columns)

  pub hinted_more : (c n x : ℕ) (b : Bool) → lo ≤ c → n ≡ length (hinted d t s r lo c) → x ≡ from_bool b → b ≡ look c → n + x ≡ length (hinted d t s r lo (c + 1))
  unfolding hinted
  hinted_more c n x b o e f g =
      rw (joined_more lo c columns o, length-append, one_length (look c) c, ← g, f, e)

  pub hinted_bound : (hi : ℕ) → length (hinted d t s r lo hi) ≤ hi - lo
  unfolding hinted
  hinted_bound hi =
      let e : (hi - lo) * 1 ≡ hi - lo = mul-one (hi - lo) in
      omega (arith, joined_bound 1 lo hi columns (λ c. one_bound (look c) c))

  -- they give no more keypoints than that
  pub cells_hinted : (hi : ℕ) → length (cells_of tied d t s r lo hi) ≤ length (hinted d t s r lo hi)
  unfolding hinted
  cells_hinted hi = joined_shorter lo hi _ columns (λ c _ _. found_hinted d t s r c)
