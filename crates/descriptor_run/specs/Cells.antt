-- The cells of a patch that are read: those within the radius, of them the run of each row, and of these the cells in the grid (rules P5 to P7). Operation by operation as `compute_descriptor` of the source. Definitions only.
use Rattle.std.specs.Prelude.{ℕ, Bool, not, ◌&&◌, cond, List, [], ◌∷◌, ℤ, pos, ◌+ℤ◌, ◌-ℤ◌, Float}
use Rattle.std.specs.Int.Signed.{le_z}
use Rattle.std.specs.Float.Ieee.{neg}
use Rattle.ieee.specs.F32.{◌⊕◌, ◌⊖◌, ◌⊗◌, ◌⊘◌, ◌<ᶠ◌, floor_of, to_i32, float, float_z}
use Rattle.ieee.specs.Numbers.{nought, one, minus_one, three_halves, four}
use Rattle.lists.specs.Ranges.{joined}
use Rattle.picture.specs.Picture.{four_at, first_in, past_in}
use Rattle.bounds.specs.Bounds.{max_of, min_of}
use Rattle.descriptor_patch.specs.Patch.{grid_at, sample_at}
use Rattle.descriptor_patch.specs.declared.Patch.{Patch}
use Rattle.descriptor_patch.specs.declared.Sample.{Sample}
use Rattle.descriptor_run.specs.declared.Ends.{Ends}

-- The source's D is 4: D / 2 - 0.5 is `three_halves`.

-- `clip_j` (rule P6): the ends of a row's run are drawn in to the j with -1 < j × coef + off < 4
unfoldable pub clip_j : Float → Float → Ends → Ends
clip_j coef off e =
    cond (nought <ᶠ coef)
    (record { lo = max_of e.lo ((minus_one ⊖ off) ⊘ coef); hi = min_of e.hi ((four ⊖ off) ⊘ coef) })
    (cond (coef <ᶠ nought)
    (record { lo = max_of e.lo ((four ⊖ off) ⊘ coef); hi = min_of e.hi ((minus_one ⊖ off) ⊘ coef) })
    (cond ((minus_one <ᶠ off) && (off <ᶠ four)) e (record { lo = one; hi = nought })))

-- the ends of the run of row r, which lies i rows below the position
unfoldable pub ends_of : Patch → ℕ → Ends
ends_of t r =
    let i = float_z (pos r -ℤ pos t.py) in
    clip_j t.cos (neg i ⊗ t.sin ⊕ three_halves)
    (clip_j t.sin (i ⊗ t.cos ⊕ three_halves) (record { lo = neg (float t.radius); hi = float t.radius }))

-- j lies in the run, widened by one on each side (rule P7); no j lies in a run whose ends have crossed
unfoldable pub in_run : Ends → ℤ → Bool
in_run e j =
    not (e.hi <ᶠ e.lo)
    && (le_z (to_i32 (floor_of e.lo) -ℤ pos 1) j && le_z j (to_i32 (neg (floor_of (neg e.hi))) +ℤ pos 1))

-- the cell (r, c) is used: it lies in its row's run, and in the grid
unfoldable pub used_at : Patch → ℕ → ℕ → Bool
used_at t r c = in_run (ends_of t r) (pos c -ℤ pos t.px) && grid_at t r c

-- ---- the cells within the radius of the position, but not on the picture's edge, row by row (rule P5)

-- what is said of each used cell, joined in reading order
unfoldable pub over_cells {ℓ} : {A : Type ℓ} → Patch → (ℕ → ℕ → List A) → List A
over_cells t part =
    joined (first_in t.py t.radius) (past_in t.py t.radius t.size.height)
    (λ r. joined (first_in t.px t.radius) (past_in t.px t.radius t.size.width) (λ c. cond (used_at t r c) (part r c) []))

-- the samples of the patch
unfoldable pub samples_of : List Float → Patch → List Sample
samples_of img t = over_cells t (λ r c. sample_at img t r c ∷ [])

-- the four neighbours of each used cell: what is read
unfoldable pub reads_of : List Float → Patch → List Float
reads_of img t = over_cells t (four_at img t.size.width)
