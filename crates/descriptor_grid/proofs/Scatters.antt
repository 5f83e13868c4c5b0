-- The four pairs of a spread, with the tests and places that the code has. Assumes nothing.
use Prim.Native.Nat.{ℕ, ◌+◌, ◌≤◌}
use mathlib.Core.Path.{◌≡◌, refl, sym, ◌∙◌}
use mathlib.Core.Bool.{Bool, true, false, ◌&&◌}
use mathlib.Core.List.{List}
use native.Mathlib.Omega.{arith}
use borrow.Author.Tests.{le-leb, leb-true, leb-false, lt-leb}
use lib.Dec.{leb}
use lib.Ieee.{Float}
use Rattle.lists.proofs.Bools.{and_true}
use Rattle.descriptor_values.specs.Places.{slots, row_places, place}
use Rattle.descriptor_grid.specs.Grid.{live, pair_at, when, scattered}
use Rattle.descriptor_shares.specs.Reach.{Inside}
use Rattle.descriptor_shares.specs.declared.Spread.{Spread}

-- a row or column that a spread has, and the next one
live_here : (r : ℕ) → r ≤ 4 → live r ≡ leb 1 r
unfolding live
live_here r h = rw (le-leb r 4 h) (and_true (leb 1 r))

live_next : (r : ℕ) → r ≤ 4 → live (r + 1) ≡ leb r 3
unfolding live
live_next r h = let a : leb 1 (r + 1) ≡ true = le-leb 1 (r + 1) (omega arith) in rw a (go (leb r 3) refl)
  where
    go : (b : Bool) → leb r 3 ≡ b → leb (r + 1) 4 ≡ leb r 3
    go true e = let l = leb-true r 3 e in le-leb (r + 1) 4 (omega arith) ∙ sym e
    go false e = let l = leb-false r 3 e in lt-leb (r + 1) 4 (omega arith) ∙ sym e

-- what is put in where a test holds
pub when_put : {t : Bool} (h : List Float) (i : ℕ) (a b : Float) {h1 h2 : List Float} → t ≡ true → h1 ≡ h → h2 ≡ pair_at h1 i a b → h2 ≡ when t h i a b
unfolding when
when_put h i a b e p q = rw (e, ← p) q

pub when_left : {t : Bool} (h : List Float) (i : ℕ) (a b : Float) {h1 : List Float} → t ≡ false → h1 ≡ h → h1 ≡ when t h i a b
unfolding when
when_left h i a b e p = rw e p

-- the pairs of one row of the grid at i, of a spread at column c
abbrev pub in_row : List Float → ℕ → ℕ → Float → Float → Float → Float → List Float
in_row h i c v00 v01 v10 v11 = when (leb c 3) (when (leb 1 c) h i v00 v01) (i + slots) v10 v11

-- the same where a test of the row holds besides
abbrev pub row_when : Bool → List Float → ℕ → ℕ → Float → Float → Float → Float → List Float
row_when t h i c v00 v01 v10 v11 = when (t && leb c 3) (when (t && leb 1 c) h i v00 v01) (i + slots) v10 v11

pub row_put : {t : Bool} (h : List Float) (i c : ℕ) (v00 v01 v10 v11 : Float) {h1 h2 : List Float} → t ≡ true → h1 ≡ h → h2 ≡ in_row h1 i c v00 v01 v10 v11 → h2 ≡ row_when t h i c v00 v01 v10 v11
row_put h i c v00 v01 v10 v11 e p q = rw (e, ← p) q

pub row_left : {t : Bool} (h : List Float) (i c : ℕ) (v00 v01 v10 v11 : Float) {h1 : List Float} → t ≡ false → h1 ≡ h → h1 ≡ row_when t h i c v00 v01 v10 v11
unfolding when
row_left h i c v00 v01 v10 v11 e p = rw e p

pub four : (p : Spread) (h : List Float) {h1 h2 : List Float} → Inside p
    → h1 ≡ row_when (leb 1 p.row) h (place p.row p.col p.slot) p.col p.shares.v000 p.shares.v001 p.shares.v010 p.shares.v011
    → h2 ≡ row_when (leb p.row 3) h1 (place p.row p.col p.slot + row_places) p.col p.shares.v100 p.shares.v101 p.shares.v110 p.shares.v111
    → h2 ≡ scattered h p
unfolding scattered
four p h i e1 e2 =
    let r = p.row in
    let c = p.col in
    let o = p.slot in
    let x : place r (c + 1) o ≡ place r c o + slots = omega arith in
    let y : place (r + 1) c o ≡ place r c o + row_places = omega arith in
    let z : place (r + 1) (c + 1) o ≡ place r c o + row_places + slots = omega arith in
    let a = live_here r i.row in
    let b = live_next r i.row in
    let d = live_here c i.col in
    let e = live_next c i.col in
    rw (x, y, z) (cc)
