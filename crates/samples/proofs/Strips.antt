-- An area whose samples are good with those round it: the four neighbours of each of its cells are. Assumes nothing.
use Prim.Native.Nat.{ℕ, ◌+◌, ◌-◌, ◌*◌, ◌<◌, ◌≤◌}
use mathlib.Core.Path.{◌≡◌, sym, ap, ◌∙◌}
use mathlib.Core.Bool.{Bool, true, ◌&&◌}
use mathlib.Core.List.{List}
use native.Mathlib.Nat.{mul-le-mul_right, suc-mul}
use native.Mathlib.Omega.{arith}
use lib.ListN.{length}
use lib.Ieee.{Float}
use Rattle.lists.specs.Ranges.{every}
use Rattle.lists.proofs.Every.{every_none, every_step, every_to, every_all}
use Rattle.params.specs.Table.{all_good}
use Rattle.picture.specs.Picture.{four_at}
use Rattle.samples.specs.Samples.{good_from}
use Rattle.samples.specs.Area.{Inset, strip_good, area_good}
use Rattle.samples.specs.declared.Area.{Area}
use Rattle.picture.specs.declared.Size.{Size}
use Rattle.samples.proofs.Runs.{good_cross}

-- a strip lies in the picture
pub strip_end : {len : ℕ} {s : Size} {a : Area} (r : ℕ) → Inset len s a → r < s.height → r * s.width + (a.right + 1) ≤ len
strip_end {s = s} r f h = omega (arith, f, mul-le-mul_right s.width h, suc-mul r s.width)

pub strip_none : (first : ℕ) (test : ℕ → Bool) → true ≡ every (first - first) test
strip_none first test = let z : first - first ≡ 0 = omega arith in sym (every_to test z ∙ every_none test)

-- a tested strip more, of those from row `first` on
pub strip_more : (img : List Float) (w from to first r : ℕ) (ok b : Bool) → first ≤ r → ok ≡ every (r - first) (λ i. strip_good img w from to (first + i)) → b ≡ good_from (r * w + from) (r * w + to) img
    → (ok && b) ≡ every (r + 1 - first) (λ i. strip_good img w from to (first + i))
unfolding strip_good
strip_more img w from to first r ok b h p q =
    let test : ℕ → Bool = λ i. good_from ((first + i) * w + from) ((first + i) * w + to) img in
    let y : first + (r - first) ≡ r = omega arith in
    let z : (r - first) + 1 ≡ r + 1 - first = omega arith in
    let e : test (r - first) ≡ b = ap (λ (k : ℕ). good_from (k * w + from) (k * w + to) img) y ∙ sym q in
    rw (p, ← e) (every_step (r - first) test ∙ every_to test z)

-- where it says yes, the four neighbours of each cell of the area are good
pub area_four : (img : List Float) (s : Size) (a : Area) → Inset (length img) s a → area_good img s.width a ≡ true
    → (r c : ℕ) → a.top ≤ r → r < a.bottom → a.left ≤ c → c < a.right → all_good (four_at img s.width r c) ≡ true
unfolding area_good strip_good
area_four img s a f g r c l m n o =
    let strip : ℕ → Bool = strip_good img s.width (a.left - 1) (a.right + 1) in
    let each : (y k : ℕ) → a.top - 1 + k ≡ y → k < a.bottom + 2 - a.top → strip y ≡ true = λ y k z h. rw (← z) (every_all (a.bottom + 2 - a.top) (λ i. strip (a.top - 1 + i)) g k h) in
    good_cross img s (a.left - 1) (a.right + 1) r c (record { whole = f.whole; up = omega (arith, f); down = omega (arith, f); left = omega (arith, f); right = omega (arith, f) }) f.right (omega (arith, f)) (omega arith)
    (each (r - 1) (r - a.top) (omega (arith, f)) (omega arith)) (each r (r + 1 - a.top) (omega (arith, f)) (omega arith)) (each (r + 1) (r + 2 - a.top) (omega (arith, f)) (omega arith))
