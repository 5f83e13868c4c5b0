use mathlib.Core.Path.{◌≡◌, ap, ◌∙◌}
use Prim.Native.Nat.{ℕ, ◌+◌, ◌-◌, ◌*◌, ◌<◌, ◌≤◌}
use native.Mathlib.Omega.{arith}
use borrow.Author.Rules.{rules}
use mathlib.Core.List.{List}
use lib.ListN.{length, get_or, take, drop, length-take}
use lib.Seq.{get_or-take, get_or-drop}
use Rattle.sheet.specs.Pack.{value}
use Rattle.sheet.proofs.Cut.{get_value, get_lt, get_fits}
use Rattle.sheet_fields.proofs.get.Goals as goal

-- a place of the part that is read is one of the whole
inside : (bs : List ℕ) (at k i : ℕ) → i < length (take (at + k - at) (drop at bs)) → i < k
inside bs at k i h = let l = simp length-take at h in omega arith

byte_is : (bs : List ℕ) (at k i : ℕ) → i < k → get_or (take (at + k - at) (drop at bs)) i 0 ≡ get_or bs (at + i) 0
byte_is bs at k i h = get_or-take (at + k - at) (drop at bs) i 0 (omega arith) ∙ get_or-drop at bs i 0

pub loop-b-init : goal.loop-b-init
unfolding value
loop-b-init c = search rules

pub overflow_mul-acc : goal.overflow_mul-acc
overflow_mul-acc c =
    let l = c.loop-b in
    let i = inside c.args.bytes.now c.args.at c.args.k l.b-index c.loop-b-test.true in
    omega (arith, get_fits l.acc l.b-index l.invariant.1 (omega arith))

pub overflow_add-acc : goal.overflow_add-acc
overflow_add-acc c =
    let l = c.loop-b in
    let i = inside c.args.bytes.now c.args.at c.args.k l.b-index c.loop-b-test.true in
    omega (arith, get_fits l.acc l.b-index l.invariant.1 (omega arith), c.type_inv.bytes (c.args.at + l.b-index), byte_is c.args.bytes.now c.args.at c.args.k l.b-index i)

pub loop-b-preserved : goal.loop-b-preserved
loop-b-preserved c =
    let l = c.loop-b in
    let bs = c.args.bytes.now in
    let i = inside bs c.args.at c.args.k l.b-index c.loop-b-test.true in
    let r : c.from.result ≡ get_or bs (c.args.at + l.b-index) 0 = c.from.ensures ∙ byte_is bs c.args.at c.args.k l.b-index i in
    let b : c.from.result < 256 = omega (arith, r, c.type_inv.bytes (c.args.at + l.b-index)) in
    let e = get_value bs c.args.at l.b-index (omega arith) in
    let q : l.acc * 256 + c.from.result ≡ value (take l.b-index (drop c.args.at bs)) * 256 + get_or bs (c.args.at + l.b-index) 0 = cc in
    (q ∙ e, get_lt l.acc c.from.result l.b-index l.invariant.1 b)
