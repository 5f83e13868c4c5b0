use native.Mathlib.Omega.{arith}
use Rattle.sheet.specs.Pack.{Bytes}
use Rattle.sheet.proofs.Lawful.{lawful_edition, angled_edition}
use Rattle.sheet_edition.specs.Edition.{layout_for}
use Rattle.sheet_edition.proofs.Layouts.{size_is}
use Rattle.sheet_unpack.proofs.Taken.{got_fits, floats_are}
use Rattle.sheet_unpack.proofs.floats_in.Goals as goal

pub get-requires : goal.get-requires
get-requires c = omega (arith, size_is c.args.e)

pub get-requires-2 : goal.get-requires-2
get-requires-2 c = omega (arith, size_is c.args.e)

pub get-requires-3 : goal.get-requires-3
get-requires-3 c = omega (arith, size_is c.args.e)

pub get-requires-4 : goal.get-requires-4
get-requires-4 c = omega (arith, size_is c.args.e)

pub get-requires-5 : goal.get-requires-5
get-requires-5 c = omega (arith, size_is c.args.e)

pub returns-clause-bytes_value : goal.returns-clause-bytes_value
returns-clause-bytes_value c =
    let e = c.args.e in
    let bs = c.args.bytes.now in
    let z = size_is e in
    let g : Bytes bs = (λ i. (c.type_inv.bytes i).fits) in
    let x = c.get.ensures in
    let y = c.get-2.ensures in
    let size = c.get-3.ensures in
    let response = c.get-4.ensures in
    let angle = c.get-5.ensures in
    floats_are (layout_for e) (lawful_edition e.number) (angled_edition e.number) bs c.requires g _ x y size response angle

pub returns-clause-floats_fit : goal.returns-clause-floats_fit
returns-clause-floats_fit c =
    let e = c.args.e in
    let bs = c.args.bytes.now in
    let z = size_is e in
    let g : Bytes bs = (λ i. (c.type_inv.bytes i).fits) in
    let x = c.get.ensures in
    let y = c.get-2.ensures in
    let size = c.get-3.ensures in
    let response = c.get-4.ensures in
    let angle = c.get-5.ensures in
    record {
      x = got_fits bs 6 _ g (omega arith) x;
      y = got_fits bs 10 _ g (omega arith) y;
      size = got_fits bs 14 _ g (omega arith) size;
      response = got_fits bs 18 _ g (omega arith) response;
      angle = got_fits bs 22 _ g (omega arith) angle;
    }
