use mathlib.Core.Bool.{◌&&◌}
use borrow.Author.Rules.{rules}
use mathlib.Core.Path.{◌≡◌}
use lib.Dec.{leb}
use Rattle.sheet.specs.Pack.{sound}
use Rattle.sheet.specs.Layout.{least_positive, largest_finite}
use Rattle.sheet.proofs.Lawful.{angled_edition}
use Rattle.sheet_fields.proofs.Ranges.{is_up_to, all_five}
use Rattle.sheet_fields.proofs.floats_right.Goals as goal

pub returns : goal.returns
unfolding sound
returns c =
    let f = c.args.f in
    let size : c.contains.result ≡ (leb least_positive f.size && leb f.size largest_finite) = search rules in
    rw (angled_edition c.args.e.number) (all_five (is_up_to _ f.x) (is_up_to _ f.y) size (is_up_to _ f.response) (is_up_to _ f.angle))
