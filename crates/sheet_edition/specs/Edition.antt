-- Inner: the layout of an edition. Definitions only.
use Rattle.sheet.specs.Layout.{Layout, layout_of}
use Rattle.sheet_edition.specs.declared.Edition.{Edition}

-- the layout that an edition has by its number
abbrev pub layout_for : Edition → Layout
layout_for e = layout_of e.number
