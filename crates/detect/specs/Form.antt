-- Inner: the checks that are made before the samples are read; no part of a public contract. Definitions only.
use Rattle.std.specs.Prelude.{ℕ, ◌*◌, [], ◌∷◌}
use Rattle.params.specs.Table.{line, first_fault, shape_wrong, layers_wrong, length_wrong, settings_wrong}
use Rattle.params.specs.declared.Settings.{Settings}
use Rattle.picture.specs.declared.Shape.{Shape}

-- the checks of rule A3 that ask nothing of the samples but how many there are
unfoldable pub form_fault : ℕ → Shape → ℕ → ℕ → Settings → ℕ
form_fault len t layer octave s =
    first_fault
    (line 1 (shape_wrong t.width t.height)
    ∷ line 2 (layers_wrong t.planes layer s.layers)
    ∷ line 3 (length_wrong len (t.planes * t.height * t.width))
    ∷ line 4 (settings_wrong s octave)
    ∷ [])
