-- What is searched, and with what. Definitions only.
use Rattle.std.specs.Prelude.{ℕ}
use Rattle.detect_threshold.specs.Threshold.{threshold_of}
use Rattle.params.specs.declared.Settings.{Settings}
use Rattle.detect_keypoint.specs.declared.Search.{Search}

-- the search of one layer of an octave: its threshold is that of the settings
abbrev pub search_of : ℕ → ℕ → Settings → Search
search_of layer octave settings =
    record { layer = layer; octave = octave; threshold = threshold_of settings.contrast settings.layers; settings = settings }
