-- The stages fit, and the sheet reads back. Assumes nothing.
use Prim.Native.Nat.{ℕ, ◌≤◌}
use mathlib.Core.Path.{◌≡◌}
use mathlib.Core.Bool.{true}
use mathlib.Core.List.{List}
use lib.ListN.{length}
use Rattle.params.specs.declared.Settings.{Settings}
use Rattle.sheet.specs.Layout.{known, max_count}
use Rattle.road.specs.Road.{Among, OfFrame, sheet_records}
use Rattle.road.specs.Back.{Framed, ReadsBack}
use Rattle.road.specs.Rules.{RoadRule}
use Rattle.road.proofs.Stages.{oriented, described, through}
use Rattle.road.proofs.Words.{keypoint_words_lem, direction_words}
use Rattle.road.proofs.Road.{made, recorded, all_whole, all_right, all_layered, ordered}
use Rattle.road.proofs.Writer.{reads_back}

back : (edition : ℕ) → known edition ≡ true → (wide high : ℕ) (s : Settings) (rs : List (List ℕ)) → Framed wide high s.layers → ((r : List ℕ) → Among r rs → OfFrame wide high s r)
    → length rs ≤ max_count → ReadsBack edition wide high s.layers rs
back edition t wide high s rs framed of few =
    reads_back edition rs (all_whole wide high s rs of) t wide high s.layers framed few (all_right wide high s rs of edition) (all_layered wide high s rs of edition)

pub road_rule : RoadRule
road_rule =
    record {
      oriented = oriented;
      described = described;
      through = through;
      keypoint_words_lem = keypoint_words_lem;
      direction_words = direction_words;
      made = made;
      recorded = λ wide high s r f edition t. recorded wide high s r f edition;
      back = back;
      ordered = ordered;
      whole = λ edition t wide high s qs framed smooth few. back edition t wide high s (sheet_records s qs) framed (ordered wide high s qs smooth) few;
    }
