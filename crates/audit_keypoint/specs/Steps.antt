-- Inner: how far the records agree after the records of one more keypoint, as the stages answer in words; no part of a public contract. Definitions only.
use Rattle.std.specs.Prelude.{ℕ, Bool, ◌&&◌, cond, eqb, leb, pos, length, Float}
use mathlib.Core.List.{List, foldl, map}
use Rattle.picture.specs.declared.Shape.{Shape}
use Rattle.picture.specs.declared.Size.{Size}
use Rattle.orient_words.specs.Oriented.{words_of}
use Rattle.orient.specs.Entry.{orient_fault, oriented_list}
use Rattle.descriptor_inputs.specs.Inputs.{inputs_of, Inputs}
use Rattle.descriptor_run.specs.Cells.{samples_of}
use Rattle.descriptor_words.specs.Words.{turn_at, words_at}
use Rattle.picture.specs.declared.Spot.{Spot}
use Rattle.descriptor.specs.Entry.{fault_of}
use Rattle.words.specs.Keypoint.{keypoint_in}
use Rattle.words.specs.Oriented.{oriented_in}
use Rattle.record.specs.Record.{record_of}
use Rattle.record.specs.Make.{make_number}
use Rattle.sheet.specs.Layout.{Layout}
use Rattle.sheet.specs.Words.{read_words}
use Rattle.sheet_edition.specs.Edition.{layout_for}
use Rattle.audit_compare.specs.Standing.{stated_in, refused, compared, Standing}
use Rattle.audit_keypoint.specs.Pictures.{picture_in}
use Rattle.audit_keypoint.specs.declared.Task.{Task}

-- ---- a direction: the picture, the octave, and the words of the keypoint and of its direction

module _ (img : List Float) (z : Size) (octave : ℕ) (kw ow : List ℕ) where
  abbrev pub inputs_for : Inputs
  inputs_for = inputs_of (oriented_in ow) (pos octave)

  abbrev pub spot_for : Spot
  spot_for = record { x = inputs_for.x; y = inputs_for.y; scale = inputs_for.scale; angle = inputs_for.angle }

  abbrev pub values_for : List ℕ
  values_for = words_at img z spot_for

  abbrev pub samples_for : ℕ
  samples_for = length (samples_of img (turn_at z spot_for))

  -- no stage refuses it
  unfoldable pub served : Bool
  served =
      eqb inputs_for.number 0
      && (eqb (fault_of img z spot_for) 0 && eqb (make_number (keypoint_in kw) (oriented_in ow) values_for samples_for read_words) 0)

  -- its record
  unfoldable pub made_of : List ℕ
  made_of = record_of (keypoint_in kw) (oriented_in ow) values_for samples_for

-- ---- what the records are compared with: the fields of a sheet's records

pub record Given : Type 0 where
  pub shape : Shape
  pub octave : ℕ
  pub layout : Layout
  pub stated : List (List ℕ)

abbrev pub given_of : List ℕ → Task → Given
given_of body k =
    record {
      shape = k.shape;
      octave = k.octave;
      layout = layout_for k.edition;
      stated = stated_in (layout_for k.edition) k.count body;
    }

abbrev pub size_for : Shape → Size
size_for t = record { width = t.width; height = t.height }

-- after one more direction: nothing is made after a refusal
unfoldable pub direction_step : Given → List Float → List ℕ → Standing → List ℕ → Standing
direction_step g img kw st ow =
    cond st.good
    (cond (served img (size_for g.shape) g.octave kw ow) (compared g.layout g.stated st (made_of img (size_for g.shape) g.octave kw ow)) refused)
    st

-- after those of a list, each by its words
unfoldable pub direction_steps : Given → List Float → List ℕ → Standing → List (List ℕ) → Standing
direction_steps g img kw st ows = foldl (direction_step g img kw) st ows

-- after a keypoint, on the picture of its layer
unfoldable pub turn_step : Given → List Float → Standing → List ℕ → Standing
turn_step g img st kw =
    cond (eqb (orient_fault img (size_for g.shape) (keypoint_in kw)) 0)
    (direction_steps g img kw st (map words_of (oriented_list img (size_for g.shape) (keypoint_in kw))))
    refused

unfoldable pub keypoint_step : List Float → Given → Standing → List ℕ → Standing
keypoint_step gauss g st kw =
    cond st.good
    (cond (leb (keypoint_in kw).layer g.shape.planes) (turn_step g (picture_in gauss g.shape (keypoint_in kw).layer) st kw) refused)
    st
