-- Every record of a frame is whole and keeps the sheet's rules, the maker makes it, and the list in the order of a sheet has only such. Assumes nothing.
use Prim.Native.Nat.{ℕ, ◌+◌, ◌≤◌}
use native.Mathlib.Nat.{le_refl}
use native.Mathlib.Omega.{arith}
use mathlib.Core.Path.{◌≡◌, sym, ap, ◌∙◌}
use mathlib.Core.Bool.{true}
use mathlib.Core.List.{List, map}
use borrow.Author.Tests.{eq-eqb}
use lib.ListN.{length}
use lib.Ieee.{Float}
use Rattle.ieee.specs.F32.{bits_of}
use Rattle.params.specs.Answers.{on_fault}
use Rattle.params.specs.declared.Settings.{Settings}
use Rattle.detect_keypoint.specs.Sound.{Sound}
use Rattle.detect_keypoint.specs.declared.RawKeypoint.{RawKeypoint}
use Rattle.detect_keypoint.specs.Search.{search_of}
use Rattle.detect_refine.specs.Place.{Searched}
use Rattle.orient_words.specs.Oriented.{oriented_of}
use Rattle.orient_words.specs.declared.OrientedKeypoint.{OrientedKeypoint}
use Rattle.descriptor_words.specs.Words.{words_at}
use Rattle.picture.specs.declared.Spot.{Spot}
use Rattle.record.specs.Record.{record_of}
use Rattle.record.specs.Make.{make_number, make_left}
use Rattle.sheet.specs.Layout.{layout_of}
use Rattle.sheet.specs.Sheet.{all_pass}
use Rattle.sheet.specs.Words.{read_words}
use Rattle.sheet.specs.Writes.{frame_of, words_right, layer_right}
use Rattle.sheet.proofs.Lawful.{lawful_edition, angled_edition}
use Rattle.road.specs.Back.{taken}
use Rattle.road.specs.Road.{Among, Octave, found_in, directions_of, spot_for, size_in, values_for, value_words_for, samples_for, picture_for, record_for, OfFrame, records_for, records_in, octave_records, sheet_records, Smooth}
use Rattle.road.specs.Rules.{Making}
use Rattle.road.proofs.Members.{from_flat, from_map, from_joined, pass_all}
use Rattle.road.proofs.Described.{passed_is}
use Rattle.road.proofs.Stages.{stack, sound, passed, turn, through}
use Rattle.road.proofs.Record.{Filled, filled_at, Given, record_right_lem, record_layer, record_long, make_accepts}
use Rattle.road.proofs.Writer.{whole}

-- ---- what a record of a frame is made of

module _ (wide high : ℕ) (s : Settings) (r : List ℕ) (f : OfFrame wide high s r) where
  abbrev q : Octave
  q = f.octave

  abbrev k : RawKeypoint
  k = f.keypoint

  abbrev o : OrientedKeypoint
  o = f.direction

  abbrev img : List Float
  img = picture_for q k

  abbrev spot : Spot
  spot = spot_for q o

  abbrev values : List Float
  values = values_for img q o

  abbrev samples : ℕ
  samples = samples_for img q o

  held : Searched (length q.stack) q.shape (search_of f.layer q.number s)
  held = stack s q f.layer f.searched k f.found

  good : Sound q.shape.width q.shape.height s q.number k
  good = sound s q f.layer f.searched k f.found

  filled : Filled values samples
  filled = filled_at img (size_in q) spot f.described

  given : Given q.shape.width q.shape.height s q.number k o.angle values samples
  given = record {
    good = good;
    low = held.low;
    turn = turn s q f.layer f.searched k f.found img (f.sized.picture k.layer good.first good.last) f.oriented o f.given;
    full = filled;
  }

  -- a direction has all but its angle of the keypoint
  direction_is : o ≡ oriented_of k o.angle
  direction_is = passed_is k o (passed s q f.layer f.searched k f.found img o f.given)

  record_is : record_of k (oriented_of k o.angle) (map bits_of values) samples ≡ r
  unfolding words_at
  record_is = ap (λ (d : OrientedKeypoint). record_of k d (map bits_of values) samples) (sym direction_is) ∙ sym f.is

  long : length r ≡ read_words
  long = ap length (sym record_is) ∙ record_long k (oriented_of k o.angle) filled

  pub recorded : (edition : ℕ) → words_right (layout_of edition) (frame_of wide high s.layers) (taken edition r) ≡ true
  recorded edition =
      ap (λ (t : List ℕ). words_right (layout_of edition) (frame_of wide high s.layers) (taken edition t)) (sym record_is)
      ∙ record_right_lem given (layout_of edition) (frame_of wide high s.layers) f.sized.across f.sized.down (le_refl s.layers) (lawful_edition edition) (angled_edition edition)

  layered : (edition : ℕ) → layer_right s.layers (taken edition r) ≡ true
  layered edition =
      ap (λ (t : List ℕ). layer_right s.layers (taken edition t)) (sym record_is)
      ∙ record_layer given (layout_of edition) (frame_of wide high s.layers) f.sized.across f.sized.down (le_refl s.layers)

  accepted : make_number k o (value_words_for img q o) samples read_words ≡ 0
  unfolding words_at
  accepted =
      ap (λ (d : OrientedKeypoint). make_number k d (map bits_of values) samples read_words) direction_is
      ∙ make_accepts given held.wide held.high held.many

  pub made : Making q k o r
  unfolding make_left
  made = record {
    accepted = accepted;
    left =
        λ out room.
        ap (λ (n : ℕ). on_fault n (record_for q k o) out) (ap (make_number k o (value_words_for img q o) samples) room ∙ accepted)
        ∙ sym f.is;
  }

-- so of any list of them
module _ (wide high : ℕ) (s : Settings) (rs : List (List ℕ)) (of : (r : List ℕ) → Among r rs → OfFrame wide high s r) where
  pub all_whole : all_pass whole rs ≡ true
  all_whole = pass_all whole rs (λ r m. eq-eqb (length r) read_words (long wide high s r (of r m)))

  pub all_right : (edition : ℕ) → all_pass (λ r. words_right (layout_of edition) (frame_of wide high s.layers) (taken edition r)) rs ≡ true
  all_right edition = pass_all _ rs (λ r m. recorded wide high s r (of r m) edition)

  pub all_layered : (edition : ℕ) → all_pass (λ r. layer_right s.layers (taken edition r)) rs ≡ true
  all_layered edition = pass_all _ rs (λ r m. layered wide high s r (of r m) edition)

-- ---- the order of a sheet

module _ (wide high : ℕ) (s : Settings) where
  of_keypoint : (q : Octave) → Smooth wide high s q → (layer : ℕ) → 1 ≤ layer → layer ≤ s.layers → (k : RawKeypoint) → Among k (found_in s q layer)
      → (r : List ℕ) → Among r (records_for q k) → OfFrame wide high s r
  unfolding records_for
  of_keypoint q a layer from to k m r n =
      let z = a.searched layer from to in
      let good = sound s q layer z k m in
      let p = from_map (record_for q k) (directions_of (picture_for q k) q k) r n in
      let t = through s q layer z k m (picture_for q k) (a.sized.picture k.layer good.first good.last) (a.good k.layer good.first good.last) in
      record {
        octave = q;
        layer = layer;
        keypoint = k;
        direction = p.source;
        sized = a.sized;
        searched = z;
        found = m;
        oriented = t.oriented;
        given = p.among;
        described = t.described p.source p.among;
        is = p.is;
      }

  of_octave : (q : Octave) → Smooth wide high s q → (r : List ℕ) → Among r (octave_records s q) → OfFrame wide high s r
  unfolding octave_records records_in
  of_octave q a r m =
      let p = from_joined 1 (s.layers + 1) (records_in s q) r m in
      let l = p.step in
      let top : l ≤ s.layers = omega (arith, p.below) in
      let f = from_flat (records_for q) (found_in s q l) r p.inside in
      of_keypoint q a l p.from top f.source f.among r f.inside

  pub ordered : (qs : List Octave) → ((q : Octave) → Among q qs → Smooth wide high s q) → (r : List ℕ) → Among r (sheet_records s qs) → OfFrame wide high s r
  unfolding sheet_records
  ordered qs a r m = let f = from_flat (octave_records s) qs r m in of_octave f.source (a f.source f.among) r f.inside
