-- Where the planes are not refused before it, the walk over an octave's keypoints compares the rules' records, or stops where a Gaussian cell that is read is bad. Assumes nothing.
use Prim.Native.Nat.{ℕ, ◌+◌, ◌*◌, ◌≤◌}
use native.Mathlib.Nat.{le_trans, mul-le-mul}
use native.Mathlib.Omega.{arith}
use mathlib.Core.Path.{◌≡◌, refl, sym, ap, ◌∙◌, subst}
use mathlib.Core.Bool.{Bool, true, false, cond, ◌&&◌}
use mathlib.Core.List.{List, [], ◌∷◌, map, flat_map, foldl, foldl-map}
use borrow.Author.Tests.{le-leb}
use lib.Dec.{eqb, T}
use lib.ListN.{length, drop, length-drop}
use lib.Seq.{length-take-le}
use lib.Ieee.{Float, binary32, fits}
use Rattle.params.specs.Table.{all_good}
use Rattle.params.specs.declared.Settings.{Settings}
use Rattle.picture.specs.declared.Shape.{Shape}
use Rattle.picture.specs.declared.Size.{Size}
use Rattle.detect_keypoint.specs.Sound as Found
use Rattle.detect_keypoint.specs.declared.RawKeypoint.{RawKeypoint}
use Rattle.detect_extrema.specs.Scan as Raw
use Rattle.orient_window.specs.Good.{window_good}
use Rattle.orient_words.specs.Oriented as Oriented
use Rattle.orient_words.specs.declared.OrientedKeypoint.{OrientedKeypoint}
use Rattle.orient.specs.Entry.{window_at}
use Rattle.words.specs.Keypoint.{keypoint_in}
use Rattle.words.specs.Oriented.{oriented_in}
use Rattle.words.specs.Rules.{OrientedHeld}
use Rattle.words.proofs.Rules.{words_rule}
use Rattle.sheet.specs.Layout.{Layout}
use Rattle.road.specs.Road.{Among, Octave, Sized, OfFrame, size_in, found_in, directions_of, picture_for, patch_reads, record_for, records_for, records_in, octave_records, search_fault, turn_fault, patch_fault}
use Rattle.road.specs.Rules.{six_unless, Making}
use Rattle.road.proofs.Members.{from_joined}
use Rattle.road.proofs.Stages.{sound, passed, oriented, turn, described}
use Rattle.road.proofs.Road.{made}
use Rattle.audit_compare.specs.Standing.{start, refused, compared, Standing}
use Rattle.audit_keypoint.specs.Pictures.{picture_in}
use Rattle.audit_keypoint.specs.Steps.{Given, served, made_of, direction_step, direction_steps, turn_step, keypoint_step}
use Rattle.audit_walk.specs.Walk as Walk
use Rattle.audit_walk.specs.Walk.{octave_found}
use Rattle.audit_rule.specs.Entry.{octave_of, keypoints_in, all_of, read_good}
use Rattle.audit_rule.specs.Fine.{Fine}
use Rattle.audit_rule.proofs.Form.{searched}
use Rattle.audit_rule.proofs.Folds.{run, flat_one, flat_joined}

six_not : (b : Bool) → eqb (six_unless b) 0 ≡ b
six_not true = refl
six_not false = refl

and_three : (a b c g : Bool) → a ≡ true → b ≡ g → (g ≡ true → c ≡ true) → (a && (b && c)) ≡ g
and_three a b c true p e h = rw (p, e, h refl)
and_three a b c false p e h = rw (p, e)

when : (b : Bool) (x y : Standing) → b ≡ true → cond b x y ≡ x
when b x y e = rw e

six_none : (b : Bool) → b ≡ true → six_unless b ≡ 0
six_none b e = ap six_unless e

module _ (dog gauss : List Float) (t : Shape) (octave : ℕ) (s : Settings) (base : Size) (f : Fine (length dog) (length gauss) t octave s base) (good : all_good dog ≡ true) where
  abbrev q : Octave
  q = octave_of dog gauss t octave

  -- the pictures have the octave's size
  picture_size : (layer : ℕ) → layer ≤ t.planes → length (picture_in gauss t layer) ≡ t.height * t.width
  unfolding picture_in
  picture_size layer h =
      let size = t.height * t.width in
      let m : (layer + 1) * size ≤ (t.planes + 1) * size = mul-le-mul {n₁ = layer + 1} {m₁ = size} {n₂ = t.planes + 1} {m₂ = size} (omega (arith, h)) (omega arith) in
      length-take-le size (drop (layer * size) gauss) (rw (length-drop, f.pictures) (omega (arith, m)))

  pub sized : Sized t.width t.height s q
  sized =
      record {
        picture = λ layer from to. picture_size layer (omega (arith, to, f.searchable.planes));
        across = omega arith;
        down = omega arith;
      }

  module _ (layer : ℕ) (from : 1 ≤ layer) (to : layer ≤ s.layers) (k : RawKeypoint) (m : Among k (found_in s q layer)) where
    pub accepts : search_fault s q layer ≡ 0
    accepts = searched dog (length gauss) t octave s base f good layer from to

    pub IsSound : Found.Sound t.width t.height s octave k
    IsSound = sound s q layer accepts k m

    abbrev img : List Float
    img = picture_for q k

    pub whole : length img ≡ t.height * t.width
    whole = sized.picture k.layer IsSound.first IsSound.last

    pub turned : turn_fault img q k ≡ six_unless (window_good img (window_at (size_in q) k))
    turned = oriented s q layer accepts k m img whole

    back : keypoint_in (Raw.words_of k) ≡ k
    back = words_rule.keypoint k (words_rule.found t.width t.height octave s k IsSound)

    -- ---- a direction
    module _ (z : turn_fault img q k ≡ 0) (o : OrientedKeypoint) (n : Among o (directions_of img q k)) where
      held : OrientedHeld o
      held =
          let p = passed s q layer accepts k m img o n in
          let h = words_rule.found t.width t.height octave s k IsSound in
          record {
            x = subst (λ (v : Float). T (fits binary32 v)) (sym p.x) h.x;
            y = subst (λ (v : Float). T (fits binary32 v)) (sym p.y) h.y;
            size = subst (λ (v : Float). T (fits binary32 v)) (sym p.size) h.size;
            response = subst (λ (v : Float). T (fits binary32 v)) (sym p.response) h.response;
            angle = (turn s q layer accepts k m img whole z o n).held;
          }

      direction_back : oriented_in (Oriented.words_of o) ≡ o
      direction_back = words_rule.oriented o held

      pub taken : patch_fault img q o ≡ six_unless (all_good (patch_reads img q o))
      taken = (described s q layer accepts k m img whole z o n).taken

      pub of_frame : patch_fault img q o ≡ 0 → OfFrame t.width t.height s (record_for q k o)
      of_frame e =
          record {
            octave = q;
            layer = layer;
            keypoint = k;
            direction = o;
            sized = sized;
            searched = accepts;
            found = m;
            oriented = z;
            given = n;
            described = e;
            is = refl;
          }

      pub makes : patch_fault img q o ≡ 0 → Making q k o (record_for q k o)
      unfolding of_frame
      makes e = made t.width t.height s (record_for q k o) (of_frame e)

      -- as the stages answer: it is served where what is read is good, and gives the rules' record
      serves : served img (size_in q) octave (Raw.words_of k) (Oriented.words_of o) ≡ all_good (patch_reads img q o)
      unfolding served
      serves =
          rw (back, direction_back)
          (and_three _ _ _ (all_good (patch_reads img q o))
          (ap (λ (n : ℕ). eqb n 0) (described s q layer accepts k m img whole z o n).given)
          (ap (λ (n : ℕ). eqb n 0) taken ∙ six_not (all_good (patch_reads img q o)))
          (λ e. ap (λ (n : ℕ). eqb n 0) (makes (taken ∙ six_none (all_good (patch_reads img q o)) e)).accepted))

      gives : made_of img (size_in q) octave (Raw.words_of k) (Oriented.words_of o) ≡ record_for q k o
      unfolding made_of
      gives = rw (back, direction_back)

    -- ---- the keypoint, compared with a sheet's records
    module _ (l : Layout) (stated : List (List ℕ)) where
      abbrev g : Given
      g = record { shape = t; octave = octave; layout = l; stated = stated }

      direction : turn_fault img q k ≡ 0 → (o : OrientedKeypoint) → Among o (directions_of img q k) → (st : Standing) → st.good ≡ true
          → direction_step g img (Raw.words_of k) st (Oriented.words_of o) ≡ cond (all_good (patch_reads img q o)) (compared l stated st (record_for q k o)) refused
      unfolding direction_step
      direction z o n st e = rw (e, serves z o n, gives z o n)

      directions : turn_fault img q k ≡ 0 → (st : Standing) → st.good ≡ true
          → direction_steps g img (Raw.words_of k) st (map Oriented.words_of (directions_of img q k))
          ≡ cond (all_of (λ o. all_good (patch_reads img q o)) (directions_of img q k)) (foldl (compared l stated) st (records_for q k)) refused
      unfolding direction_steps direction_step records_for
      directions z st e =
          foldl-map Oriented.words_of (direction_step g img (Raw.words_of k)) (directions_of img q k) st
          ∙ run l stated (λ x o. direction_step g img (Raw.words_of k) x (Oriented.words_of o)) (λ o. all_good (patch_reads img q o)) (λ o. record_for q k o ∷ []) (λ o. refl) (directions_of img q k)
          (λ o n x h. direction z o n x h) st e
          ∙ ap (λ (rs : List (List ℕ)). cond (all_of (λ o. all_good (patch_reads img q o)) (directions_of img q k)) (foldl (compared l stated) st rs) refused) (flat_one (record_for q k) (directions_of img q k))

      keypoint : (st : Standing) → st.good ≡ true
          → keypoint_step gauss g st (Raw.words_of k) ≡ cond (read_good q k) (foldl (compared l stated) st (records_for q k)) refused
      unfolding keypoint_step turn_step read_good
      keypoint st e =
          when st.good _ st e
          ∙ rw (back, le-leb k.layer t.planes (le_trans IsSound.last (omega (arith, f.searchable.planes))), turned, six_not (window_good img (window_at (size_in q) k)))
          (either (window_good img (window_at (size_in q) k)) refl)
        where
          either : (b : Bool) → window_good img (window_at (size_in q) k) ≡ b
              → cond b (direction_steps g img (Raw.words_of k) st (map Oriented.words_of (directions_of img q k))) refused
              ≡ cond (b && all_of (λ o. all_good (patch_reads img q o)) (directions_of img q k)) (foldl (compared l stated) st (records_for q k)) refused
          either true w = directions (turned ∙ six_none (window_good img (window_at (size_in q) k)) w) st e
          either false w = refl

  -- ---- all keypoints
  module _ (l : Layout) (stated : List (List ℕ)) where
    records_joined : flat_map (records_for q) (keypoints_in s q) ≡ octave_records s q
    unfolding keypoints_in octave_records records_in
    records_joined = flat_joined (records_for q) 1 (s.layers + 1) (found_in s q)

    pub walked : Walk.passed gauss (record { shape = t; octave = octave; layout = l; stated = stated }) start (octave_found dog t octave s)
        ≡ cond (all_of (read_good q) (keypoints_in s q)) (foldl (compared l stated) start (octave_records s q)) refused
    unfolding Walk.passed keypoints_in keypoint_step
    walked =
        let h : Given = record { shape = t; octave = octave; layout = l; stated = stated } in
        foldl-map Raw.words_of (keypoint_step gauss h) (keypoints_in s q) start
        ∙ run l stated (λ x k. keypoint_step gauss h x (Raw.words_of k)) (read_good q) (records_for q) (λ k. refl) (keypoints_in s q)
        (λ k m x e. let p = from_joined 1 (s.layers + 1) (found_in s q) k m in keypoint p.step p.from (omega (arith, p.below)) k p.inside l stated x e) start refl
        ∙ ap (λ (rs : List (List ℕ)). cond (all_of (read_good q) (keypoints_in s q)) (foldl (compared l stated) start rs) refused) records_joined
