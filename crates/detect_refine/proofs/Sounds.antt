-- Every keypoint that refinement gives is sound. Assumes nothing.
use Prim.Native.Nat.{ℕ, zero, suc, ◌+◌, ◌-◌, ◌*◌, ◌^◌, ◌<◌, ◌≤◌}
use mathlib.Core.Path.{◌≡◌, refl, sym, subst}
use mathlib.Core.Bool.{true, false}
use mathlib.Core.List.{List}
use native.Mathlib.Omega.{arith}
use lib.Dec.{T}
use lib.ListN.{length}
use lib.Ieee.{Float, binary32, neg, fits}
use lib.Ieee.Fits.{neg-fits, mul-fits}
use Rattle.ieee.specs.F32.{◌⊗◌, narrowed}
use Rattle.ieee.proofs.Held.{abs_fits}
use Rattle.params.specs.Limits.{max_moves}
use Rattle.params.specs.Table.{good_sample, all_good, settings_wrong}
use Rattle.params.proofs.Accepted.{Accepted, accepted}
use Rattle.picture.specs.Stack.{sample}
use Rattle.picture.specs.declared.Shape.{Shape}
use Rattle.samples.proofs.Runs.{good_at}
use Rattle.detect_fit.specs.Fit.{patch_of, offset_of}
use Rattle.detect_fit.specs.declared.Patch.{Patch}
use Rattle.detect_fit.specs.declared.Offset.{Offset}
use Rattle.detect_keypoint.specs.Offsets.{small}
use Rattle.detect_keypoint.specs.Keypoint.{contrast_of, code_of, octave_word, keypoint_with, keypoint_of}
use Rattle.detect_keypoint.specs.Sound.{Sound}
use Rattle.detect_keypoint.specs.declared.Cell.{Cell}
use Rattle.detect_keypoint.specs.declared.Search.{Search}
use Rattle.detect_keypoint.specs.declared.RawKeypoint.{RawKeypoint}
use Rattle.detect_keypoint.proofs.Codes.{code, code_le, code_cast, word_is, word_low, word_next, word_third}
use Rattle.detect_keypoint.proofs.Contrast.{Read, contrast_finite, abs_finite, contrast_fits, abs_twice, small_finite}
use Rattle.detect_keypoint.proofs.Offsets.{small_xi, small_xr, small_xc}
use Rattle.detect_keypoint.proofs.Asked.{asked_in, asked_power}
use Rattle.detect_keypoint.proofs.Octaves.{position_finite, position_above, size_finite, size_above, size_from, size_to}
use Rattle.detect_refine.specs.Moves.{step_of}
use Rattle.detect_refine.specs.Settle.{ended, on_step, patch_at, settle_from, refine_of}
use Rattle.detect_refine.specs.Place.{Searched, Placed}
use Rattle.detect_refine.specs.declared.Step.{Step}
use Rattle.detect_refine.specs.declared.Step.TheVariants.{Lost, Stay, Go}
use Rattle.std.specs.Prelude.{Some, None}
use Rattle.detect_refine.proofs.Settled.{dropped_not, ended_at, ended_moves, few_moves}
use Rattle.detect_refine.proofs.Steps.{step_stay, step_offset, step_go}

-- ---- the samples about a cell

module _ (d : List Float) (t : Shape) (s : Search) (k : Cell) (a : Searched (length d) t s) (at : Placed t s.settings.layers k) (g : all_good d ≡ true) where
  good : (p r c : ℕ) → p ≤ k.p + 1 → r ≤ k.r + 1 → c ≤ k.c + 1 → good_sample (sample d t p r c) ≡ true
  good p r c i j l = good_at d t p r c g (record { whole = a.whole; plane = omega arith; row = omega arith; column = omega arith })

  read : Read (patch_at d t k)
  unfolding patch_of
  read =
      record {
        im = good k.p k.r k.c (omega arith) (omega arith) (omega arith);
        il = good k.p k.r (k.c - 1) (omega arith) (omega arith) (omega arith);
        ir = good k.p k.r (k.c + 1) (omega arith) (omega arith) (omega arith);
        iu = good k.p (k.r - 1) k.c (omega arith) (omega arith) (omega arith);
        id = good k.p (k.r + 1) k.c (omega arith) (omega arith) (omega arith);
        pm = good (k.p - 1) k.r k.c (omega arith) (omega arith) (omega arith);
        nm = good (k.p + 1) k.r k.c (omega arith) (omega arith) (omega arith);
      }

-- ---- the fields

-- the offset's parts are f32s
record Held (o : Offset) : Type 0 where
  pub xi : T (fits binary32 o.xi)
  pub xr : T (fits binary32 o.xr)
  pub xc : T (fits binary32 o.xc)

step_held : (t : Shape) (layers : ℕ) (k : Cell) (patch : Patch) (o : Offset) → step_of t layers k patch ≡ Stay o → Held o
unfolding offset_of
step_held t layers k patch o e =
    subst Held (sym (step_offset t layers k patch o e)) (record { xi = turned_fits _ _; xr = turned_fits _ _; xc = turned_fits _ _ })
  where
    turned_fits : (a b : Float) → T (fits binary32 (neg (a ⊗ b)))
    turned_fits a b = neg-fits binary32 (a ⊗ b) (mul-fits binary32 a b)

keypoint_sound : (len : ℕ) (t : Shape) (s : Search) (m : ℕ) (k : Cell) (patch : Patch) (o : Offset)
    → Searched len t s → Placed t s.settings.layers k → Accepted s.settings s.octave → m < max_moves → Read patch → small o ≡ true → Held o
    → Sound t.width t.height s.settings s.octave (keypoint_of s m k patch o)
unfolding keypoint_of keypoint_with
keypoint_sound len t s m k patch o a at q l g tiny f =
    let octave = s.octave in
    let sigma = narrowed s.settings.sigma in
    let xi = small_xi o tiny in
    let k8 = code o.xi xi in
    let byte = code_le o.xi xi in
    let word : octave_word octave k.p (code_of o.xi) ≡ octave + k.p * 2 ^ 8 + k8 * 2 ^ 16 = rw (← code_cast o.xi xi) (word_is octave k.p k8 q.octave (omega arith) byte) in
    let v = contrast_finite patch o g tiny in
    let power = asked_power s.settings.layers k.p o.xi at.first (omega arith) a.many xi in
    record {
      left = at.start;
      right = at.end;
      top = at.top;
      bottom = at.bottom;
      first = at.first;
      last = omega arith;
      moves = l;
      low_byte = rw word (word_low octave k.p k8 q.octave);
      next_byte = rw word (word_next octave k.p k8 q.octave (omega arith));
      third_byte = rw word (word_third octave k.p k8 q.octave (omega arith) byte);
      x_number = record { held = mul-fits binary32 _ _; ends = position_finite octave q.octave k.c o.xc at.start (omega arith) (small_xc o tiny) };
      y_number = record { held = mul-fits binary32 _ _; ends = position_finite octave q.octave k.r o.xr at.top (omega arith) (small_xr o tiny) };
      size_number = record { held = mul-fits binary32 _ _; ends = size_finite octave q.octave sigma _ q.sigma power };
      response_number = record { held = abs_fits binary32 (contrast_of patch o) (contrast_fits patch o); ends = abs_finite (contrast_of patch o) v };
      xi_number = record { held = f.xi; ends = small_finite o.xi xi };
      x_above = position_above octave q.octave k.c o.xc at.start (omega arith) (small_xc o tiny);
      y_above = position_above octave q.octave k.r o.xr at.top (omega arith) (small_xr o tiny);
      size_above = size_above octave q.octave sigma _ q.sigma power;
      response_plain = abs_twice (contrast_of patch o);
      x_near = record { offset = o.xc; held = f.xc; small = small_xc o tiny; is = refl };
      y_near = record { offset = o.xr; held = f.xr; small = small_xr o tiny; is = refl };
      xi_small = xi;
      size_from = size_from octave q.octave sigma _ q.sigma power;
      size_to = size_to octave q.octave sigma _ q.sigma power;
      asked = asked_in s.settings.layers k.p o.xi at.first (omega arith) a.many xi;
    }

-- ---- every keypoint

module _ (d : List Float) (t : Shape) (s : Search) (a : Searched (length d) t s) (q : Accepted s.settings s.octave) (g : all_good d ≡ true)
    (found : RawKeypoint) (few : found.moves < max_moves) where
  abbrev IsSound : RawKeypoint → Type 0
  IsSound x = Sound t.width t.height s.settings s.octave x

  settle_sound : (left m : ℕ) (k : Cell) → Placed t s.settings.layers k → settle_from d t s left m k ≡ Some found → IsSound found
  unfolding settle_from
  settle_sound zero m k at e = dropped_not found e
  settle_sound (suc left) m k at e = go (λ k' b f. settle_sound left (m + 1) k' b f) (step_of t s.settings.layers k (patch_at d t k)) refl e
    where
      go : ((k' : Cell) → Placed t s.settings.layers k' → settle_from d t s left (m + 1) k' ≡ Some found → IsSound found)
          → (step : Step) → step_of t s.settings.layers k (patch_at d t k) ≡ step
          → on_step step None (λ o. ended s m k (patch_at d t k) o) (λ k'. settle_from d t s left (m + 1) k') ≡ Some found
          → IsSound found
      go later Lost i f = dropped_not found f
      go later (Stay o) i f =
          let patch = patch_at d t k in
          subst IsSound (ended_at s m k patch o found f)
          (keypoint_sound (length d) t s m k patch o a at q (rw (← ended_moves s m k patch o found f) few) (read d t s k a at g) (step_stay t s.settings.layers k patch o i) (step_held t s.settings.layers k patch o i))
      go later (Go k') i f = later k' (step_go t s.settings.layers k (patch_at d t k) k' i) f

-- the keypoint that a candidate is refined to, in a stack that the table accepts
pub refine_sound : (d : List Float) (t : Shape) (s : Search) (k : Cell) (found : RawKeypoint)
    → Searched (length d) t s → Placed t s.settings.layers k → settings_wrong s.settings s.octave ≡ false → all_good d ≡ true
    → refine_of d t s k ≡ Some found → Sound t.width t.height s.settings s.octave found
unfolding refine_of
refine_sound d t s k found a at q g e =
    settle_sound d t s a (accepted s.settings s.octave q) g found (few_moves d t s k found e) max_moves 0 k at e
