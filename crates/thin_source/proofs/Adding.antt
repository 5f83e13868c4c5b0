-- Laws of the positions that are added to a lent list: one after the other, and that they are a source of their own. Assumes nothing.
use Prim.Native.Nat.{ℕ, ◌+◌, ◌≤◌, ◌<◌}
use mathlib.Core.Path.{◌≡◌, refl, sym, ap, ◌∙◌}
use mathlib.Core.Bool.{Bool, true, false, cond, not, ◌&&◌}
use mathlib.Core.List.{List}
use mathlib.Core.Logic.{◌⊎◌, inl, inr, ⊎_elim}
use native.Mathlib.Nat.{le_refl, add-zero, zero-add}
use native.Mathlib.Omega.{arith}
use borrow.Author.Tests.{lt-ltb, le-ltb}
use lib.Dec.{ltb}
use lib.ListN.{length, get_or, set, length-set}
use lib.Seq.{get_or-set_same, get_or-set_other}
use Rattle.lists.proofs.Naturals.{le_or_lt}
use Rattle.lists.proofs.Bools.{and_true, and_false}
use Rattle.counts.specs.Counts.{counted}
use Rattle.counts.proofs.Counts.{one, counted_none, counted_next, counted_split, counted_same, counted_never}
use Rattle.thin_rule.specs.Rule.{points_in, inside, many}
use Rattle.thin_rule.specs.Strength.{strong, edges_of, Ordered, Sound}
use Rattle.thin_rule.specs.declared.Edges.{Edges}
use Rattle.thin_rule.specs.declared.Region.{Region}
use Rattle.thin_part.specs.Runs.{held, Beside}
use Rattle.thin_part.proofs.Parts.{none_listed}
use Rattle.thin_source.specs.Sources.{is_all, from_of, to_of, candidate, found, Stands, Covers}
use Rattle.thin_source.specs.Adds.{Added}
use Rattle.thin_source.specs.declared.Source.{Source}
use Rattle.thin_source.specs.declared.Source.TheVariants.{Held}
use Rattle.thin_source.proofs.Covering.{covers_all, many_all}
use Rattle.thin_source.proofs.Sources.{weighed, each_weighed}

-- ---- the candidates from `from` to below k that pass the test are added at `at`, up to m

pub record Adding (test : ℕ → Bool) (cand : ℕ → ℕ) (s d : List ℕ) (at from to k m : ℕ) : Type 0 where
  pub low : from ≤ k
  pub high : k ≤ to
  pub count : m ≡ at + counted from k (λ j. test (cand j))
  pub beside : Beside s d at m
  pub each : m ≤ length s → (g : ℕ → Bool) → held d at m g ≡ counted from k (λ j. test (cand j) && g (cand j))

pub add_start : (test : ℕ → Bool) (cand : ℕ → ℕ) (s : List ℕ) (at from to : ℕ) → from ≤ to → Adding test cand s s at from to from at
add_start test cand s at from to h =
    record {
      low = le_refl from;
      high = h;
      count = let z = counted_none from from (λ j. test (cand j)) (le_refl from) in omega arith;
      beside = record { length = refl; outside = λ k o. refl };
      each = λ l g. counted_none at at (λ k. g (get_or s k 0)) (le_refl at) ∙ sym (counted_none from from (λ j. test (cand j) && g (cand j)) (le_refl from));
    }

pub add_turn : (test : ℕ → Bool) (cand : ℕ → ℕ) (s d d' : List ℕ) (at from to k m p o : ℕ) (y : Bool) → Adding test cand s d at from to k m → k < to → p ≡ cand k → y ≡ test p → d' ≡ cond (y && ltb m (length d)) (set d m p) d → o ≡ cond y 1 0 → Adding test cand s d' at from to (k + 1) (m + o)
add_turn test cand s d d' at from to k m p o y i h z w u v = rw (u, v) (turn y (sym (w ∙ ap test z)) (le_or_lt (length d) m))
  where
    low : from ≤ k + 1
    low = let l = i.low in omega arith

    high : k + 1 ≤ to
    high = omega arith

    start : at ≤ m
    start = let c = i.count in omega arith

    next : (x : Bool) → test (cand k) ≡ x → m + one x ≡ at + counted from (k + 1) (λ j. test (cand j))
    next x e =
        let c = i.count in
        let n = counted_next from k (λ j. test (cand j)) i.low in
        let o = ap one e in
        omega arith

    more : (x : Bool) → test (cand k) ≡ x → (g : ℕ → Bool) → counted from (k + 1) (λ j. test (cand j) && g (cand j)) ≡ counted from k (λ j. test (cand j) && g (cand j)) + one (x && g (cand k))
    more x e g = counted_next from k (λ j. test (cand j) && g (cand j)) i.low ∙ ap (λ b. counted from k (λ j. test (cand j) && g (cand j)) + one (b && g (cand k))) e

    -- one that has room
    room : m < length d → (g : ℕ → Bool) → held (set d m p) at (m + 1) g ≡ held d at m g + one (g (cand k))
    room l g =
        counted_next at m (λ j. g (get_or (set d m p) j 0)) start ∙ rw (get_or-set_same d m p 0 l, counted_same at m (λ j. g (get_or (set d m p) j 0)) (λ j. g (get_or d j 0)) (λ j a b. ap g (get_or-set_other d m j p 0 (λ e. omega arith))), z)

    turn : (x : Bool) → test (cand k) ≡ x → (length d ≤ m) ⊎ (m < length d) → Adding test cand s (cond (x && ltb m (length d)) (set d m p) d) at from to (k + 1) (m + cond x 1 0)
    turn true e (inl l) =
        rw (le-ltb m (length d) l)
        (record {
          low = low;
          high = high;
          count = next true e;
          beside = record { length = i.beside.length; outside = λ j q. i.beside.outside j (⊎_elim (λ a. inl a) (λ a. inr (omega arith)) q) };
          each = λ f. absurd (let q = i.beside.length in omega arith);
        })
    turn true e (inr l) =
        rw (lt-ltb m (length d) l)
        (record {
          low = low;
          high = high;
          count = next true e;
          beside =
              record {
                length = length-set d m p ∙ i.beside.length;
                outside = λ j q. get_or-set_other d m j p 0 (apart j q) ∙ i.beside.outside j (⊎_elim (λ a. inl a) (λ a. inr (omega arith)) q);
              };
          each = λ f g. room l g ∙ ap (λ n. n + one (g (cand k))) (i.each (omega arith) g) ∙ sym (more true e g);
        })
      where
        apart : (j : ℕ) → (j < at) ⊎ (m + 1 ≤ j) → j ≡ m → ⊥
        apart j (inl a) q = let x = start in omega arith
        apart j (inr a) q = omega arith
    turn false e l =
        record {
          low = low;
          high = high;
          count = next false e;
          beside = rw (add-zero m) i.beside;
          each = λ f g. rw (add-zero m) (i.each (omega arith) g ∙ sym (more false e g ∙ add-zero _));
        }

-- m stays at or below where all of them end
pub add_within : (test : ℕ → Bool) (cand : ℕ → ℕ) (s d : List ℕ) (at from to k m : ℕ) (f : ℕ → Bool) → Adding test cand s d at from to k m → ((j : ℕ) → from ≤ j → j < to → f (cand j) ≡ test (cand j)) → m ≤ at + counted from to (λ j. f (cand j))
add_within test cand s d at from to k m f i e =
    let c = i.count in
    let n = counted_split from k to (λ j. test (cand j)) i.low i.high in
    let q = counted_same from to (λ j. f (cand j)) (λ j. test (cand j)) e in
    omega arith

pub add_end : (test : ℕ → Bool) (cand : ℕ → ℕ) (s d : List ℕ) (at from to k m : ℕ) (f : ℕ → Bool) → Adding test cand s d at from to k m → to ≤ k → ((j : ℕ) → from ≤ j → j < to → f (cand j) ≡ test (cand j)) → Added (λ g. counted from to (λ j. f (cand j) && g (cand j))) s d at m
add_end test cand s d at from to k m f i h e =
    record {
      count = i.count ∙ ap (λ n. at + n) (rw same (counted_same from k (λ j. test (cand j)) (λ j. f (cand j) && true) (λ j a b. sym (and_true (f (cand j)) ∙ e j a (omega arith)))));
      beside = i.beside;
      each = λ l g. i.each l g ∙ rw same (counted_same from k (λ j. test (cand j) && g (cand j)) (λ j. f (cand j) && g (cand j)) (λ j a b. rw (e j a (omega arith))));
    }
  where
    same : to ≡ k
    same = let x = i.high in omega arith

-- ---- a region's keypoints, added at the front of a list: a source of their own

abbrev Put : List ℕ → Region → List ℕ → Source → List ℕ → List ℕ → ℕ → Type 0
Put ws r l c s d m = Added (λ g. found l c (λ p. strong ws r 0 p && g p)) s d 0 m

pub added_many : (ws : List ℕ) (r : Region) (l : List ℕ) (c : Source) (s d : List ℕ) (m : ℕ) → Covers ws r l c → Put ws r l c s d m → m ≡ many ws r
added_many ws r l c s d m h a = a.count ∙ zero-add (found l c (λ p. strong ws r 0 p && true)) ∙ covers_all ws r l c h (λ i. true) ∙ many_all ws r

pub added_covers : (ws : List ℕ) (r : Region) (l : List ℕ) (c : Source) (s d : List ℕ) (m : ℕ) → Covers ws r l c → Put ws r l c s d m → m ≤ length d → Covers ws r d (Held 0 m)
unfolding candidate
added_covers ws r l c s d m h a f =
    record {
      stands = record { order = omega arith; room = λ e. f; each = (none_listed (points_in ws) d 0 m none).each };
      each = λ g. all (λ p. inside ws r p && g p) ∙ counted_same 0 (points_in ws) (λ i. inside ws r i && (inside ws r i && g i)) (λ i. inside ws r i && g i) (λ i x y. twice (inside ws r i) (g i));
    }
  where
    all : (g : ℕ → Bool) → held d 0 m g ≡ counted 0 (points_in ws) (λ i. inside ws r i && g i)
    all g = a.each (let e = a.beside.length in omega arith) g ∙ covers_all ws r l c h g

    none : held d 0 m (λ p. not (ltb p (points_in ws))) ≡ 0
    none =
        all (λ p. not (ltb p (points_in ws))) ∙ counted_never 0 (points_in ws) (λ i. inside ws r i && not (ltb i (points_in ws))) (λ i x y. rw (lt-ltb i (points_in ws) y) (and_false (inside ws r i)))

    twice : (x y : Bool) → (x && (x && y)) ≡ (x && y)
    twice true y = refl
    twice false y = refl

-- ---- those that are strong

module _ (ws : List ℕ) (r : Region) (e : Edges) (t : ℕ) (s : List ℕ) (c : Source) (sd : Sound ws) (o : Ordered r) (h : Stands (points_in ws) s c) (z : e ≡ edges_of r) where
  pub add_strong_within : (u d : List ℕ) (at k m : ℕ) → Adding (weighed ws e t) (candidate (is_all c) s) u d at (from_of c) (to_of c) k m → m ≤ at + found s c (strong ws r t)
  add_strong_within u d at k m i = add_within (weighed ws e t) (candidate (is_all c) s) u d at (from_of c) (to_of c) k m (strong ws r t) i (each_weighed ws r e t s c sd o h z)

  pub add_strong : (u d : List ℕ) (at k m : ℕ) → Adding (weighed ws e t) (candidate (is_all c) s) u d at (from_of c) (to_of c) k m → to_of c ≤ k → Added (λ g. found s c (λ p. strong ws r t p && g p)) u d at m
  add_strong u d at k m i l = add_end (weighed ws e t) (candidate (is_all c) s) u d at (from_of c) (to_of c) k m (strong ws r t) i l (each_weighed ws r e t s c sd o h z)
