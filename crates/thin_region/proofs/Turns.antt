-- What one quarter more adds, and that the others' sources stand where they stood. Assumes nothing.
use Prim.Native.Nat.{ℕ, zero, suc, ◌+◌, ◌-◌, ◌^◌, ◌≤◌, ◌<◌}
use mathlib.Core.Path.{◌≡◌, refl, sym, ap, ◌∙◌, subst}
use mathlib.Core.Bool.{Bool, true, false, cond, ◌&&◌, ◌||◌, true≢false}
use mathlib.Core.List.{List}
use mathlib.Core.Logic.{◌⊎◌, inl, inr, ⊎_elim}
use native.Mathlib.Nat.{le_trans}
use native.Mathlib.Numerals.{add-one}
use native.Mathlib.Omega.{arith}
use borrow.Author.Tests.{ltb-true, ltb-false, eqb-true, eqb-false}
use lib.Dec.{ltb, eqb}
use lib.ListN.{length, get_or}
use Rattle.lists.proofs.Bools.{and_true, or_cases}
use Rattle.counts.specs.Counts.{counted, some}
use Rattle.counts.proofs.Counts.{either, one, length_passed, counted_same, counted_sum, counted_split, counted_never, some_next, some_none, some_elim}
use Rattle.thin_rule.specs.Rule.{points_in, inside, many, quarter, share, keeps, kept}
use Rattle.thin_rule.specs.Strength.{strong, Ordered, Sound}
use Rattle.thin_rule.specs.declared.Region.{Region}
use Rattle.thin_laws.proofs.Best.{strong_zero, best_cut}
use Rattle.thin_laws.proofs.Quarters.{quarter_ordered, quarters_apart}
use Rattle.thin_laws.proofs.Cases.{keeps_inside, keeps_all, keeps_best, keeps_quarters}
use Rattle.thin_laws.proofs.Few.{total_mono, counted_some, share_some, shares_some, keeps_few}
use Rattle.thin_part.specs.Runs.{Beside}
use Rattle.thin_source.specs.Sources.{is_all, from_of, to_of, candidate, found, Covers, bound_of, source_of, Split}
use Rattle.thin_source.specs.Adds.{Added}
use Rattle.thin_source.specs.declared.Source.{Source}
use Rattle.thin_source.specs.declared.Source.TheVariants.{All, Held}
use Rattle.thin_source.proofs.Covering.{covers_any, covers_put, covers_strong, covers_many}

-- ---- what is added

-- how many of those that pass f pass another test too
abbrev pub those : List ℕ → (ℕ → Bool) → (ℕ → Bool) → ℕ
those ws f g = counted 0 (points_in ws) (λ i. f i && g i)

pub added_same : (f g : (ℕ → Bool) → ℕ) (s t : List ℕ) (at end : ℕ) → ((h : ℕ → Bool) → f h ≡ g h) → Added f s t at end → Added g s t at end
added_same f g s t at end p a =
    record { count = a.count ∙ ap (λ (n : ℕ). at + n) (p (λ i. true)); beside = a.beside; each = λ l h. a.each l h ∙ p h }

pub added_none : (ws : List ℕ) (f : ℕ → Bool) (s : List ℕ) (at : ℕ) → ((i : ℕ) → f i ≡ false) → Added (those ws f) s s at at
added_none ws f s at p =
    record {
      count = let z = none (λ i. true) in omega arith;
      beside = record { length = refl; outside = λ k w. refl };
      each = λ l g. counted_never at at (λ k. g (get_or s k 0)) (λ k a b. absurd (omega arith)) ∙ sym (none g);
    }
  where
    none : (g : ℕ → Bool) → those ws f g ≡ 0
    none g = counted_never 0 (points_in ws) (λ i. f i && g i) (λ i a b. ap (λ (x : Bool). x && g i) (p i))

-- first those of one test, then those of another that no position passes beside it
pub added_then : (ws : List ℕ) (f g : ℕ → Bool) (s t u : List ℕ) (at mid end : ℕ) → ((i : ℕ) → f i ≡ true → g i ≡ true → ⊥) → Added (those ws f) s t at mid → Added (those ws g) t u mid end → Added (those ws (λ i. f i || g i)) s u at end
added_then ws f g s t u at mid end p a b =
    record {
      count = let x = a.count in let y = b.count in let z = sum (λ i. true) in omega arith;
      beside = record { length = b.beside.length ∙ a.beside.length; outside = λ k w. b.beside.outside k (late k w) ∙ a.beside.outside k (early k w) };
      each = λ l h.
          let x = a.count in let y = b.count in
          let n : mid ≤ length s = omega arith in
          let e : length t ≡ length s = a.beside.length in
          let m : end ≤ length t = omega arith in
          let first = counted_same at mid (λ k. h (get_or u k 0)) (λ k. h (get_or t k 0)) (λ k v w. ap h (b.beside.outside k (inl w))) ∙ a.each n h in
          let second = b.each m h in
          let c = counted_split at mid end (λ k. h (get_or u k 0)) (omega arith) (omega arith) in
          let z = sum h in
          omega arith;
    }
  where
    late : (k : ℕ) → (k < at) ⊎ (end ≤ k) → (k < mid) ⊎ (end ≤ k)
    late k w = ⊎_elim (λ l. inl (let x = a.count in omega arith)) (λ l. inr l) w

    early : (k : ℕ) → (k < at) ⊎ (end ≤ k) → (k < at) ⊎ (mid ≤ k)
    early k w = ⊎_elim (λ l. inl l) (λ l. inr (let y = b.count in omega arith)) w

    two : (x y z : Bool) → (x ≡ true → y ≡ true → ⊥) → one ((x || y) && z) ≡ one (x && z) + one (y && z)
    two true true z q = absurd (q refl refl)
    two true false z q = omega arith
    two false y z q = omega arith

    sum : (h : ℕ → Bool) → those ws (λ i. f i || g i) h ≡ those ws f h + those ws g h
    sum h = counted_sum 0 (points_in ws) (λ i. (f i || g i) && h i) (λ i. f i && h i) (λ i. g i && h i) (λ i v w. two (f i) (g i) (h i) (p i))

-- ---- the three cases of a region

module _ (ws : List ℕ) (d : ℕ) (r : Region) (q : ℕ) (s : List ℕ) (c : Source) (h : Covers ws r s c) where
  put_keeps : (t : ℕ) → ((i : ℕ) → i < points_in ws → strong ws r t i ≡ keeps ws d r q i) → (o p : List ℕ) (at end : ℕ) → Added (λ g. found s c (λ i. strong ws r t i && g i)) o p at end → Added (those ws (keeps ws d r q)) o p at end
  put_keeps t e o p at end a =
      added_same (λ g. found s c (λ i. strong ws r t i && g i)) (those ws (keeps ws d r q)) o p at end
      (λ g. covers_put ws r s c h t g ∙ counted_same 0 (points_in ws) (λ i. strong ws r t i && g i) (λ i. keeps ws d r q i && g i) (λ i v w. ap (λ (x : Bool). x && g i) (e i w))) a

  pub case_all : (m : ℕ) → m ≡ many ws r → m ≤ q → (o p : List ℕ) (at end : ℕ) → Added (λ g. found s c (λ i. strong ws r 0 i && g i)) o p at end → Added (those ws (keeps ws d r q)) o p at end
  case_all m x l o p at end a = put_keeps 0 (λ i w. strong_zero ws r i ∙ sym (keeps_all ws d r q i (omega arith))) o p at end a

  pub case_best : (m t : ℕ) → Sound ws → m ≡ many ws r → q < m → (ltb q 4 || eqb d 0) ≡ true → counted 0 (points_in ws) (strong ws r t) ≡ q → (o p : List ℕ) (at end : ℕ) → Added (λ g. found s c (λ i. strong ws r t i && g i)) o p at end → Added (those ws (keeps ws d r q)) o p at end
  case_best m t u x l f e o p at end a =
      put_keeps t (λ i w. sym (keeps_best ws d r q i (omega arith) last ∙ best_cut ws r u q t e i w)) o p at end a
    where
      last : (q < 4) ⊎ (d ≡ 0)
      last = ⊎_elim (λ v. inl (ltb-true q 4 v)) (λ v. inr (eqb-true d 0 v)) (or_cases (ltb q 4) (eqb d 0) f)

  -- there is room for what is put: no more than the quota
  pub room_all : (m at : ℕ) → m ≡ many ws r → m ≤ q → at + q < 2 ^ 64 → at + found s c (strong ws r 0) < 2 ^ 64
  room_all m at x l k = let e = covers_many ws r s c h in omega arith

  pub room_best : (t at : ℕ) → counted 0 (points_in ws) (strong ws r t) ≡ q → at + q < 2 ^ 64 → at + found s c (strong ws r t) < 2 ^ 64
  room_best t at e k = let f = covers_strong ws r s c h t in omega arith

pub not_last : (q d : ℕ) → (ltb q 4 || eqb d 0) ≡ false → (4 ≤ q) × (0 < d)
not_last q d h =
    (ltb-false q 4 (left (ltb q 4) (eqb d 0) h), pos d (eqb-false d 0 (right (ltb q 4) (eqb d 0) h)))
  where
    left : (a b : Bool) → (a || b) ≡ false → a ≡ false
    left true b h = h
    left false b h = refl

    right : (a b : Bool) → (a || b) ≡ false → b ≡ false
    right true b h = absurd (true≢false h)
    right false b h = h

    pos : (d : ℕ) → (d ≡ 0 → ⊥) → 0 < d
    pos d f = omega arith

-- ---- the quarters, one after the other

bound_order : (b : List ℕ) → ((k : ℕ) → k < 4 → bound_of b k ≤ bound_of b (suc k)) → (k : ℕ) → k < 4 → (bound_of b 0 ≤ bound_of b k) × (bound_of b k ≤ bound_of b (k + 1))
bound_order b f zero l = (omega arith, f 0 l)
bound_order b f (suc k) l = let g = bound_order b f k (omega arith) in let h = f k (omega arith) in (omega arith, rw add-one (f (suc k) l))

-- a source stays where the list changed before it
covers_beside : (ws : List ℕ) (r : Region) (s t : List ℕ) (c : Source) (x y : ℕ) → y ≤ from_of c → Beside s t x y → Covers ws r s c → Covers ws r t c
unfolding candidate
covers_beside ws r s t c x y l d h =
    record {
      stands = record { order = h.stands.order; room = λ e. let a = h.stands.room e in let b = d.length in omega arith; each = λ k a b. subst (λ (v : ℕ). v < points_in ws) (sym (is k a)) (h.stands.each k a b) };
      each = λ g. counted_same (from_of c) (to_of c) (λ k. inside ws r (candidate (is_all c) t k) && g (candidate (is_all c) t k)) (λ k. inside ws r (candidate (is_all c) s k) && g (candidate (is_all c) s k)) (λ k a b. ap (λ (v : ℕ). inside ws r v && g v) (is k a)) ∙ h.each g;
    }
  where
    is : (k : ℕ) → from_of c ≤ k → candidate (is_all c) t k ≡ candidate (is_all c) s k
    is k a = ap (cond (is_all c) k) (d.outside k (inr (le_trans l a)))

-- after k quarters: what they keep is added, and the lent list is as it was split but for their parts
pub record Rounds (ws : List ℕ) (d : ℕ) (r : Region) (q : ℕ) (c : Source) (b : List ℕ) (s o : List ℕ) (at k : ℕ) (t p : List ℕ) (end : ℕ) : Type 0 where
  pub few : k ≤ 4
  pub added : Added (those ws (λ i. some k (λ j. keeps ws d (quarter r j) (share q j) i))) o p at end
  pub same : length t ≡ length s
  pub beside : is_all c ≡ false → Beside s t (bound_of b 0) (bound_of b k)

pub rounds_start : (ws : List ℕ) (d : ℕ) (r : Region) (q : ℕ) (c : Source) (b : List ℕ) (s o : List ℕ) (at : ℕ) → Rounds ws d r q c b s o at 0 s o at
rounds_start ws d r q c b s o at =
    record {
      few = omega arith;
      added = added_none ws (λ i. some 0 (λ j. keeps ws d (quarter r j) (share q j) i)) o at (λ i. some_none (λ j. keeps ws d (quarter r j) (share q j) i));
      same = refl;
      beside = λ z. record { length = refl; outside = λ k w. refl };
    }

module _ (ws : List ℕ) (d : ℕ) (r : Region) (q : ℕ) (c : Source) (b : List ℕ) (s₀ s o : List ℕ) (at k : ℕ) (t p : List ℕ) (end : ℕ) (n : Split ws r s₀ s c b) (g : Rounds ws d r q c b s o at k t p end) (l : k < 4) where
  from_is : is_all c ≡ false → from_of (source_of c b k) ≡ bound_of b k
  unfolding source_of
  from_is z = rw z

  to_is : is_all c ≡ false → to_of (source_of c b k) ≡ bound_of b (k + 1)
  unfolding source_of
  to_is z = rw (z, add-one)

  all_is : is_all (source_of c b k) ≡ is_all c
  unfolding source_of
  all_is = either_way (is_all c) refl
    where
      either_way : (x : Bool) → is_all c ≡ x → is_all (cond (is_all c) c (Held (bound_of b k) (bound_of b (suc k)))) ≡ is_all c
      either_way true z = rw z z
      either_way false z = rw z

  pub rounds_covers : (x : Region) (e : Source) → x ≡ quarter r k → e ≡ source_of c b k → Covers ws x t e
  rounds_covers x e u v =
      subst (λ (y : Region). Covers ws y t e) (sym u)
      (subst (Covers ws (quarter r k) t) (sym v)
      (⊎_elim
      (λ z. covers_any ws (quarter r k) s t (source_of c b k) (all_is ∙ z) (n.covers k l))
      (λ z. covers_beside ws (quarter r k) s t (source_of c b k) (bound_of b 0) (bound_of b k) (let w = from_is z in omega arith) (g.beside z) (n.covers k l))
      (either (is_all c))))

  pub rounds_room : Sound ws → Ordered r → (y : ℕ) → y ≡ share q k → at + q < 2 ^ 64 → end + y < 2 ^ 64
  rounds_room u o' y v w =
      let a = g.added.count in
      let m = counted_same 0 (points_in ws) (λ i. some k (λ j. keeps ws d (quarter r j) (share q j) i) && true) (λ i. some k (λ j. keeps ws d (quarter r j) (share q j) i)) (λ i x z. and_true (some k (λ j. keeps ws d (quarter r j) (share q j) i))) in
      let e = counted_some k (λ j. keeps ws d (quarter r j) (share q j)) (points_in ws) in
      let f = total_mono k (λ j. counted 0 (points_in ws) (keeps ws d (quarter r j) (share q j))) (share q) (λ j. keeps_few ws u d (quarter r j) (share q j) (quarter_ordered r j o')) in
      let h = shares_some q k l in
      omega arith

  pub rounds_turn : (x : Region) (y : ℕ) (e : Source) (t' p' : List ℕ) (end' : ℕ) → x ≡ quarter r k → y ≡ share q k → e ≡ source_of c b k → length t' ≡ length t
      → Added (those ws (keeps ws d x y)) p p' end end' → (is_all e ≡ false → Beside t t' (from_of e) (to_of e)) → Rounds ws d r q c b s o at (k + 1) t' p' end'
  rounds_turn x y e t' p' end' u v w m a z =
      record {
        few = omega arith;
        added =
            added_same (those ws (λ i. some k (λ j. keeps ws d (quarter r j) (share q j) i) || keeps ws d x y i)) (those ws (λ i. some (k + 1) (λ j. keeps ws d (quarter r j) (share q j) i))) o p' at end'
            (λ h. counted_same 0 (points_in ws) (λ i. (some k (λ j. keeps ws d (quarter r j) (share q j) i) || keeps ws d x y i) && h i) (λ i. some (k + 1) (λ j. keeps ws d (quarter r j) (share q j) i) && h i)
            (λ i f₁ f₂. ap (λ (z : Bool). z && h i) (one_more i)))
            (added_then ws (λ i. some k (λ j. keeps ws d (quarter r j) (share q j) i)) (keeps ws d x y) o p p' at end end' apart g.added a);
        same = m ∙ g.same;
        beside = λ f. joined f (g.beside f) (z (ap is_all w ∙ all_is ∙ f)) (bound_order b (n.order f) k l);
      }
    where
      one_more : (i : ℕ) → (some k (λ j. keeps ws d (quarter r j) (share q j) i) || keeps ws d x y i) ≡ some (k + 1) (λ j. keeps ws d (quarter r j) (share q j) i)
      one_more i = rw (u, v) (sym (some_next k (λ j. keeps ws d (quarter r j) (share q j) i)))

      apart : (i : ℕ) → some k (λ j. keeps ws d (quarter r j) (share q j) i) ≡ true → keeps ws d x y i ≡ true → ⊥
      apart i f h =
          some_elim (λ j. keeps ws d (quarter r j) (share q j) i) k
          (λ j a₁ a₂. let e₁ = quarters_apart ws r j k i (omega arith) l (keeps_inside ws d (quarter r j) (share q j) i a₂) (subst (λ (z : Region). inside ws z i ≡ true) u (keeps_inside ws d x y i h)) in omega arith) f

      joined : is_all c ≡ false → Beside s t (bound_of b 0) (bound_of b k) → Beside t t' (from_of e) (to_of e) → (bound_of b 0 ≤ bound_of b k) × (bound_of b k ≤ bound_of b (k + 1)) → Beside s t' (bound_of b 0) (bound_of b (k + 1))
      joined f x₁ x₂ x₃ =
          let i : from_of e ≡ bound_of b k = ap from_of w ∙ from_is f in
          let j : to_of e ≡ bound_of b (k + 1) = ap to_of w ∙ to_is f in
          record {
            length = x₂.length ∙ x₁.length;
            outside = λ m v₁. x₂.outside m (⊎_elim (λ z. inl (omega (arith, x₃.0))) (λ z. inr (omega arith)) v₁) ∙ x₁.outside m (⊎_elim (λ z. inl z) (λ z. inr (omega (arith, x₃.1))) v₁);
          }

pub rounds_end : (ws : List ℕ) (d e : ℕ) (r : Region) (q m : ℕ) (c : Source) (b : List ℕ) (s o : List ℕ) (at k : ℕ) (t p : List ℕ) (end : ℕ) → Ordered r → m ≡ many ws r → q < m → 4 ≤ q → 0 < d → e ≡ d - 1 → k ≡ 4 → Rounds ws e r q c b s o at k t p end → Added (those ws (keeps ws d r q)) o p at end
rounds_end ws zero e r q m c b s o at k t p end u x l i j f h g = absurd (let z = j in omega arith)
rounds_end ws (suc d) e r q m c b s o at k t p end u x l i j f h g =
    added_same (those ws (λ i. some k (λ j. keeps ws e (quarter r j) (share q j) i))) (those ws (keeps ws (suc d) r q)) o p at end
    (λ v. counted_same 0 (points_in ws) (λ i. some k (λ j. keeps ws e (quarter r j) (share q j) i) && v i) (λ i. keeps ws (suc d) r q i && v i)
    (λ n y z. ap (λ (w : Bool). w && v n) (four n))) g.added
  where
    is : e ≡ d
    is = omega arith

    four : (n : ℕ) → some k (λ j. keeps ws e (quarter r j) (share q j) n) ≡ keeps ws (suc d) r q n
    four n = rw (h, is) (sym (keeps_quarters ws d r q n u (omega arith) i))

pub depth_falls : (d t : ℕ) → 0 < d → d ≡ t → d - 1 < t
depth_falls d t h e = omega arith

pub next_ordered : (r x : Region) (k : ℕ) → x ≡ quarter r k → Ordered r → Ordered x
next_ordered r x k e o = subst Ordered (sym e) (quarter_ordered r k o)

pub next_some : (q k y : ℕ) → y ≡ share q k → 4 ≤ q → 1 ≤ y
next_some q k y e h = let z = share_some q k h in omega arith

-- ---- the frame

-- all positions are a source of any region
pub covers_whole : (ws : List ℕ) (r : Region) (s : List ℕ) (n : ℕ) → n ≡ points_in ws → Covers ws r s (All 0 n)
unfolding candidate
covers_whole ws r s n e =
    record {
      stands = record { order = omega arith; room = λ z. absurd (true≢false z); each = λ k a b. omega arith };
      each = λ g. ap (λ (m : ℕ). counted 0 m (λ i. inside ws r i && g i)) e;
    }

pub count_kept : (ws : List ℕ) (d : ℕ) (r : Region) (q : ℕ) (s t : List ℕ) (m : ℕ) → Added (those ws (keeps ws d r q)) s t 0 m → m ≡ length (kept ws d r q)
unfolding kept
count_kept ws d r q s t m a =
    let x = a.count in
    let y = counted_same 0 (points_in ws) (λ i. keeps ws d r q i && true) (keeps ws d r q) (λ i v w. and_true (keeps ws d r q i)) in
    let z = length_passed 0 (points_in ws) (keeps ws d r q) in
    omega arith
