-- The strongest keypoint up to a strength, found in one run over a source: from its strength on there is one more. Assumes nothing.
use Prim.Native.Nat.{ℕ, ◌+◌, ◌-◌, ◌≤◌, ◌<◌}
use mathlib.Core.Path.{◌≡◌, refl, sym, ap, ◌∙◌, subst}
use mathlib.Core.Bool.{Bool, true, false, cond, ◌&&◌, false≢true}
use mathlib.Core.List.{List}
use mathlib.Core.Logic.{◌⊎◌, inl, inr, ⊎_elim}
use native.Mathlib.Nat.{le_refl, sub-add_cancel}
use native.Mathlib.Omega.{arith}
use borrow.Author.Tests.{ltb-true, lt-ltb, le-ltb, leb-true, le-leb, lt-leb}
use lib.Dec.{leb, ltb}
use Rattle.lists.proofs.Naturals.{le_or_lt}
use Rattle.lists.proofs.Bools.{and_left, and_right, both_and}
use Rattle.counts.specs.Counts.{counted}
use Rattle.counts.proofs.Counts.{one, counted_none, counted_next, counted_same, counted_mono, counted_sum, counted_never, counted_zero, counted_single}
use Rattle.thin_rule.specs.Rule.{points_in, inside, many}
use Rattle.thin_rule.specs.Strength.{strength, strong, edges_of, edged, Ordered, Sound}
use Rattle.thin_rule.specs.declared.Region.{Region}
use Rattle.thin_rule.specs.declared.Edges.{Edges}
use Rattle.thin_laws.proofs.Strengths.{strength_apart}
use Rattle.thin_laws.proofs.Best.{strong_zero}
use Rattle.thin_laws.proofs.Edged.{inside_edged}
use Rattle.thin_source.specs.Sources.{is_all, from_of, to_of, candidate, found, Covers}
use Rattle.thin_source.specs.declared.Source.{Source}
use Rattle.thin_source.proofs.Covering.{covers_test}

-- ---- of the candidates below k that pass the test none is stronger than b, and b is one's, or 0

pub record Topping (test : ℕ → Bool) (power cand : ℕ → ℕ) (from to k b : ℕ) : Type 0 where
  pub low : from ≤ k
  pub high : k ≤ to
  pub none : counted from k (λ j. test (cand j) && ltb b (power (cand j))) ≡ 0
  pub some : (b ≡ 0) ⊎ (1 ≤ counted from k (λ j. test (cand j) && leb b (power (cand j))))

pub topping_start : (test : ℕ → Bool) (power cand : ℕ → ℕ) (from to : ℕ) → from ≤ to → Topping test power cand from to from 0
topping_start test power cand from to h = record { low = le_refl from; high = h; none = counted_none from from (λ j. test (cand j) && ltb 0 (power (cand j))) (le_refl from); some = inl refl }

pub topping_turn : (test : ℕ → Bool) (power cand : ℕ → ℕ) (from to k b p b' : ℕ) → Topping test power cand from to k b → k < to → p ≡ cand k → b' ≡ cond (test p && ltb b (power p)) (power p) b → Topping test power cand from to (k + 1) b'
topping_turn test power cand from to k b p b' i h z w = rw (w, z) (turn (test (cand k) && ltb b (power (cand k))) refl)
  where
    low : from ≤ k + 1
    low = let l = i.low in omega arith

    turn : (x : Bool) → (test (cand k) && ltb b (power (cand k))) ≡ x → Topping test power cand from to (k + 1) (cond x (power (cand k)) b)
    turn true e =
        let x = power (cand k) in
        let l = ltb-true b (power (cand k)) (and_right (test (cand k)) (ltb b (power (cand k))) e) in
        let t = and_left (test (cand k)) (ltb b (power (cand k))) e in
        record {
          low = low;
          high = omega arith;
          none =
              let n = counted_next from k (λ j. test (cand j) && ltb x (power (cand j))) i.low in
              let m = counted_mono from k (λ j. test (cand j) && ltb x (power (cand j))) (λ j. test (cand j) && ltb b (power (cand j)))
              (λ j _ _ f. both_and (test (cand j)) (ltb b (power (cand j))) (and_left (test (cand j)) (ltb x (power (cand j))) f) (lt-ltb b (power (cand j)) (let y = ltb-true x (power (cand j)) (and_right (test (cand j)) (ltb x (power (cand j))) f) in omega arith))) in
              let o : one (test (cand k) && ltb x (power (cand k))) ≡ 0 = rw (le-ltb x (power (cand k)) (le_refl x), t) in
              let z = i.none in
              omega arith;
          some =
              inr
              (let n = counted_next from k (λ j. test (cand j) && leb x (power (cand j))) i.low in
              let o : one (test (cand k) && leb x (power (cand k))) ≡ 1 = rw (le-leb x (power (cand k)) (le_refl x), t) in
              omega arith);
        }
    turn false e =
        record {
          low = low;
          high = omega arith;
          none =
              let n = counted_next from k (λ j. test (cand j) && ltb b (power (cand j))) i.low in
              let o : one (test (cand k) && ltb b (power (cand k))) ≡ 0 = rw e in
              let z = i.none in
              omega arith;
          some = ⊎_elim (λ z. inl z) (λ l. inr (let n = counted_next from k (λ j. test (cand j) && leb b (power (cand j))) i.low in omega arith)) i.some;
        }

-- ---- the region's keypoints up to u

abbrev pub capped : List ℕ → Edges → ℕ → ℕ → Bool
capped ws e u p = edged ws e p && leb (strength ws p) u

module _ (ws : List ℕ) (r : Region) (u : ℕ) (sd : Sound ws) (few : counted 0 (points_in ws) (strong ws r (u + 1)) < many ws r) where
  -- each keypoint is above u or not
  above_or : (b i : ℕ) → b ≤ u + 1 → one (strong ws r b i) ≡ one (strong ws r (u + 1) i) + one ((inside ws r i && leb (strength ws i) u) && leb b (strength ws i))
  unfolding strong
  above_or b i h =
      ⊎_elim
      (λ l. let x = le-leb (u + 1) (strength ws i) l in let y = lt-leb (strength ws i) u (omega arith) in let z = le-leb b (strength ws i) (omega arith) in rw (x, y, z) (yes (inside ws r i)))
      (λ l. let x = lt-leb (u + 1) (strength ws i) l in let y = le-leb (strength ws i) u (omega arith) in rw (x, y) (no (inside ws r i) (leb b (strength ws i))))
      (le_or_lt (u + 1) (strength ws i))
    where
      yes : (a : Bool) → one (a && true) ≡ one (a && true) + one ((a && false) && true)
      yes true = refl
      yes false = refl

      no : (a c : Bool) → one (a && c) ≡ one (a && false) + one ((a && true) && c)
      no true c = omega arith
      no false c = refl

  split_count : (b : ℕ) → b ≤ u + 1 → counted 0 (points_in ws) (strong ws r b) ≡ counted 0 (points_in ws) (strong ws r (u + 1)) + counted 0 (points_in ws) (λ i. (inside ws r i && leb (strength ws i) u) && leb b (strength ws i))
  split_count b h = counted_sum 0 (points_in ws) (strong ws r b) (strong ws r (u + 1)) (λ i. (inside ws r i && leb (strength ws i) u) && leb b (strength ws i)) (λ i _ _. above_or b i h)

  -- where none of them is above b, and one of them has it, there is one
  one_at : (b : ℕ) → counted 0 (points_in ws) (λ i. (inside ws r i && leb (strength ws i) u) && ltb b (strength ws i)) ≡ 0 → counted 0 (points_in ws) (λ i. (inside ws r i && leb (strength ws i) u) && leb b (strength ws i)) ≤ 1
  one_at b z = counted_single 0 (points_in ws) (λ i. (inside ws r i && leb (strength ws i) u) && leb b (strength ws i)) (λ i j _ p _ q e f. strength_apart ws sd i j p q (is i p e ∙ sym (is j q f)))
    where
      is : (i : ℕ) → i < points_in ws → ((inside ws r i && leb (strength ws i) u) && leb b (strength ws i)) ≡ true → strength ws i ≡ b
      is i p e =
          let a = and_left (inside ws r i && leb (strength ws i) u) (leb b (strength ws i)) e in
          let l = leb-true b (strength ws i) (and_right (inside ws r i && leb (strength ws i) u) (leb b (strength ws i)) e) in
          let n = counted_zero 0 (points_in ws) (λ j. (inside ws r j && leb (strength ws j) u) && ltb b (strength ws j)) z i (omega arith) p in
          ⊎_elim (λ m. omega arith) (λ m. absurd (false≢true (sym n ∙ both_and (inside ws r i && leb (strength ws i) u) (ltb b (strength ws i)) a (lt-ltb b (strength ws i) m)))) (le_or_lt (strength ws i) b)

  next_is : (b : ℕ) → counted 0 (points_in ws) (λ i. (inside ws r i && leb (strength ws i) u) && ltb b (strength ws i)) ≡ 0
      → (b ≡ 0) ⊎ (1 ≤ counted 0 (points_in ws) (λ i. (inside ws r i && leb (strength ws i) u) && leb b (strength ws i)))
      → counted 0 (points_in ws) (strong ws r b) ≡ counted 0 (points_in ws) (strong ws r (u + 1)) + 1
  next_is b z w =
      let o = one_at b z in
      ⊎_elim
      (λ e. let x = split_count b (omega arith) in let y = subst (λ (v : ℕ). counted 0 (points_in ws) (strong ws r v) ≡ many ws r) (sym e) whole in omega arith)
      (λ l. let x = split_count b (below b l) in omega arith)
      w
    where
      whole : counted 0 (points_in ws) (strong ws r 0) ≡ many ws r
      whole = counted_same 0 (points_in ws) (strong ws r 0) (inside ws r) (λ i _ _. strong_zero ws r i)

      below : (b : ℕ) → 1 ≤ counted 0 (points_in ws) (λ i. (inside ws r i && leb (strength ws i) u) && leb b (strength ws i)) → b ≤ u + 1
      below b l =
          ⊎_elim (λ m. m)
          (λ m. absurd
          (let n = counted_never 0 (points_in ws) (λ i. (inside ws r i && leb (strength ws i) u) && leb b (strength ws i)) (λ i _ _. apart (inside ws r i) (strength ws i) m) in omega arith))
          (le_or_lt b (u + 1))
        where
          apart : (a : Bool) (x : ℕ) → u + 1 < b → ((a && leb x u) && leb b x) ≡ false
          apart false x m = refl
          apart true x m = ⊎_elim (λ l. rw (le-leb x u l) (lt-leb b x (omega arith))) (λ l. rw (lt-leb x u l)) (le_or_lt x u)

  -- found by the edges in a source
  pub next_found : (e : Edges) (s : List ℕ) (c : Source) (k b : ℕ) → Ordered r → Covers ws r s c → e ≡ edges_of r → to_of c ≤ k → Topping (capped ws e u) (strength ws) (candidate (is_all c) s) (from_of c) (to_of c) k b
      → counted 0 (points_in ws) (strong ws r b) ≡ counted 0 (points_in ws) (strong ws r (u + 1)) + 1
  next_found e s c k b o h z l i =
      next_is b (sym (all (λ p. ltb b (strength ws p))) ∙ none) (⊎_elim (λ x. inl x) (λ x. inr (let y = all (λ p. leb b (strength ws p)) in let w = some x in omega arith)) i.some)
    where
      same : k ≡ to_of c
      same = let x = i.high in omega arith

      edge : (g : ℕ → Bool) → counted (from_of c) (to_of c) (λ j. capped ws e u (candidate (is_all c) s j) && g (candidate (is_all c) s j)) ≡ found s c (λ p. (inside ws r p && leb (strength ws p) u) && g p)
      edge g =
          counted_same (from_of c) (to_of c) (λ j. capped ws e u (candidate (is_all c) s j) && g (candidate (is_all c) s j)) (λ j. (inside ws r (candidate (is_all c) s j) && leb (strength ws (candidate (is_all c) s j)) u) && g (candidate (is_all c) s j))
          (λ j a d. rw (inside_edged ws r (candidate (is_all c) s j) sd o (h.stands.each j a d), z))

      all : (g : ℕ → Bool) → found s c (λ p. (inside ws r p && leb (strength ws p) u) && g p) ≡ counted 0 (points_in ws) (λ i. (inside ws r i && leb (strength ws i) u) && g i)
      all g =
          covers_test ws r s c h (λ p. (inside ws r p && leb (strength ws p) u) && g p)
          (λ j f. and_left (inside ws r j) (leb (strength ws j) u) (and_left (inside ws r j && leb (strength ws j) u) (g j) f))

      none : found s c (λ p. (inside ws r p && leb (strength ws p) u) && ltb b (strength ws p)) ≡ 0
      none = sym (edge (λ p. ltb b (strength ws p))) ∙ subst (λ (v : ℕ). counted (from_of c) v (λ j. capped ws e u (candidate (is_all c) s j) && ltb b (strength ws (candidate (is_all c) s j))) ≡ 0) same i.none

      some : 1 ≤ counted (from_of c) k (λ j. capped ws e u (candidate (is_all c) s j) && leb b (strength ws (candidate (is_all c) s j))) → 1 ≤ found s c (λ p. (inside ws r p && leb (strength ws p) u) && leb b (strength ws p))
      some x = let y = edge (λ p. leb b (strength ws p)) in let w = ap (λ (v : ℕ). counted (from_of c) v (λ j. capped ws e u (candidate (is_all c) s j) && leb b (strength ws (candidate (is_all c) s j)))) same in omega arith

-- ---- one after the other

-- the k strongest begin at t
pub record Tops (ws : List ℕ) (r : Region) (q t k : ℕ) : Type 0 where
  pub some : 1 ≤ k
  pub high : k ≤ q
  pub count : counted 0 (points_in ws) (strong ws r t) ≡ k

none_past : (ws : List ℕ) (r : Region) (u : ℕ) → ((i : ℕ) → i < points_in ws → strength ws i ≤ u) → counted 0 (points_in ws) (strong ws r (u + 1)) ≡ 0
unfolding strong
none_past ws r u f = counted_never 0 (points_in ws) (λ i. inside ws r i && leb (u + 1) (strength ws i)) (λ i _ p. past (inside ws r i) (strength ws i) (f i p))
  where
    past : (a : Bool) (x : ℕ) → x ≤ u → (a && leb (u + 1) x) ≡ false
    past true x l = lt-leb (u + 1) x (omega arith)
    past false x l = refl

pub tops_start : (ws : List ℕ) (r : Region) (q u t : ℕ) → 1 ≤ q → ((i : ℕ) → i < points_in ws → strength ws i ≤ u) → counted 0 (points_in ws) (strong ws r t) ≡ counted 0 (points_in ws) (strong ws r (u + 1)) + 1 → Tops ws r q t 1
tops_start ws r q u t h f e = record { some = le_refl 1; high = h; count = let z = none_past ws r u f in omega arith }

pub first_asks : (ws : List ℕ) (r : Region) (q u : ℕ) → ((i : ℕ) → i < points_in ws → strength ws i ≤ u) → q < many ws r → counted 0 (points_in ws) (strong ws r (u + 1)) < many ws r
first_asks ws r q u f l = let z = none_past ws r u f in omega arith

module _ (ws : List ℕ) (r : Region) (q t k : ℕ) (g : Tops ws r q t k) (l : k < q) (m : q < many ws r) where
  pub tops_above : 1 ≤ t
  tops_above = ⊎_elim (λ h. h) (λ h. absurd (let e : t ≡ 0 = omega arith in let x = subst (λ (v : ℕ). counted 0 (points_in ws) (strong ws r v) ≡ k) e g.count in let y = counted_same 0 (points_in ws) (strong ws r 0) (inside ws r) (λ i _ _. strong_zero ws r i) in omega arith)) (le_or_lt 1 t)

  pub tops_asks : counted 0 (points_in ws) (strong ws r (t - 1 + 1)) < many ws r
  tops_asks = rw (sub-add_cancel tops_above) (let e = g.count in omega arith)

  pub tops_turn : (t' : ℕ) → counted 0 (points_in ws) (strong ws r t') ≡ counted 0 (points_in ws) (strong ws r (t - 1 + 1)) + 1 → Tops ws r q t' (k + 1)
  tops_turn t' e = record { some = omega arith; high = omega arith; count = e ∙ ap (λ (v : ℕ). v + 1) (ap (λ (v : ℕ). counted 0 (points_in ws) (strong ws r v)) (sub-add_cancel tops_above) ∙ g.count) }

pub tops_end : (ws : List ℕ) (r : Region) (q t k : ℕ) → Tops ws r q t k → q ≤ k → counted 0 (points_in ws) (strong ws r t) ≡ q
tops_end ws r q t k g l = let h = g.high in let e = g.count in omega arith
