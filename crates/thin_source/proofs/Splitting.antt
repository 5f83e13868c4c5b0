-- A run that is parted at a row, and each part at a column, has the keypoints of each quarter in a part of its own. Assumes nothing.
use Prim.Native.Nat.{ℕ, zero, suc, ◌≤◌, ◌<◌}
use mathlib.Core.Path.{◌≡◌, refl, sym, ap, ◌∙◌, subst}
use mathlib.Core.Bool.{Bool, true, false, not, ◌&&◌, true≢false}
use mathlib.Core.List.{List, [], ◌∷◌}
use mathlib.Core.Logic.{◌⊎◌, inl, inr, ⊎_elim}
use native.Mathlib.Nat.{le_refl, le_trans}
use native.Mathlib.Omega.{arith}
use borrow.Author.Tests.{lt-ltb}
use lib.Dec.{ltb}
use lib.ListN.{length, get_or}
use Rattle.lists.proofs.Bools.{and_false, and_left, and_assoc, both_and}
use Rattle.counts.proofs.Counts.{absorbed, counted_same, counted_never}
use Rattle.thin_rule.specs.Rule.{points_in, word_at, inside, middle, is_left, is_upper, quarter}
use Rattle.thin_order.specs.Place.{bare}
use Rattle.thin_rule.specs.Strength.{edge_at, Ordered, Sound}
use Rattle.thin_rule.specs.declared.Region.{Region}
use Rattle.thin_laws.proofs.Edged.{edge_less}
use Rattle.thin_laws.proofs.Quarters.{quarter_column, quarter_row}
use Rattle.thin_part.specs.Runs.{held, Listed, Beside, Parted}
use Rattle.thin_part.proofs.Parts.{none_listed}
use Rattle.thin_part.specs.Cuts.{below}
use Rattle.thin_part.specs.declared.Cut.TheVariants.{Column, Row}
use Rattle.thin_source.specs.Sources.{is_all, candidate, Stands, Covers, bound_of, source_of, Split}
use Rattle.thin_source.specs.declared.Source.{Source}
use Rattle.thin_source.specs.declared.Source.TheVariants.{Held}
use Rattle.thin_source.proofs.Covering.{covers_quarter}

-- of the run of s, those that pass the test stand in t from a to below b
pub record Piece (test : ℕ → Bool) (s t : List ℕ) (from to a b : ℕ) : Type 0 where
  pub order : a ≤ b
  pub high : b ≤ to
  pub length : length t ≡ length s
  pub each : (g : ℕ → Bool) → held t a b g ≡ held s from to (λ p. test p && g p)

-- a piece of what a piece has
piece_then : (f e : ℕ → Bool) (s t u : List ℕ) (from to a b x y : ℕ) → Piece f s t from to a b → Piece e t u a b x y → Piece (λ p. f p && e p) s u from to x y
piece_then f e s t u from to a b x y p q =
    record {
      order = q.order;
      high = le_trans q.high p.high;
      length = q.length ∙ p.length;
      each = λ g. q.each g ∙ p.each (λ i. e i && g i) ∙ counted_same from to (λ k. f (get_or s k 0) && (e (get_or s k 0) && g (get_or s k 0))) (λ k. (f (get_or s k 0) && e (get_or s k 0)) && g (get_or s k 0)) (λ k l m. sym (and_assoc (f (get_or s k 0)) (e (get_or s k 0)) (g (get_or s k 0))));
    }

-- a piece stays where the list changes elsewhere
piece_beside : (f : ℕ → Bool) (s t u : List ℕ) (from to a b x y : ℕ) → (b ≤ x) ⊎ (y ≤ a) → Piece f s t from to a b → Beside t u x y → Piece f s u from to a b
piece_beside f s t u from to a b x y w p q =
    record {
      order = p.order;
      high = p.high;
      length = q.length ∙ p.length;
      each = λ g. counted_same a b (λ k. g (get_or u k 0)) (λ k. g (get_or t k 0)) (λ k l m. ap g (q.outside k (⊎_elim (λ z. inl (omega arith)) (λ z. inr (omega arith)) w))) ∙ p.each g;
    }

piece_first : (f : ℕ → Bool) (s t : List ℕ) (from m to : ℕ) → Parted f s t from m to → Piece f s t from to from m
piece_first f s t from m to p = record { order = p.low; high = p.high; length = p.beside.length; each = p.first }

piece_second : (f : ℕ → Bool) (s t : List ℕ) (from m to : ℕ) → Parted f s t from m to → Piece (λ p. not (f p)) s t from to m to
piece_second f s t from m to p = record { order = p.high; high = le_refl to; length = p.beside.length; each = p.second }

-- a piece has positions of the list, as its run does
piece_listed : (f : ℕ → Bool) (n : ℕ) (s t : List ℕ) (from to a b : ℕ) → Piece f s t from to a b → Listed n s from to → Listed n t a b
piece_listed f n s t from to a b p h =
    none_listed n t a b
    (p.each (λ i. not (ltb i n))
    ∙ counted_never from to (λ j. f (get_or s j 0) && not (ltb (get_or s j 0) n)) (λ j l m. rw (lt-ltb (get_or s j 0) n (h.each j l m)) (and_false (f (get_or s j 0)))))

run_listed : (n : ℕ) (s : List ℕ) (from to : ℕ) → Stands n s (Held from to) → Listed n s from to
unfolding candidate
run_listed n s from to h = record { each = h.each }

pub held_listed : (n : ℕ) (s : List ℕ) (c : Source) (from to : ℕ) → c ≡ Held from to → Stands n s c → Listed n s from to
held_listed n s c from to e h = run_listed n s from to (subst (Stands n s) e h)

-- a piece with all keypoints of a quarter is a source of it
piece_covers : (ws : List ℕ) (r : Region) (k : ℕ) (s t : List ℕ) (from to : ℕ) (f : ℕ → Bool) (a b : ℕ) → Ordered r → Covers ws r s (Held from to) → Piece f s t from to a b
    → ((p : ℕ) → p < points_in ws → inside ws (quarter r k) p ≡ true → f p ≡ true) → Covers ws (quarter r k) t (Held a b)
unfolding candidate
piece_covers ws r k s t from to f a b o h p w =
    record {
      stands = record { order = p.order; room = λ n. let x = h.stands.room n in let y = p.length in let v = p.high in omega arith; each = (piece_listed f (points_in ws) s t from to a b p (run_listed (points_in ws) s from to h.stands)).each };
      each = λ g.
          p.each (λ i. inside ws (quarter r k) i && g i)
          ∙ counted_same from to (λ j. f (get_or s j 0) && (inside ws (quarter r k) (get_or s j 0) && g (get_or s j 0))) (λ j. inside ws (quarter r k) (get_or s j 0) && g (get_or s j 0))
          (λ j l m. absorbed (f (get_or s j 0)) (inside ws (quarter r k) (get_or s j 0) && g (get_or s j 0)) (λ v. w (get_or s j 0) (h.stands.each j l m) (and_left (inside ws (quarter r k) (get_or s j 0)) (g (get_or s j 0)) v)))
          ∙ (covers_quarter ws r k s (Held from to) o h).each g;
    }

-- ---- the four pieces

source_all : (c : Source) (b : List ℕ) (k : ℕ) → is_all c ≡ true → source_of c b k ≡ c
unfolding source_of
source_all c b k z = rw z

module _ (ws : List ℕ) (r : Region) (k x y i : ℕ) (s : Sound ws) (o : Ordered r) (e : x ≡ edge_at (middle r.left r.right)) (f : y ≡ edge_at (middle r.top r.bottom)) (l : i < points_in ws) (h : inside ws (quarter r k) i ≡ true) where
  side_column : below ws (Column x) i ≡ is_left k
  unfolding below
  side_column =
      ap (λ (v : ℕ). ltb (bare (word_at ws i 0)) v) e ∙ sym (edge_less (word_at ws i 0) (middle r.left r.right) (s.x i l) (let a = o.across in let b = o.right in omega arith)) ∙ quarter_column ws r k i h

  side_row : below ws (Row y) i ≡ is_upper k
  unfolding below
  side_row =
      ap (λ (v : ℕ). ltb (bare (word_at ws i 1)) v) f ∙ sym (edge_less (word_at ws i 1) (middle r.top r.bottom) (s.y i l) (let a = o.down in let b = o.bottom in omega arith)) ∙ quarter_row ws r k i h

-- the run parted at the row: the upper part and, after the upper part was parted too, the lower
pub upper_listed : (n : ℕ) (f : ℕ → Bool) (s t : List ℕ) (from m to : ℕ) → Parted f s t from m to → Listed n s from to → Listed n t from m
upper_listed n f s t from m to p h = piece_listed f n s t from to from m (piece_first f s t from m to p) h

pub lower_listed : (n : ℕ) (f g : ℕ → Bool) (s t u : List ℕ) (from k m to : ℕ) → Parted f s t from m to → Parted g t u from k m → Listed n s from to → Listed n u m to
lower_listed n f g s t u from k m to p q h =
    piece_listed (λ i. not (f i)) n s u from to m to (piece_beside (λ i. not (f i)) s t u from to m to from m (inr (le_refl m)) (piece_second f s t from m to p) q.beside) h

run_split : (ws : List ℕ) (r : Region) (x y : ℕ) (s t u v : List ℕ) (from second third fourth to : ℕ) → Sound ws → Ordered r → Covers ws r s (Held from to)
    → x ≡ edge_at (middle r.left r.right) → y ≡ edge_at (middle r.top r.bottom)
    → Parted (below ws (Row y)) s t from third to → Parted (below ws (Column x)) t u from second third → Parted (below ws (Column x)) u v third fourth to
    → Split ws r s v (Held from to) (from ∷ second ∷ third ∷ fourth ∷ to ∷ [])
unfolding source_of
run_split ws r x y s t u v from second third fourth to sd o h ex ey p1 p2 p3 =
    record {
      covers = covers;
      ends = λ n. (refl, refl);
      order = λ n. order;
      beside = λ n.
          record {
            length = p3.beside.length ∙ p2.beside.length ∙ p1.beside.length;
            outside = λ k w. p3.beside.outside k (apart3 k w) ∙ p2.beside.outside k (apart2 k w) ∙ p1.beside.outside k w;
          };
    }
  where
    b : List ℕ
    b = from ∷ second ∷ third ∷ fourth ∷ to ∷ []

    order : (k : ℕ) → k < 4 → bound_of b k ≤ bound_of b (suc k)
    order zero l = p2.low
    order (suc zero) l = p2.high
    order (suc (suc zero)) l = p3.low
    order (suc (suc (suc zero))) l = p3.high
    order (suc (suc (suc (suc k)))) l = absurd (omega arith)

    apart3 : (k : ℕ) → (k < from) ⊎ (to ≤ k) → (k < third) ⊎ (to ≤ k)
    apart3 k w = ⊎_elim (λ l. inl (let m = p1.low in omega arith)) (λ l. inr l) w

    apart2 : (k : ℕ) → (k < from) ⊎ (to ≤ k) → (k < from) ⊎ (third ≤ k)
    apart2 k w = ⊎_elim (λ l. inl l) (λ l. inr (let m = p1.high in omega arith)) w

    upper : Piece (below ws (Row y)) s t from to from third
    upper = piece_first (below ws (Row y)) s t from third to p1

    lower : Piece (λ p. not (below ws (Row y) p)) s u from to third to
    lower = piece_beside (λ p. not (below ws (Row y) p)) s t u from to third to from third (inr (le_refl third)) (piece_second (below ws (Row y)) s t from third to p1) p2.beside

    q0 : Piece (λ p. below ws (Row y) p && below ws (Column x) p) s v from to from second
    q0 = piece_beside (λ p. below ws (Row y) p && below ws (Column x) p) s u v from to from second third to (inl p2.high) (piece_then (below ws (Row y)) (below ws (Column x)) s t u from to from third from second upper (piece_first (below ws (Column x)) t u from second third p2)) p3.beside

    q1 : Piece (λ p. below ws (Row y) p && not (below ws (Column x) p)) s v from to second third
    q1 = piece_beside (λ p. below ws (Row y) p && not (below ws (Column x) p)) s u v from to second third third to (inl (le_refl third)) (piece_then (below ws (Row y)) (λ p. not (below ws (Column x) p)) s t u from to from third second third upper (piece_second (below ws (Column x)) t u from second third p2)) p3.beside

    q2 : Piece (λ p. not (below ws (Row y) p) && below ws (Column x) p) s v from to third fourth
    q2 = piece_then (λ p. not (below ws (Row y) p)) (below ws (Column x)) s u v from to third to third fourth lower (piece_first (below ws (Column x)) u v third fourth to p3)

    q3 : Piece (λ p. not (below ws (Row y) p) && not (below ws (Column x) p)) s v from to fourth to
    q3 = piece_then (λ p. not (below ws (Row y) p)) (λ p. not (below ws (Column x) p)) s u v from to third to fourth to lower (piece_second (below ws (Column x)) u v third fourth to p3)

    covers : (k : ℕ) → k < 4 → Covers ws (quarter r k) v (source_of (Held from to) b k)
    covers zero l =
        piece_covers ws r 0 s v from to (λ p. below ws (Row y) p && below ws (Column x) p) from second o h q0
        (λ i g n. both_and (below ws (Row y) i) (below ws (Column x) i) (side_row ws r 0 x y i sd o ex ey g n) (side_column ws r 0 x y i sd o ex ey g n))
    covers (suc zero) l =
        piece_covers ws r 1 s v from to (λ p. below ws (Row y) p && not (below ws (Column x) p)) second third o h q1
        (λ i g n. both_and (below ws (Row y) i) (not (below ws (Column x) i)) (side_row ws r 1 x y i sd o ex ey g n) (ap not (side_column ws r 1 x y i sd o ex ey g n)))
    covers (suc (suc zero)) l =
        piece_covers ws r 2 s v from to (λ p. not (below ws (Row y) p) && below ws (Column x) p) third fourth o h q2
        (λ i g n. both_and (not (below ws (Row y) i)) (below ws (Column x) i) (ap not (side_row ws r 2 x y i sd o ex ey g n)) (side_column ws r 2 x y i sd o ex ey g n))
    covers (suc (suc (suc zero))) l =
        piece_covers ws r 3 s v from to (λ p. not (below ws (Row y) p) && not (below ws (Column x) p)) fourth to o h q3
        (λ i g n. both_and (not (below ws (Row y) i)) (not (below ws (Column x) i)) (ap not (side_row ws r 3 x y i sd o ex ey g n)) (ap not (side_column ws r 3 x y i sd o ex ey g n)))
    covers (suc (suc (suc (suc k)))) l = absurd (omega arith)

pub split_held : (ws : List ℕ) (r : Region) (x y : ℕ) (s t u v : List ℕ) (c : Source) (from second third fourth to : ℕ) → c ≡ Held from to → Sound ws → Ordered r → Covers ws r s c
    → x ≡ edge_at (middle r.left r.right) → y ≡ edge_at (middle r.top r.bottom)
    → Parted (below ws (Row y)) s t from third to → Parted (below ws (Column x)) t u from second third → Parted (below ws (Column x)) u v third fourth to
    → Split ws r s v c (from ∷ second ∷ third ∷ fourth ∷ to ∷ [])
split_held ws r x y s t u v c from second third fourth to e sd o h ex ey p1 p2 p3 =
    rw e (run_split ws r x y s t u v from second third fourth to sd o (subst (Covers ws r s) e h) ex ey p1 p2 p3)

pub split_all : (ws : List ℕ) (r : Region) (s : List ℕ) (c : Source) (b : List ℕ) → is_all c ≡ true → Ordered r → Covers ws r s c → Split ws r s s c b
split_all ws r s c b z o h =
    record {
      covers = λ k l. subst (Covers ws (quarter r k) s) (sym (source_all c b k z)) (covers_quarter ws r k s c o h);
      ends = λ n. absurd (true≢false (sym z ∙ n));
      order = λ n. absurd (true≢false (sym z ∙ n));
      beside = λ n. absurd (true≢false (sym z ∙ n));
    }
