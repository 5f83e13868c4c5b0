-- Whole parts of a slice that are gone through one by one, each tested: the answer is whether all pass. Assumes nothing.
use Rattle.std.proofs.Common.{◌≡◌, ℕ, ◌+◌, ◌*◌, ◌/◌, ◌<◌, ◌≤◌, Bool, true, false, ◌&&◌, List, [], ◌∷◌, zero, suc, length, take, drop, refl, sym, ap, ◌∙◌, arith, IfSome, IsSomeAnd, Option, Some, None, Bor, MatchBool, IsTrue, subst, slice_get}
use Rattle.std.specs.Iterator.Runs.{CallKeepsClosure, Run, SomeRun, EveryRun, YieldsRun, AllItems, AnyItem, AllItemsGive, AnyItemGives, ItemsMapToExactChunks, IsChunksExactRun}
use Rattle.std.specs.Slice.Iter.{chunks_exact_size, chunks_exact_rest, chunks_exact_steps}
use Rattle.std.specs.declared.slice.ChunksExact.{ChunksExact}
use Rattle.std.specs.Fn.{Called}
use Rattle.std.proofs.Math.Seq.{drop-drop}
use Rattle.std.proofs.Math.Nat.{suc-mul}
use Rattle.std.proofs.lemmas.Nat.{le-div}
use Rattle.std.proofs.lemmas.Option.{slice_get-get_or, none-some}
use denote.Param.Members.{Mut}
use mathlib.Core.Bool.{and-false}
use Rattle.sheet.specs.Sheet.{parts, all_pass}

pass_each : (test : List ℕ → Bool) (k n : ℕ) (ws : List ℕ) → ((i : ℕ) → i < n → test (take k (drop (i * k) ws)) ≡ true) → all_pass test (parts k n ws) ≡ true
unfolding all_pass parts
pass_each test k zero ws h = refl
pass_each test k (suc n) ws h =
    let next : (i : ℕ) → i < n → test (take k (drop (i * k) (drop k ws))) ≡ true =
    λ i l. let e : suc i * k ≡ k + i * k = rw suc-mul (omega arith) in rw drop-drop (rw e at (h (suc i) (omega arith))) in
    let z : 0 * k ≡ 0 = omega arith in
    ap (λ (b : Bool). b && all_pass test (parts k n (drop k ws))) (rw z at (h 0 (omega arith))) ∙ pass_each test k n (drop k ws) next

pass_not : (test : List ℕ → Bool) (k n i : ℕ) (ws : List ℕ) → i < n → test (take k (drop (i * k) ws)) ≡ false → all_pass test (parts k n ws) ≡ false
unfolding all_pass parts
pass_not test k zero i ws h e = absurd (omega arith)
pass_not test k (suc n) zero ws h e =
    let z : 0 * k ≡ 0 = omega arith in
    ap (λ (b : Bool). b && all_pass test (parts k n (drop k ws))) (rw z at e)
pass_not test k (suc n) (suc i) ws h e =
    let z : suc i * k ≡ k + i * k = rw suc-mul (omega arith) in
    rw (pass_not test k n i (drop k ws) (omega arith) (rw drop-drop (rw z at e)), and-false)

-- what holds of an item, if there is one
if_weaker : {A : Type 0} {P Q : A → Type 0} (o : Option A) → ((x : A) → P x → Q x) → IfSome o P → IfSome o Q
if_weaker None f h = h
if_weaker (Some x) f h = f x h

and_weaker : {A : Type 0} {P Q : A → Type 0} (o : Option A) → ((x : A) → P x → Q x) → IsSomeAnd o P → IsSomeAnd o Q
and_weaker None f h = h
and_weaker (Some x) f h = f x h

-- there is an item at each place below the length
none_past : {A : Type 0} (xs : List A) (i : ℕ) → i < length xs → slice_get xs i ≡ None → ⊥
none_past [] i h e = omega arith
none_past (x ∷ xs) i h e = none-some _ (sym e ∙ slice_get-get_or (x ∷ xs) i x h)

module _ {S : Type 0} {steps : S → Option (Bor (List ℕ)) → S → Type 0} (p : Run steps) (test : List ℕ → Bool) (k : ℕ) (ws : List ℕ) (some : 0 < k) (cut : ItemsMapToExactChunks p (λ x. x.now) k ws) where
  all_good : p.whole ≡ true → AllItems p (λ x. test x.now ≡ true) → all_pass test (parts k (length ws / k) ws) ≡ true
  unfolding YieldsRun
  all_good w all = pass_each test k (length ws / k) ws (λ i h. at_one i h) where
    at_one : (i : ℕ) → i < length ws / k → test (take k (drop (i * k) ws)) ≡ true
    at_one i h =
        elim (p.at i) as (λ o. p.at i ≡ o → test (take k (drop (i * k) ws)) ≡ true) [
          | None ↦ λ e. absurd (none_past p.items i (omega (arith, cut.1 w, p.long)) (sym (p.gave.1 i) ∙ e))
          | Some x ↦ λ e. let c = rw e at (cut.2 i) in let a = rw e at (all i) in ap test (sym c.2.0) ∙ a
        ] refl

  one_bad : AnyItem p (λ x. test x.now ≡ false) → all_pass test (parts k (length ws / k) ws) ≡ false
  one_bad (i, h, a) =
      elim (p.at i) as (λ o. p.at i ≡ o → IsSomeAnd o (λ x. test x.now ≡ false) → all_pass test (parts k (length ws / k) ws) ≡ false) [
        | None ↦ λ e b. absurd b
        | Some x ↦ λ e b.
            let c = rw e at (cut.2 i) in
            let m : suc i * k ≤ length ws = rw suc-mul c.1 in
            pass_not test k (length ws / k) i ws (le-div (suc i) (length ws) k some m) (ap test (sym c.2.0) ∙ b)
      ] refl a

-- what `all` answers over the parts of k elements, where each call tells whether its part passes
module _ {F : Type 0} (g : Mut F (Bor (List ℕ) × Unit {0}) Bool) (f : F) (it : ChunksExact ℕ) (b : Bool) (test : List ℕ → Bool) where
  pub pass_run : SomeRun (chunks_exact_steps {A = ℕ}) it (λ p. MatchBool b (IsTrue p.whole × AllItemsGive p g f true) (AnyItemGives p g f false))
      → EveryRun (chunks_exact_steps {A = ℕ}) (λ p. 0 < chunks_exact_size p.from → IsChunksExactRun p (chunks_exact_size p.from) (chunks_exact_rest p.from))
      → CallKeepsClosure g f → ((x : Bor (List ℕ)) (r : Bool) → Called g f (x, tt) r f → r ≡ test x.now)
      → (k : ℕ) (ws : List ℕ) → 0 < k → chunks_exact_size it ≡ k → chunks_exact_rest it ≡ ws → b ≡ all_pass test (parts k (length ws / k) ws)
  pass_run (p, from, m) every keeps told k ws h size rest =
      let s : chunks_exact_size p.from ≡ k = ap chunks_exact_size from ∙ size in
      let t : chunks_exact_rest p.from ≡ ws = ap chunks_exact_rest from ∙ rest in
      let cut : ItemsMapToExactChunks p (λ (x : Bor (List ℕ)). x.now) k ws = rw (s, t) at (every p p.seen (omega (arith, s))) in
      elim b as (λ a. MatchBool a (IsTrue p.whole × AllItemsGive p g f true) (AnyItemGives p g f false) → a ≡ all_pass test (parts k (length ws / k) ws)) [
        | true ↦ λ n. sym (all_good p test k ws h cut n.0 (λ i. if_weaker (p.at i) (λ x q. sym (told x true q)) (n.1 keeps i)))
        | false ↦ λ n. sym (one_bad p test k ws h cut (let a = n keeps in (a.0, a.1, and_weaker (p.at a.0) (λ x q. sym (told x false q)) a.2)))
      ] m
