-- A list of values, each by its number. Assumes nothing.
use Prim.Native.Nat.{ℕ, zero, suc, ◌<◌}
use mathlib.Core.Path.{◌≡◌, sym, ap, ◌∙◌}
use mathlib.Core.Logic.{⊎_elim}
use mathlib.Core.List.{List, [], ◌∷◌, ◌++◌}
use native.Mathlib.Nat.{eq-or-lt_of_le, le_of_suc-le-suc}
use native.Mathlib.Numerals.{add-one}
use native.Mathlib.Omega.{arith}
use lib.ListN.{length, get_or, replicate, length-append, length-replicate, get_or-replicate, get_or-append}
use lib.Seq.{get_or_at, ext_get_or}
use lib.Ieee.{Float, nan}
use Rattle.lists.proofs.Ranges.{joined_more}
use Rattle.descriptor_values.proofs.Listed.{up_to, up_to_length}

step : (f : ℕ → Float) (n : ℕ) → up_to f (suc n) ≡ up_to f n ++ (f n ∷ [])
step f n = rw (← add-one n) (joined_more 0 n (λ m. f m ∷ []) (omega arith))

pub up_to_at : (f : ℕ → Float) (n i : ℕ) → i < n → get_or (up_to f n) i nan ≡ f i
up_to_at f zero i h = absurd (omega arith)
up_to_at f (suc n) i h =
    ⊎_elim
    (λ e. rw (step f n) (ap (λ (k : ℕ). get_or (up_to f n ++ (f n ∷ [])) k nan) e ∙ get_or_at (up_to f n) (f n) [] nan n (up_to_length f n) ∙ ap f (sym e)))
    (λ l. rw (step f n) (get_or-append (up_to f n) (f n ∷ []) nan i (rw (up_to_length f n) l) ∙ up_to_at f n i l))
    (eq-or-lt_of_le (le_of_suc-le-suc h))

pub up_to_same : (f : ℕ → Float) (n : ℕ) (x : Float) → ((i : ℕ) → i < n → f i ≡ x) → up_to f n ≡ replicate n x
up_to_same f n x e =
    ext_get_or nan (up_to f n) (replicate n x) (up_to_length f n ∙ sym (length-replicate n x))
    (λ i l. let h : i < n = omega (arith, up_to_length f n) in up_to_at f n i h ∙ e i h ∙ sym (get_or-replicate n i x nan h))
