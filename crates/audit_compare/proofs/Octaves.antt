-- Whether a record is of an octave, by its words. Assumes nothing.
use mathlib.Core.Path.{◌≡◌, sym, ap, ◌∙◌}
use mathlib.Core.Bool.{Bool, ◌&&◌}
use mathlib.Core.List.{List}
use Prim.Native.Nat.{ℕ, zero, suc, ◌+◌, ◌-◌, ◌*◌}
use native.Mathlib.Omega.{arith}
use lib.Dec.{lit<, eqb}
use lib.ListN.{get_or, take, drop}
use Rattle.std.specs.List.{list_all, range_with_len}
use Rattle.sheet.specs.Layout.{Layout, record_size}
use Rattle.sheet.specs.Sheet.{parts, all_pass}
use Rattle.sheet.proofs.Parts.{pass_map}
use Rattle.sheet.proofs.Steps.{parts_turn, pass_end, pass_start}
use Rattle.sheet_fields.specs.Fields.{bytes_words}
use Rattle.audit_compare.specs.Difference.{octave_place, fields_of, of_octave}
use Rattle.audit_compare.specs.Standing.{stated_in}
use Rattle.audit_compare.proofs.Fields.{field_front}
use Rattle.audit_compare.proofs.Stated.{words_length}

-- of a record's bytes
abbrev pub octave_right : Layout → ℕ → List ℕ → Bool
octave_right l octave bs = of_octave octave (fields_of l (bytes_words l bs))

-- of the words read from them
abbrev pub words_right : Layout → ℕ → List ℕ → Bool
words_right l octave bs = eqb (get_or (bytes_words l bs) octave_place 0) octave

pub words_are : (l : Layout) (octave : ℕ) (bs : List ℕ) → words_right l octave bs ≡ octave_right l octave bs
words_are l octave bs = ap (λ (v : ℕ). eqb v octave) (sym (field_front l (bytes_words l bs) (words_length l bs) octave_place (lit< tt)))

module _ (l : Layout) (octave n : ℕ) (body : List ℕ) where
  -- of the record at a place
  abbrev pub right_at : ℕ → Bool
  right_at i = words_right l octave (take (record_size l) (drop (record_size l * i) body))

  -- those from a place on
  right_from : (d i : ℕ) → n ≡ i + d → list_all right_at (range_with_len i d) ≡ all_pass (octave_right l octave) (parts (record_size l) (n - i) (drop (record_size l * i) body))
  unfolding all_pass
  right_from zero i e = sym (pass_end (octave_right l octave) (record_size l) n i body (omega arith))
  right_from (suc d) i e =
      let first : List ℕ = take (record_size l) (drop (record_size l * i) body) in
      let rest : List (List ℕ) = parts (record_size l) (n - (i + 1)) (drop (record_size l * (i + 1)) body) in
      ap (λ (b : Bool). right_at i && b) (right_from d (i + 1) (omega arith))
      ∙ ap (λ (b : Bool). b && all_pass (octave_right l octave) rest) (words_are l octave first)
      ∙ sym (ap (all_pass (octave_right l octave)) (parts_turn (record_size l) n i body (omega arith)))

  pub octaves_are : list_all right_at (range_with_len 0 n) ≡ all_pass (of_octave octave) (stated_in l n body)
  octaves_are =
      right_from n 0 (omega arith)
      ∙ pass_start (octave_right l octave) (record_size l) n body
      ∙ sym (pass_map (of_octave octave) (λ b. fields_of l (bytes_words l b)) (parts (record_size l) n body))
