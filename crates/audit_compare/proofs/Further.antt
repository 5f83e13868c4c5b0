-- One more record beside those that a sheet states: where it differs, and how far they agree then. Assumes nothing.
use mathlib.Core.Path.{◌≡◌}
use mathlib.Core.Bool.{true}
use mathlib.Core.Logic.{⊎_elim}
use mathlib.Core.List.{List}
use Prim.Native.Nat.{ℕ, ◌+◌, ◌*◌, ◌≤◌, ◌<◌}
use native.Mathlib.Omega.{arith}
use borrow.Author.Tests.{lt-ltb, le-ltb, eq-eqb, ne_eqb}
use lib.ListN.{take, drop}
use Rattle.lists.proofs.Naturals.{le_or_lt}
use Rattle.sheet.specs.Layout.{Layout, record_size}
use Rattle.sheet_fields.specs.Fields.{bytes_words}
use Rattle.audit_compare.specs.Difference.{first_difference, fields_of}
use Rattle.audit_compare.specs.Numbered.{missing}
use Rattle.audit_compare.specs.Standing.{stated_in, difference_at, compared, Standing}
use Rattle.audit_compare.proofs.Stated.{stated_length, stated_at}

module _ (l : Layout) (n : ℕ) (body : List ℕ) where
  pub past_all : (i : ℕ) (r : List ℕ) → n ≤ i → missing ≡ difference_at l (stated_in l n body) i r
  unfolding difference_at
  past_all i r h = rw (stated_length l n body, le-ltb i n h)

  pub among : (i : ℕ) (r : List ℕ) → i < n →
      first_difference (fields_of l r) (fields_of l (bytes_words l (take (record_size l) (drop (record_size l * i) body)))) ≡ difference_at l (stated_in l n body) i r
  unfolding difference_at
  among i r h = rw (stated_length l n body, lt-ltb i n h, stated_at l n i body h)

  -- where nothing differs the sheet has a record there
  pub agreed : (i : ℕ) (r : List ℕ) → 0 ≡ difference_at l (stated_in l n body) i r → i < n
  agreed i r h = ⊎_elim (λ g. let e = past_all i r g in absurd (omega (arith, h, e))) (λ g. g) (le_or_lt n i)

module _ (l : Layout) (stated : List (List ℕ)) (st : Standing) (r : List ℕ) where
  pub stays : (st.field ≡ 0 → ⊥) → st ≡ compared l stated st r
  unfolding compared
  stays h = rw (ne_eqb st.field 0 h)

  module _ (h : st.field ≡ 0) (d : ℕ) (e : d ≡ difference_at l stated st.place r) where
    pub differs_there : (d ≡ 0 → ⊥) → record { place = st.place; field = d; good = true } ≡ compared l stated st r
    unfolding compared
    differs_there g = rw (eq-eqb st.field 0 h, ← e, ne_eqb d 0 g)

    pub goes_on : d ≡ 0 → record { place = st.place + 1; field = 0; good = true } ≡ compared l stated st r
    unfolding compared
    goes_on g = rw (eq-eqb st.field 0 h, ← e, eq-eqb d 0 g)
