-- Inner: the answer that a standing tells when all records are made; no part of a public contract. Definitions only.
use Rattle.std.specs.Prelude.{ℕ, cond, eqb, ltb}
use Rattle.audit_compare.specs.Numbered.{missing}
use Rattle.audit_compare.specs.Standing.{Standing}
use Rattle.audit_verdict.specs.Verdict.{Checked, Accepted, Differs, Missing, LeftOver}

-- of a sheet of n records
unfoldable pub told_by : ℕ → Standing → Checked
told_by n st =
    cond (eqb st.field 0)
    (cond (ltb st.place n) (LeftOver st.place) Accepted)
    (cond (eqb st.field missing) (Missing st.place) (Differs st.place st.field))
