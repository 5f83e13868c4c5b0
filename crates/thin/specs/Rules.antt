-- Law: rule T8 for a list that the table accepts: what is kept of it. `proofs/Rules.antt` proves each. Definitions only.
use Rattle.std.specs.Prelude.{ℕ, ◌^◌, ◌≤◌, ◌<◌, ◌≡◌, List, length, get_or}
use Rattle.thin_rule.specs.Rule.{points_in}
use Rattle.thin_rule.specs.Strength.{Ordered, Sound}
use Rattle.thin.specs.Entry.{frame, fault_of, kept_of}

-- a list of words of 32 bits, as every caller's is
abbrev pub Bits : List ℕ → Type 0
Bits ws = (k : ℕ) → get_or ws k 0 < 2 ^ 32

pub record ThinRule : Type 0 where
  -- it is a list, and the frame a region, of which the promises of `thin_laws` speak: so each quarter's share is respected, however deep
  pub sound : (ws : List ℕ) (w h q d : ℕ) → Bits ws → fault_of ws w h q d ≡ 0 → Sound ws × Ordered (frame w h)
  -- no more are kept than the quota
  pub few : (ws : List ℕ) (w h q d : ℕ) → Bits ws → fault_of ws w h q d ≡ 0 → length (kept_of ws w h q d) ≤ q
  -- a list within its quota is kept whole
  pub whole : (ws : List ℕ) (w h q d : ℕ) → Bits ws → fault_of ws w h q d ≡ 0 → points_in ws ≤ q → length (kept_of ws w h q d) ≡ points_in ws
  pub each : (ws : List ℕ) (w h q d : ℕ) → Bits ws → fault_of ws w h q d ≡ 0 → points_in ws ≤ q → (i : ℕ) → i < points_in ws → get_or (kept_of ws w h q d) i 0 ≡ i
