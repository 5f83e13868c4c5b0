-- A run of values written into a list at a place. Definitions only.
use Rattle.std.specs.Prelude.{ℕ, ◌+◌, List, ◌++◌, length, take, drop}

-- `old` with `new` written at the place `at`: what stood before it, `new`, and what stood after as many
unfoldable pub pasted {ℓ} : {A : Type ℓ} → ℕ → List A → List A → List A
pasted at new old = take at old ++ (new ++ drop (at + length new) old)
