-- The number of an answer is that of the result it is told from. Assumes nothing.
use mathlib.Core.Path.{◌≡◌, refl}
use Prim.Native.Nat.{ℕ}
use Rattle.std.specs.Prelude.{Result, Ok, Err}
use Rattle.params.specs.Answers.{number_of, refused, told, fault_told}
use Rattle.params.specs.declared.Refusal.{Refusal}
use Rattle.params.specs.declared.Refusal.TheVariants.{Shape, Layers, Length, Settings, Fields, Samples, Room, Sheet}

pub number_told : (a : Result ℕ Refusal) → number_of (told a) ≡ fault_told a
number_told (Ok n) = refl
number_told (Err Shape) = refl
number_told (Err Layers) = refl
number_told (Err Length) = refl
number_told (Err Settings) = refl
number_told (Err Fields) = refl
number_told (Err Samples) = refl
number_told (Err (Room n)) = refl
number_told (Err Sheet) = refl
