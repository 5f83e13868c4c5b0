-- What an answer says as a number and a count, which answer an entry gives, and what it leaves in the lent list: rules A14, A16, A17 and A19. Definitions only.
use Rattle.std.specs.Prelude.{ℕ, zero, suc, cond, List, leb}
use Rattle.lists.specs.Pasted.{pasted}
use Rattle.std.specs.Prelude.{Result, Ok, Err}
use Rattle.params.specs.declared.Refusal.{Refusal}
use Rattle.params.specs.declared.Refusal.TheVariants.{Shape, Layers, Length, Settings, Fields, Samples, Room, Sheet}

-- What an entry answers: done, with the count written; short of room, with the count needed; or refused, by the number of rule A2.
pub data Answer : Type 0 where
  Done : ℕ → Answer
  Short : ℕ → Answer
  Refused : ℕ → Answer

-- the number given back, and the count beside it: written for 0, needed for 7, and 0 for every other refusal
abbrev pub number_of : Answer → ℕ
number_of (Done n) = 0
number_of (Short n) = 7
number_of (Refused k) = k

abbrev pub count_of : Answer → ℕ
count_of (Done n) = n
count_of (Short n) = n
count_of (Refused k) = 0

abbrev pub on_fault {ℓ} : {A : Type ℓ} → ℕ → A → A → A
on_fault zero fine fault = fine
on_fault (suc n) fine fault = fault

-- What an entry answers whose checks before that of room gave `fault`, 0 for none; which has `count` to give, in `need` places of a lent list of `room`.
unfoldable pub answer_of : ℕ → ℕ → ℕ → ℕ → Answer
answer_of fault count need room = on_fault fault (cond (leb need room) (Done count) (Short count)) (Refused fault)

-- The lent list afterwards, for an answer that has `new` to write: `new` and then what stood there, and on any refusal the list as it was.
abbrev pub landed {ℓ} : {A : Type ℓ} → Answer → List A → List A → List A
landed (Done n) new old = pasted 0 new old
landed (Short n) new old = old
landed (Refused k) new old = old

-- The number of a refusal of the code in the table, and the count beside it.
abbrev pub refusal_number : Refusal → ℕ
refusal_number Shape = 1
refusal_number Layers = 2
refusal_number Length = 3
refusal_number Settings = 4
refusal_number Fields = 5
refusal_number Samples = 6
refusal_number (Room n) = 7
refusal_number Sheet = 8

abbrev pub refusal_count : Refusal → ℕ
refusal_count Shape = 0
refusal_count Layers = 0
refusal_count Length = 0
refusal_count Settings = 0
refusal_count Fields = 0
refusal_count Samples = 0
refusal_count (Room n) = n
refusal_count Sheet = 0

-- The answer that a refusal is, that a count or a refusal is, and the number of the fault that a check found, 0 for none. No two results are told alike.
abbrev pub refused : Refusal → Answer
refused Shape = Refused 1
refused Layers = Refused 2
refused Length = Refused 3
refused Settings = Refused 4
refused Fields = Refused 5
refused Samples = Refused 6
refused (Room n) = Short n
refused Sheet = Refused 8

abbrev pub told : Result ℕ Refusal → Answer
told (Ok n) = Done n
told (Err r) = refused r

abbrev pub fault_told : {A : Type 0} → Result A Refusal → ℕ
fault_told (Ok x) = 0
fault_told (Err r) = refusal_number r
