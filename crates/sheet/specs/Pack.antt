-- Fields packed into bytes, most significant bit first, and taken out again. A layout is a list of slots, one for each field. Definitions only.
use Rattle.std.specs.Prelude.{Bool, true, false, ◌&&◌, List, [], ◌∷◌, ◌++◌, ℕ, zero, suc, ◌+◌, ◌*◌, ◌/◌, ◌%◌, ◌^◌, ◌<◌, leb, length, get_or}

-- a field's place: how many bits it has, and its least and its largest value
pub record Slot : Type 0 where
  pub width : ℕ
  pub low : ℕ
  pub high : ℕ

abbrev pub slot : ℕ → ℕ → ℕ → Slot
slot w l h = record { width = w; low = l; high = h }

-- how many bits the slots have together
unfoldable pub bits : List Slot → ℕ
bits [] = 0
bits (s ∷ ss) = s.width + bits ss

-- the fields' values as one number, the first field most significant
unfoldable pub number : List Slot → List ℕ → ℕ
number [] vs = 0
number (s ∷ ss) [] = 0
number (s ∷ ss) (v ∷ vs) = v * 2 ^ bits ss + number ss vs

-- the last k bytes of n, most significant first
unfoldable pub bytes : ℕ → ℕ → List ℕ
bytes zero n = []
bytes (suc k) n = bytes k (n / 256) ++ (n % 256 ∷ [])

-- the values packed into whole bytes
unfoldable pub pack : List Slot → List ℕ → List ℕ
pack ss vs = bytes (bits ss / 8) (number ss vs)

-- bytes as one number, the first most significant
unfoldable pub value : List ℕ → ℕ
value [] = 0
value (b ∷ bs) = b * 2 ^ (8 * length bs) + value bs

-- a number cut into the values of its fields
unfoldable pub fields : List Slot → ℕ → List ℕ
fields [] n = []
fields (s ∷ ss) n = n / 2 ^ bits ss ∷ fields ss (n % 2 ^ bits ss)

unfoldable pub unpack : List Slot → List ℕ → List ℕ
unpack ss bs = fields ss (value bs)

-- there is one value for each slot, and it lies in the slot's range
unfoldable pub sound : List Slot → List ℕ → Bool
sound [] [] = true
sound [] (v ∷ vs) = false
sound (s ∷ ss) [] = false
sound (s ∷ ss) (v ∷ vs) = leb s.low v && leb v s.high && sound ss vs

-- each value has room in its slot
pub data Held : List Slot → List ℕ → Type 0 where
  none : Held [] []
  one : {s : Slot} {v : ℕ} {ss : List Slot} {vs : List ℕ} → v < 2 ^ s.width → Held ss vs → Held (s ∷ ss) (v ∷ vs)

-- every element is a byte
abbrev pub Bytes : List ℕ → Type 0
Bytes bs = (i : ℕ) → get_or bs i 0 < 256
