-- Law: what the pages `Rounding` and `Operations` of `ieee` leave open: nothing. And two things that follow from them. `proofs/Laws.antt` shows each. Definitions only.
use Rattle.std.specs.Prelude.{◌≡◌, ℕ, ◌+◌, ◌*◌, ◌^◌, ◌<◌, ◌≤◌, Bool, cond, T, ℤ, Float}
use Rattle.std.specs.Bool.{beq}
use Rattle.std.specs.Float.{fin, Format}
use Rattle.std.specs.Float.Ieee.{low, up, down, fits}
use Rattle.ieee.specs.Rounding.{distance, Number, Size, Signed, Nearest, RoundTiesToEven}
use Rattle.ieee.specs.Operations.{square, NearestRoot, IsSum, IsFma, IsConverted, IsRoot}

-- ---- at most one result meets each, so that whatever meets it is the same bit for bit
pub record OneResult (f : Format) : Type 0 where
  pub rounding : (s : Bool) (n d : ℕ) (r t : Float) → 0 < d → RoundTiesToEven f s n d r → RoundTiesToEven f s n d t → r ≡ t
  pub sum : (x y r t : Float) → IsSum f x y r → IsSum f x y t → r ≡ t
  pub fma : (x y z r t : Float) → IsFma f x y z r → IsFma f x y z t → r ≡ t
  pub converted : (x r t : Float) → IsConverted f x r → IsConverted f x t → r ≡ t
  pub root : (x r t : Float) → IsRoot f x r → IsRoot f x t → r ≡ t

-- ---- what needs no rounding is left as it is: a value of the format, and the root of a number's square
pub record Exact (f : Format) : Type 0 where
  pub value : (s : Bool) (m : ℕ) (e : ℤ) (r : Float) → T (fits f (fin s m e)) → RoundTiesToEven f s (m * up e) (down e) r → r ≡ fin s m e
  pub root : (n d y j : ℕ) (r : Float) → 0 < d → Number f y j → n * square (2 ^ low f) ≡ square (y * 2 ^ j) * d → NearestRoot f n d r → Size f r (y * 2 ^ j)

-- ---- no float of the format is nearer, of whatever sign. How far ±n / d is from ±a units: across zero where the signs s and t differ
abbrev pub signed_distance : Format → Bool → ℕ → ℕ → Bool → ℕ → ℕ
signed_distance f s n d t a = cond (beq s t) (distance f n d a) (a * d + n * 2 ^ low f)

abbrev pub NoneNearer : Format → Type 0
NoneNearer f =
    (s : Bool) (n d : ℕ) (r : Float) (u : Nearest f n d r) (y : Float) (t : Bool) (b : ℕ) → T (fits f y) → Signed y t → Size f y b → signed_distance f s n d s (u.c * 2 ^ u.k) ≤ signed_distance f s n d t b
