-- The power of two of an octave, by a shift. Assumes nothing.
use Rattle.std.proofs.Common.{◌≡◌, ℕ, ◌*◌, ◌%◌, ◌^◌, ◌≤◌, arith}
use Rattle.ieee_laws.proofs.Wholes as wholes
pub use Rattle.ieee_laws.proofs.Wholes.{held}
use Rattle.params.specs.Limits.{max_octave}

pub one_shift : (h : ℕ) → h ≤ max_octave → 1 * 2 ^ h % 2 ^ 64 ≡ 2 ^ h
one_shift h l = wholes.one_shift h (omega arith)
