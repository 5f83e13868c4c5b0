-- A test of each number of a range, as the library's `all` answers it. Assumes nothing.
use Rattle.std.proofs.Common.{◌≡◌, ℕ, ◌<◌, Bool, true, false, length, sym, ap, ◌∙◌, zero-add, get_or, arith}
use Rattle.std.specs.Bool.{MatchBool}
use Rattle.std.specs.List.{range_with_len, AllWithin, HoldsAt}
use Rattle.std.proofs.lemmas.List.FromFn.{length-range_with_len, get_or-range_with_len}
use Rattle.lists.specs.Ranges.{every}
use Rattle.lists.proofs.Every.{all_every, every_stop}

place : (n i : ℕ) → i < n → get_or (range_with_len 0 n) i 0 ≡ i
place n i h = get_or-range_with_len 0 n i 0 h ∙ zero-add i

pub every_told : (n : ℕ) (test : ℕ → Bool) (r : Bool)
    → MatchBool r (AllWithin (λ k. test k ≡ true) (range_with_len 0 n) 0 (length (range_with_len 0 n))) ((k : ℕ) × (k < length (range_with_len 0 n)) × HoldsAt (λ k. test k ≡ false) (range_with_len 0 n) k)
    → r ≡ every n test
every_told n test true a =
    sym (all_every n test (λ i h. ap test (sym (place n i h)) ∙ a i 0 (omega arith) (omega (arith, length-range_with_len 0 n))))
every_told n test false (k, h, a) =
    let l : k < n = omega (arith, length-range_with_len 0 n) in
    sym (every_stop n k test l (ap test (sym (place n k l)) ∙ a 0))
