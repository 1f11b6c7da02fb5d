-- A result with so many elements at most.
use Rattle.std.proofs.Common.{ℕ, ◌≤◌, arith, List, length, Result, Ok, Err}

abbrev pub Most : {A E : Type 0} → ℕ → Result (List A) E → Type 0
Most n (Ok xs) = length xs ≤ n
Most n (Err refused) = Unit {0}

pub most_more : {A E : Type 0} (m n : ℕ) (r : Result (List A) E) → m ≤ n → Most m r → Most n r
most_more m n (Ok xs) h most = omega arith
most_more m n (Err refused) h most = tt
