-- A slice that is written back into its vector.
use Rattle.std.proofs.Common.{◌≡◌, ℕ, List, ◌++◌, length, take, drop, take_at}

pub written_back : {A : Type 0} (xs items : List A) (n : ℕ) → length xs ≡ n → take n (xs ++ drop (length xs) items) ≡ xs
written_back xs items n e = take_at xs (drop (length xs) items) n e
