-- Runs of words.
use Rattle.std.specs.Prelude.{ℕ, ◌+◌, List, ℤ, ◌++◌, take, drop}

-- the words from a place on
abbrev pub run_at : List ℤ → ℕ → ℕ → List ℤ
run_at words at count = take count (drop at words)

-- these stand there instead
abbrev pub with_run : List ℤ → ℕ → ℕ → List ℤ → List ℤ
with_run words at count run = take at words ++ (run ++ drop (at + count) words)
