-- What a sink means: the bytes that it tells, and its count of faults.
use Rattle.std.specs.Prelude.{ℕ, List, Option}

pub record SinkState : Type 0 where
  pub told : Option (List ℕ)
  pub faults : ℕ
