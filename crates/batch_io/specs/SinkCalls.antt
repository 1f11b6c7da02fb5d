-- What a write does to a sink.
use Rattle.std.specs.Prelude.{◌≡◌, ℕ, ◌<◌, ◌≤◌, List, take, length, Result, IfOk, OnErr}
use Rattle.std.specs.Io.KnownBytes.{append_known}
use Rattle.batch_io.specs.declared.ends.MakeEnd.{MakeEnd}
use Rattle.batch_io.specs.Faults.{Counts, make_failed}
use Rattle.batch_io.specs.SinkState.{SinkState}

pub record Takes (old new : SinkState) (piece : List ℕ) (result : Result ℕ MakeEnd) : Type 0 where
  pub faults : Counts (make_failed result) old.faults new.faults
  pub count : IfOk result (λ count. count ≤ length piece)
  pub progress : IfOk result (λ count. 0 < length piece → 0 < count)
  pub appended : IfOk result (λ count. new.told ≡ append_known old.told (take count piece))
  pub refused : OnErr result (new.told ≡ old.told)
