-- Why a run halts, and what becomes of text and files that wait.
use Rattle.std.specs.Prelude.{◌≡◌, ◌⊎◌, ℕ, Bool, true, false, List, take, Result, Ok, Err}
use Rattle.std.specs.Io.KnownBytes.{append_known}
use Rattle.batch_io.specs.Faults.{Rose}
use Rattle.batch_io.specs.SinkState.{SinkState}
use Rattle.batch_io.specs.declared.ends.MakeEnd.{MakeEnd}
use Rattle.batch_io.specs.declared.ends.MakeEnd.TheVariants as make
use Rattle.cob_runs.specs.State.{World}
use Rattle.cob_world.specs.Becoming.{without_shown}
use Rattle.cob_interp.specs.declared.ends.Ended.{Ended}
use Rattle.cob_interp.specs.declared.ends.RunEnd.{RunEnd}
use Rattle.cob_interp.specs.declared.ends.RunEnd.TheVariants as end
use Rattle.cob_interp.specs.declared.walk.Halt.{Halt}
use Rattle.cob_interp.specs.declared.walk.Halt.TheVariants as halt

-- the sink's refusal as the run's
abbrev pub by_sink : MakeEnd → RunEnd
by_sink make.Failed = end.WriteFault
by_sink make.Memory = end.Memory

abbrev pub as_result : {A : Type 0} → Result A Halt → Result A RunEnd
as_result (Ok a) = Ok a
as_result (Err (halt.End e)) = Err e
as_result (Err (halt.Sink e)) = Err (by_sink e)

-- whether it is a fault of the sink, and not want of memory
abbrev pub is_sink_fault : MakeEnd → Bool
is_sink_fault make.Failed = true
is_sink_fault make.Memory = false

-- why the sink refused text: by a fault, which its count shows, or where memory ran out
abbrev pub IsSinkRefusal : SinkState → SinkState → MakeEnd → Type 0
IsSinkRefusal old new make.Failed = Rose old.faults new.faults
IsSinkRefusal old new make.Memory = new.faults ≡ old.faults

-- a fault of the sink is told where it refused text, and else none
abbrev pub TellsBySink : {A : Type 0} → SinkState → SinkState → Result A Halt → Type 0
TellsBySink old new (Err (halt.Sink e)) = IsSinkRefusal old new e
TellsBySink old new (Err (halt.End e)) = new.faults ≡ old.faults
TellsBySink old new (Ok a) = new.faults ≡ old.faults

-- ---- text that waits

-- the sink took this text
pub record Gains (old new : SinkState) (text : List ℕ) : Type 0 where
  pub faults : new.faults ≡ old.faults
  pub told : new.told ≡ append_known old.told text

-- All text that waited was shown.
pub record Flushes (old new : SinkState) (w v : World) : Type 0 where
  pub gains : Gains old new w.shown
  pub world : v ≡ without_shown w

-- All text that waited was shown, or it goes on waiting.
abbrev pub MayFlush : SinkState → SinkState → World → World → Type 0
MayFlush old new w v = Flushes old new w v ⊎ ((new ≡ old) × (v ≡ w))

-- The sink took a front of the text that waited and refused the rest, and all of it goes on waiting.
pub record Refuses (old new : SinkState) (w v : World) (e : MakeEnd) : Type 0 where
  pub front : (n : ℕ) × (new.told ≡ append_known old.told (take n w.shown))
  pub why : IsSinkRefusal old new e
  pub world : v ≡ w

-- ---- ends

-- the outside or memory failed
abbrev pub is_refused : RunEnd → Bool
is_refused end.ReadFault = true
is_refused end.WriteFault = true
is_refused end.Memory = true
is_refused _ = false

-- The end is the run's own: nothing refused it.
abbrev pub IsOwnEnd : Result Ended RunEnd → Type 0
IsOwnEnd (Ok e) = Unit {0}
IsOwnEnd (Err e) = is_refused e ≡ false

-- The outside or memory refused it.
abbrev pub IsRefused : Result Ended RunEnd → Type 0
IsRefused (Ok e) = ⊥
IsRefused (Err e) = is_refused e ≡ true
