-- What the objects of the system mean. They tell no content.
use Rattle.std.specs.Prelude.{◌≡◌, ℕ, List, option_map, Option, None}
use Rattle.batch_io.specs.declared.real.Stream.{Stream}
use Rattle.batch_io.specs.declared.real.Stream.TheVariants as stream
use Rattle.batch_io.specs.declared.real.RealFiles.{RealFiles}
use Rattle.batch_io.specs.declared.real.StdSink.{StdSink}
use Rattle.batch_io.specs.FilesState.{FilesState, Purpose, Reading, Writing}
use Rattle.batch_io.specs.SinkState.{SinkState}
use Rattle.batch_io.specs.Slots.{slot_at}

abbrev pub purpose_of : {F : Type 0} → Stream F → Purpose
purpose_of (stream.Reading file) = Reading
purpose_of (stream.Writing file) = Writing

abbrev pub purpose_at : {F : Type 0} → List (Option (Stream F)) → ℕ → Option Purpose
purpose_at slots id = option_map purpose_of (slot_at slots id)

abbrev pub real_files : {R F D : Type 0} → RealFiles R F D → FilesState
real_files real = record { told = None; purpose = purpose_at real.slots.items; reading = real.reading; writing = real.writing }

-- nothing is told, no id is open, and no fault came so far
pub record StartsUntold (state : FilesState) : Type 0 where
  pub told : state.told ≡ None
  pub purpose : (id : ℕ) → state.purpose id ≡ None
  pub reading : state.reading ≡ 0
  pub writing : state.writing ≡ 0

-- each id is open, or not, as it was
abbrev pub KeepsPurposes : {F : Type 0} → List (Option (Stream F)) → List (Option (Stream F)) → Type 0
KeepsPurposes old new = (id : ℕ) → purpose_at new id ≡ purpose_at old id

abbrev pub std_sink : {R : Type 0} → StdSink R → SinkState
std_sink sink = record { told = None; faults = sink.faults }
