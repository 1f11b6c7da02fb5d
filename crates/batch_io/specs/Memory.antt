-- What the objects in memory mean. They tell everything.
use Rattle.std.specs.Prelude.{◌≡◌, ◌≢◌, ◌≤◌, ◌-◌, ◌^◌, ℕ, List, [], length, take, map, bytes_eq, position, string_bytes, option_map, Option, None, Some, Vec, String}
use Rattle.std.specs.declared.alloc.Global.{Global}
use Rattle.std.specs.FinMap.{from_entries}
use Rattle.batch_io.specs.declared.failing.FailingCalls.{FailingCalls}
use Rattle.batch_io.specs.declared.memory.Reader.{Reader}
use Rattle.batch_io.specs.declared.memory.Opened.{Opened}
use Rattle.batch_io.specs.declared.memory.Opened.TheVariants as opened
use Rattle.batch_io.specs.declared.memory.MemFiles.{MemFiles}
use Rattle.batch_io.specs.declared.memory.MemSink.{MemSink}
use Rattle.batch_io.specs.FilesState.{FilesState, Contents, Handle, Purpose, Reading, Writing, known_bytes, rest_of, moved_by}
use Rattle.batch_io.specs.SinkState.{SinkState}
use Rattle.batch_io.specs.Failing.{StartsCalls}
use Rattle.batch_io.specs.Slots.{slot_at}

abbrev pub File : Type 0
File = String Global × Vec ℕ Global

abbrev pub entry_of : File → List ℕ × List ℕ
entry_of file = (string_bytes file.0, file.1.items)

abbrev pub entries_of : List File → List (List ℕ × List ℕ)
entries_of files = map entry_of files

-- What stands under each name; of two files of one name the first counts.
abbrev pub contents_of : List File → Contents
contents_of files = from_entries (entries_of files)

-- the place of the first file of this name
abbrev pub place_of : List File → List ℕ → Option ℕ
place_of files name = position (λ file. bytes_eq (string_bytes file.0) name) files

abbrev pub purpose_of : Opened → Purpose
purpose_of (opened.Reading reader) = Reading
purpose_of (opened.Writing name) = Writing

abbrev pub handle_of : Option Opened → Handle
handle_of None = record { name = []; place = 0 }
handle_of (Some (opened.Reading reader)) = record { name = string_bytes reader.name; place = reader.place }
handle_of (Some (opened.Writing name)) = record { name = string_bytes name; place = 0 }

abbrev pub handle_of_reader : Reader → Handle
handle_of_reader reader = record { name = string_bytes reader.name; place = reader.place }

-- the reader gave the bytes at the front of the buffer, its next ones, and its place moved past them
pub record ReadsOn (contents : Contents) (old new : Reader) (buffer : List ℕ) (count : ℕ) : Type 0 where
  pub within : count ≤ length buffer
  pub front : take count buffer ≡ take count (rest_of contents (handle_of_reader old))
  pub ended : count ≡ 0 → rest_of contents (handle_of_reader old) ≡ []
  pub moved : handle_of_reader new ≡ moved_by count (handle_of_reader old)

-- the id's reader read on, and every other id is as it was
pub record ReadsSlot (contents : Contents) (old new : List (Option Opened)) (id : ℕ) (buffer : List ℕ) (count : ℕ) : Type 0 where
  pub read : (before : Reader) × (after : Reader) × (slot_at old id ≡ Some (opened.Reading before))
      × (slot_at new id ≡ Some (opened.Reading after)) × ReadsOn contents before after buffer count
  pub others : (other : ℕ) → other ≢ id → slot_at new other ≡ slot_at old other

abbrev pub mem_files : MemFiles → FilesState
mem_files m = record {
  told = Some (record { bytes = contents_of m.files.items; handle = λ id. handle_of (slot_at m.slots.items id) });
  purpose = λ id. option_map purpose_of (slot_at m.slots.items id);
  reading = m.reading;
  writing = m.writing;
}

abbrev pub files_calls : MemFiles → FailingCalls
files_calls m = m.calls

-- the most bytes that a read or a write counts
abbrev pub files_most : MemFiles → ℕ
files_most m = m.most.bytes

-- an object that holds these files, with no id open, no fault and no call so far, whose reads and writes count as many bytes as there are
pub record StartsFiles (files : List File) (failing : List ℕ) (result : MemFiles) : Type 0 where
  pub bytes : known_bytes (mem_files result) ≡ Some (contents_of files)
  pub purpose : (id : ℕ) → (mem_files result).purpose id ≡ None
  pub reading : (mem_files result).reading ≡ 0
  pub writing : (mem_files result).writing ≡ 0
  pub calls : StartsCalls failing (files_calls result)
  pub most : files_most result ≡ 2 ^ 64 - 1

abbrev pub mem_sink : MemSink → SinkState
mem_sink m = record { told = Some m.text.items; faults = m.faults }

abbrev pub sink_calls : MemSink → FailingCalls
sink_calls m = m.calls

-- the most bytes that a write counts
abbrev pub sink_most : MemSink → ℕ
sink_most m = m.most.bytes

-- no text, no fault and no call so far; a write counts as many bytes as there are
pub record StartsSink (failing : List ℕ) (result : MemSink) : Type 0 where
  pub told : (mem_sink result).told ≡ Some []
  pub faults : (mem_sink result).faults ≡ 0
  pub calls : StartsCalls failing (sink_calls result)
  pub most : sink_most result ≡ 2 ^ 64 - 1
