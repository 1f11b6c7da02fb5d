-- What doing the part of a node comes to.
use Rattle.std.specs.Prelude.{◌≡◌, ◌≤◌, ℕ, true, List, [], length, slice_get, Option, None, Some, Result, Ok, Err}
use Rattle.std.specs.Option.{option_map_or}
use Rattle.cob_plan.specs.declared.node.Op.{Op}
use Rattle.cob_plan.specs.declared.node.Op.TheVariants as op
use Rattle.cob_plan.specs.declared.end.DoEnd.{DoEnd}
use Rattle.cob_plan.specs.declared.end.DoEnd.TheVariants as does
use Rattle.cob_plan.specs.Doing.{Does}
use Rattle.cob_interp.specs.declared.setting.Standing.{Standing}
use Rattle.cob_program.specs.Act.{Act, open_files, close_files, read}
use Rattle.cob_runs.specs.State.{World, with_files}
use Rattle.cob_interp.specs.declared.ends.RunEnd.{RunEnd}
use Rattle.cob_interp.specs.declared.ends.RunEnd.TheVariants as end
use Rattle.cob_interp.specs.declared.setting.Setting.{Setting}
use Rattle.cob_interp.specs.Runs.{Outside}
use Rattle.cob_interp.specs.Running.{IsUnderway, Arrives}
use Rattle.cob_interp.specs.Setting.{program_of, paths_of}
use Rattle.cob_interp.specs.Ends.{cut_file}
use Rattle.cob_interp.specs.Tracking.{Ids}
use Rattle.cob_interp.specs.Readying.{GivesWindow, HasRest, settled}
use Rattle.cob_world.specs.Calling.{replaced}
use Rattle.batch_io.specs.Faults.{Rose}
use Rattle.cob_data.specs.declared.layout.FileDecl.{FileDecl}
use Rattle.cob_interp.specs.Told.{seen_files, AreSynced}
use Rattle.batch_io.specs.FilesState.{Contents, FilesState, known_bytes}
use Rattle.cob_runs.specs.Acts.{decl_at}
use Rattle.cob_runs.specs.Files.{File, bytes_in}

-- The operation does nothing with files.
abbrev pub IsQuiet : Op → Type 0
IsQuiet (op.Skip to) = Unit {0}
IsQuiet (op.Assign to) = Unit {0}
IsQuiet _ = ⊥

-- The operation of a statement neither opens, nor closes, nor reads a file.
abbrev pub IsPlain : Op → Act → Type 0
IsPlain o (open_files os) = ⊥
IsPlain o (close_files fs) = ⊥
IsPlain o (read f into end_ fine) = IsQuiet o
IsPlain o _ = Unit {0}

-- how the run ends where a node's part isn't done
abbrev pub halted : ℕ → ℕ → DoEnd → RunEnd
halted statement step (does.Fault kind) = end.Fault kind statement step
halted statement step (does.Stop status) = end.IoStop status statement
halted statement step does.Memory = end.Memory

abbrev pub answered : ℕ → ℕ → Result ℕ DoEnd → Result ℕ RunEnd
answered statement step (Ok node) = Ok node
answered statement step (Err e) = Err (halted statement step e)

-- A node's part is done, or it is told why not.
pub record DoesPart (s : Setting) (x : Standing) (step : ℕ) (w v : World) (result : Result ℕ RunEnd) : Type 0 where
  pub outcome : Result ℕ DoEnd
  pub does : Does (program_of s) x.statement.now.number x.plan_node.now.op w v outcome
  pub told : result ≡ answered x.statement.now.number step outcome

-- The run goes on from a node in a step that is underway.
abbrev pub Leads : Setting → ℕ → ℕ → ℕ → Outside → Outside → World → World → Result ℕ RunEnd → Type 0
Leads s budget step node old new w v result =
    (start : Outside) → step ≤ budget → IsUnderway (program_of s) s.graph.now (paths_of s) start old w step node
    → Arrives (program_of s) s.graph.now (paths_of s) budget start new v step result

-- Of the file, if there is one, no bytes wait.
abbrev pub IsFresh : Option File → Type 0
IsFresh None = Unit {0}
IsFresh (Some f) = f.content ≡ Some []

-- the file at a place is seen to end within a record, and this says so
abbrev pub IsRaggedAt : Setting → FilesState → World → ℕ → RunEnd → Type 0
IsRaggedAt s files w file (end.Ragged place count) =
    (place ≡ file)
    × ((told : Contents) → known_bytes files ≡ Some told → AreSynced told (paths_of s) w.files
    → let sees = slice_get (seen_files told (paths_of s) w.files) file in
    (count ≡ option_map_or (λ f. length (bytes_in f)) sees 0)
    × (cut_file (decl_at s.program.now.layout file) sees ≡ true))
IsRaggedAt s files w file _ = ⊥

-- A READ's part is done with the next record, or nothing, in place of what the file holds.
pub record DoesRead (s : Setting) (x : Standing) (step : ℕ) (old new : FilesState) (ids : Ids) (file before : ℕ)
    (w v : World) (result : Result ℕ RunEnd) : Type 0 where
  pub decl : FileDecl
  pub declared : decl_at s.program.now.layout file ≡ Some decl
  pub window : List ℕ
  pub gives : GivesWindow old new ids file decl.length window
  pub mid : World
  pub does : DoesPart s x step (with_files w (replaced file (Some window) 0 w.files)) mid result
  pub settles : v ≡ settled file before mid

-- It is done so, or refused, or the file has a rest that is no record.
abbrev pub ReadsPart : Setting → Standing → ℕ → FilesState → FilesState → Ids → ℕ → ℕ → World → World → Result ℕ RunEnd
    → Type 0
ReadsPart s x step old new ids file before w v (Err end.ReadFault) = Rose old.reading new.reading
ReadsPart s x step old new ids file before w v (Err end.WriteFault) = Rose old.writing new.writing
ReadsPart s x step old new ids file before w v (Err end.Memory) = Unit {0}
ReadsPart s x step old new ids file before w v (Err (end.Ragged place count)) =
    (place ≡ file) × (v ≡ w) × ((decl : FileDecl) × (decl_at s.program.now.layout file ≡ Some decl)
    × HasRest old new ids file decl.length before count)
ReadsPart s x step old new ids file before w v result = DoesRead s x step old new ids file before w v result
