-- Files that no statement of a program opens for output.
use Rattle.std.specs.Prelude.{◌≡◌, ℕ, true, List, Contains, slice_get, Some}
use Rattle.cob_program.specs.declared.act.Opening.{Opening}
use Rattle.cob_program.specs.Act.{open_files, Program}
use Rattle.cob_runs.specs.Files.{Choice, File, writing}
use Rattle.cob_runs.specs.Effects.{act_at}
use Rattle.cob_runs.specs.Runs.{Contents, content_at, run}
use Rattle.cob_graph.specs.declared.graph.Graph.{Graph}
use Rattle.cob_graph.specs.Graphs.{IsGraph}
use Rattle.cob_graph.specs.WellFormed.{IsWellFormed}

-- no statement opens the file at a place for output
abbrev pub NeverMakes : Program → ℕ → Type 0
NeverMakes p place =
    (number : ℕ) (os : List Opening) (o : Opening) → act_at p number ≡ Some (open_files os) → Contains os o
    → o.output ≡ true → o.file ≡ place → ⊥

-- a file at a place holds what it held at the beginning, and isn't being written
pub record IsKept (contents : Contents) (place : ℕ) (f : File) : Type 0 where
  pub content : f.content ≡ content_at contents place
  pub mode : f.mode ≡ writing → ⊥

-- Files that are never made hold what they held, whatever is chosen where the standard leaves something undefined.
abbrev pub UnmadeFilesAreKept : Type 0
UnmadeFilesAreKept =
    (p : Program) (g : Graph) → IsWellFormed p → IsGraph p g → (contents : Contents) (first : List ℕ)
    (choices : List Choice) (n place : ℕ) (f : File) → NeverMakes p place
    → slice_get (run p contents first choices n).world.files place ≡ Some f → IsKept contents place f
