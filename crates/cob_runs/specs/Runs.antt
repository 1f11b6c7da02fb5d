-- Whole runs of a program.
use Rattle.std.specs.Prelude.{◌≡◌, ℕ, zero, suc, ◌-◌, List, [], ◌∷◌, length, replicate, slice_get, Option, Some, None, Result, Ok, Err}
use Rattle.std.specs.Option.{option_map_or}
use Rattle.cob_tree.specs.declared.fault.Kind.{Kind}
use Rattle.cob_data.specs.declared.extent.Extent.{Extent}
use Rattle.cob_data.specs.declared.layout.FileDecl.{FileDecl}
use Rattle.cob_data.specs.declared.layout.Item.{Item}
use Rattle.cob_data.specs.declared.layout.Layout.{Layout}
use Rattle.cob_data.specs.declared.layout.Sender.{Sender}
use Rattle.cob_data.specs.Extents.{start_of}
use Rattle.cob_data.specs.Occurrences.{extent_of}
use Rattle.cob_program.specs.Act.{Program}
use Rattle.cob_runs.specs.declared.outcome.Outcome.{Outcome}
use Rattle.cob_runs.specs.declared.outcome.Outcome.TheVariants.{Going, Fault}
use Rattle.cob_runs.specs.Contents.{written, fitted}
use Rattle.cob_runs.specs.Moves.{moved}
use Rattle.cob_runs.specs.Files.{File, file, closed, Choice}
use Rattle.cob_runs.specs.State.{World, rest, paras, State, going}
use Rattle.cob_runs.specs.Steps.{body_at, settled_state, step}

-- ---- the beginning

-- storage in which each of the first so many occurrences holds these bytes
abbrev pub with_occurrences : Extent → List ℕ → ℕ → List ℕ → List ℕ
with_occurrences e bytes zero storage = storage
with_occurrences e bytes (suc n) storage = written (with_occurrences e bytes n storage) (start_of e n) bytes

abbrev pub with_value : Item → Result (List ℕ) Kind → List ℕ → List ℕ
with_value i (Ok bytes) storage = with_occurrences (extent_of i) bytes i.times storage
with_value i (Err kind) storage = storage

-- a VALUE is put as by MOVE, into each occurrence
abbrev pub with_constant : Layout → Item → Option Sender → List ℕ → List ℕ
with_constant l i None storage = storage
with_constant l i (Some x) storage = with_value i (moved l [] i.form i.length x) storage

abbrev pub with_values : Layout → List Item → List ℕ → List ℕ
with_values l [] storage = storage
with_values l (i ∷ items) storage = with_values l items (with_constant l i i.value storage)

-- each VALUE, and elsewhere the bytes that stood there
abbrev pub first_storage : Layout → List ℕ → List ℕ
first_storage l first = with_values l l.items (fitted l.storage first)

-- what each file holds: nothing where it is absent, else any bytes
abbrev pub Contents : Type 0
Contents = List (Option (List ℕ))

abbrev pub content_at : Contents → ℕ → Option (List ℕ)
content_at contents n = option_map_or (λ c. c) (slice_get contents n) None

abbrev pub first_files : Contents → ℕ → List FileDecl → List File
first_files contents n [] = []
first_files contents n (d ∷ ds) = file (content_at contents n) closed 0 ∷ first_files contents (suc n) ds

abbrev pub first_world : Program → Contents → List ℕ → World
first_world p contents first = record {
  storage = first_storage p.layout first;
  counts = replicate p.statements None;
  files = first_files contents 0 p.layout.files;
  shown = [];
}

-- ---- runs

module _ (p : Program) (contents : Contents) (first : List ℕ) where
  abbrev pub begin : State
  begin = settled_state p None (going (first_world p contents first) (rest (body_at p 0) ∷ paras 1 (length p.paras - 1) ∷ []))

  -- what is chosen in the step behind n steps, where the list says nothing what stood there
  abbrev pub choice_at : List Choice → ℕ → Choice
  choice_at choices n = option_map_or (λ c. c) (slice_get choices n) None

  -- the state after so many steps
  abbrev pub run : List Choice → ℕ → State
  run choices zero = begin
  run choices (suc n) = step p (choice_at choices n) (run choices n)

-- On all input files, for all contents that are left undefined and every number of steps, the run meets no fault.
abbrev pub IsFaultless : Program → Type 0
IsFaultless p =
    (contents : Contents) (first : List ℕ) (choices : List Choice) (n : ℕ) (kind : Kind) (statement : ℕ) →
    (run p contents first choices n).outcome ≡ Fault kind statement → ⊥
