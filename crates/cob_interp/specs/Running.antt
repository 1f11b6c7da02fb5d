-- What holds of a run while it runs.
use Rattle.std.specs.Prelude.{◌≡◌, ℕ, List, [], ◌++◌, Option, Some, Result, Ok, Err}
use Rattle.std.specs.Io.KnownBytes.{append_known}
use Rattle.batch_io.specs.FilesState.{Contents, known_bytes}
use Rattle.cob_program.specs.Act.{Program}
use Rattle.cob_runs.specs.State.{World}
use Rattle.cob_graph.specs.declared.graph.Graph.{Graph}
use Rattle.cob_graph.specs.declared.graph.Node.{Node}
use Rattle.cob_graph.specs.Lookup.{node_at}
use Rattle.cob_graph_laws.specs.Ways.{passed}
use Rattle.cob_graph_laws.specs.Told.{Way, WaysTell}
use Rattle.cob_interp.specs.declared.ends.Ended.{Ended}
use Rattle.cob_interp.specs.declared.ends.RunEnd.{RunEnd}
use Rattle.cob_interp.specs.declared.ends.RunEnd.TheVariants as end
use Rattle.cob_interp.specs.Ends.{told_files, AreFree, IsEnd, state_after}
use Rattle.cob_interp.specs.Told.{seen, seen_files, AreSynced, KeepsNames}
use Rattle.cob_interp.specs.Runs.{Outside, IfTold, IsBrokenBefore, IfRefused, EndsBy}

-- ---- while it runs

-- no fault was told so far, and the sink gained this text
pub record IsWell (old new : Outside) (text : List ℕ) : Type 0 where
  pub reading : new.files.reading ≡ old.files.reading
  pub writing : new.files.writing ≡ old.files.writing
  pub faults : new.sink.faults ≡ old.sink.faults
  pub gained : new.sink.told ≡ append_known old.sink.told text

module _ (p : Program) (g : Graph) (paths : List (List ℕ)) where
  -- The way that the run has come stands in what is kept: it has left so many nodes at which a step begins. So many
  -- steps were begun, all of them freely.
  pub record StandsIn (first told : Contents) (text : List ℕ) (w : World) (left begun node : ℕ) : Type 0 where
    pub tells : WaysTell p g (told_files first paths) []
    pub way : Way p g (told_files first paths) [] left node (seen told paths text w)
    pub synced : AreSynced told paths w.files
    pub others : KeepsNames first told paths
    pub free : AreFree p (told_files first paths) begun

  abbrev pub StandsIf : Option Contents → Option Contents → List ℕ → World → ℕ → ℕ → ℕ → Type 0
  StandsIf a b text w left begun node = IfTold (λ first told. StandsIn first told text w left begun node) a b

  pub record Stands (start now : Outside) (w : World) (left begun node : ℕ) : Type 0 where
    pub text : List ℕ
    pub well : IsWell start now text
    pub told : StandsIf (known_bytes start.files) (known_bytes now.files) text w left begun node

  -- The run is at a node of the step with this number, counted from 1.
  pub record IsUnderway (start now : Outside) (w : World) (step node : ℕ) : Type 0 where
    pub left : ℕ
    pub stands : Stands start now w left step node
    pub counts : (x : Node) → node_at g.nodes node ≡ Some x → step ≡ passed left x

  -- ---- a run that has ended

  module _ (budget : ℕ) where
    -- the run's own end stands in what is kept
    pub record RestsIn (first told : Contents) (text : List ℕ) (w : World) (result : Result Ended RunEnd) : Type 0 where
      pub steps : ℕ
      pub answer : IsEnd p (told_files first paths) budget result steps
      pub files : (state_after p (told_files first paths) steps).world.files ≡ seen_files told paths w.files
      pub shown : (state_after p (told_files first paths) steps).world.shown ≡ text ++ w.shown
      pub synced : AreSynced told paths w.files
      pub others : KeepsNames first told paths

    abbrev pub RestsIf : Option Contents → Option Contents → List ℕ → World → Result Ended RunEnd → Type 0
    RestsIf a b text w result = IfTold (λ first told. RestsIn first told text w result) a b

    pub record Rests (start now : Outside) (w : World) (result : Result Ended RunEnd) : Type 0 where
      pub text : List ℕ
      pub well : IsWell start now text
      pub told : RestsIf (known_bytes start.files) (known_bytes now.files) text w result

    -- ---- a run that goes on or halts

    abbrev pub Halts : Outside → Outside → World → Result Ended RunEnd → Type 0
    Halts start now w result = EndsBy (λ old new r. Rests old new w r) start now result

    -- what a call answers that does a node's part: the next node, where all goes on to stand, or why the run halts
    abbrev pub Arrives : Outside → Outside → World → ℕ → Result ℕ RunEnd → Type 0
    Arrives start now w step (Ok node) = Stands start now w step step node
    Arrives start now w step (Err e) = Halts start now w (Err e)

    -- The run is at a node at which a step begins, or at the last one, wherever it might be broken off now.
    pub record IsAt (start now : Outside) (w : World) (steps node : ℕ) : Type 0 where
      pub stands : Stands start now w steps steps node
      pub part : IsBrokenBefore p paths budget start now (Err end.Memory)

    -- the run goes on at a node, or halts
    abbrev pub GoesOn : Outside → Outside → World → ℕ → Result ℕ RunEnd → Type 0
    GoesOn start now w step (Ok node) = IsAt start now w step node
    GoesOn start now w step (Err e) = Halts start now w (Err e) × IfRefused (Err e) (IsBrokenBefore p paths budget start now (Err e))

    pub record HaltsOff (start now : Outside) (w : World) (result : Result Ended RunEnd) : Type 0 where
      pub halts : Halts start now w result
      pub part : IfRefused result (IsBrokenBefore p paths budget start now result)
