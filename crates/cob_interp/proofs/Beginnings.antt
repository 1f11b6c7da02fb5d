-- How a step begins.
use Rattle.std.proofs.Common.{◌≡◌, ℕ, ◌+◌, true, false, List, Option, Some, refl, ap, subst, ◌∙◌, arith}
use Rattle.std.specs.Option.{option_map_or}
use Rattle.batch_io.specs.FilesState.{Contents, known_bytes}
use Rattle.cob_program.specs.Act.{Act, move, arith as arithmetic, if_, evaluate, perform, go, nothing, stop, open_files, close_files, read, write, show, Program}
use Rattle.cob_runs.specs.State.{World}
use Rattle.cob_runs.specs.Effects.{act_at}
use Rattle.cob_graph.specs.declared.graph.Node.{Node}
use Rattle.cob_graph.specs.Laid.{one_if}
use Rattle.cob_graph.specs.Lookup.{node_at}
use Rattle.cob_graph_laws.specs.Ways.{passed}
use Rattle.cob_interp.specs.declared.setting.Setting.{Setting}
use Rattle.cob_interp.specs.Told.{seen}
use Rattle.cob_interp.specs.Ends.{cut_by}
use Rattle.cob_interp.specs.Runs.{Outside}
use Rattle.cob_interp.specs.Running.{StandsIn, Stands, IsUnderway}
use Rattle.cob_interp.specs.Setting.{program_of, paths_of}
use Rattle.cob_interp.proofs.Passing.{stands_told}
use Rattle.cob_interp.proofs.Onward.{begins_freely}

-- ---- statements that nothing stops

-- a statement that is no READ
abbrev pub IsFreeAct : Act → Type 0
IsFreeAct (read f into end fine) = ⊥
IsFreeAct _ = Unit {0}

pub uncut_free : (p : Program) (a : Act) → IsFreeAct a → (w : World) (file_ : ℕ) → cut_by p a w file_ ≡ false
uncut_free p (read f into end fine) free w file_ = absurd free
uncut_free p (open_files os) free w file_ = refl
uncut_free p (close_files xs) free w file_ = refl
uncut_free p (move x places) free w file_ = refl
uncut_free p (arithmetic sum targets remainder size fine) free w file_ = refl
uncut_free p (if_ t held other) free w file_ = refl
uncut_free p (evaluate ws other) free w file_ = refl
uncut_free p (perform body turns) free w file_ = refl
uncut_free p (go para) free w file_ = refl
uncut_free p nothing free w file_ = refl
uncut_free p stop free w file_ = refl
uncut_free p (write r from) free w file_ = refl
uncut_free p (show xs) free w file_ = refl

pub passes_one : (steps : ℕ) (x : Node) → x.starts ≡ true → steps + 1 ≡ passed steps x
passes_one steps x e = let f : one_if x.starts ≡ 1 = ap one_if e in omega (arith, f)

module _ (s : Setting) (start now : Outside) (w : World) (steps node : ℕ) (x : Node)
    (at : node_at s.graph.now.nodes node ≡ Some x)
    (starts : x.starts ≡ true) where
  -- the step is underway at its first node
  pub begins : (a : Act) → act_at (program_of s) x.statement ≡ Some a
      → ((first told : Contents) (text : List ℕ) → known_bytes now.files ≡ Some told
      → StandsIn (program_of s) s.graph.now (paths_of s) first told text w steps steps node
      → (file_ : ℕ) → cut_by (program_of s) a (seen told (paths_of s) text w) file_ ≡ false)
      → Stands (program_of s) s.graph.now (paths_of s) start now w steps steps node
      → IsUnderway (program_of s) s.graph.now (paths_of s) start now w (steps + 1) node
  begins a its uncut stands = record {
    left = steps;
    stands = stands_told (program_of s) s.graph.now (paths_of s) start now w w steps steps node steps (steps + 1) node
        (λ first told text e st. begins_freely (program_of s) s.graph.now (paths_of s) first told text w steps node st 0
        x at starts
        (λ file_. ap (λ (o : Option Act). option_map_or (λ b. cut_by (program_of s) b (seen told (paths_of s) text w)
        file_) o false) its
        ∙ uncut first told text e st file_))
        stands;
    counts = λ y there. let same : x ≡ y = cc in subst (λ (z : Node). steps + 1 ≡ passed steps z) same
        (passes_one steps x starts);
  }
