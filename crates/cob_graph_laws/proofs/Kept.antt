-- A file that no statement opens for output is kept along each way, and so in each run.
use Rattle.std.proofs.Common.{◌≡◌, ◌<◌, ℕ, zero, suc, ◌+◌, ◌-◌, Bool, true, true≢false, List, [], ◌∷◌, length, slice_get, Option, Some, None, is_some, Ok, refl, sym, ap, subst, ◌∙◌, arith}
use Rattle.cob_data.specs.declared.layout.FileDecl.{FileDecl}
use Rattle.cob_program.specs.Act.{Program}
use Rattle.cob_runs.specs.declared.action.Action.{Action}
use Rattle.cob_runs.specs.declared.outcome.Outcome.{Outcome}
use Rattle.cob_runs.specs.declared.outcome.Outcome.TheVariants.{Going, Ended, IoStop, Fault}
use Rattle.cob_runs.specs.Files.{Choice, File}
use Rattle.cob_runs.specs.State.{World, State}
use Rattle.cob_runs.specs.Effects.{Effect, effect}
use Rattle.cob_runs.specs.Runs.{Contents, content_at, first_files, run, choice_at}
use Rattle.cob_graph.specs.declared.graph.Graph.{Graph}
use Rattle.cob_graph.specs.Graphs.{IsGraph}
use Rattle.cob_graph.specs.WellFormed.{IsWellFormed}
use Rattle.cob_graph_laws.specs.Ways.{Comes, at_first, onward, passed, ShowsBy, RunsAreWays}
use Rattle.cob_graph_laws.specs.Kept.{NeverMakes, IsKept, UnmadeFilesAreKept}
use Rattle.cob_graph_laws.proofs.KeptCalls.{closed_apart, KeptIn}
use Rattle.cob_graph_laws.proofs.KeptEdges.{Kept, KeptBy, effect_kept}

is_there : (ds : List FileDecl) (i : ℕ) → i < length ds → is_some (slice_get ds i) ≡ true
is_there [] i l = absurd (omega (arith, l))
is_there (d ∷ ds) zero l = refl
is_there (d ∷ ds) (suc i) l = is_there ds i (omega (arith, l))

module _ (contents : Contents) (place : ℕ) where
  first_kept : (n i : ℕ) (ds : List FileDecl) → n + i ≡ place
      → KeptIn contents place (is_some (slice_get ds i)) (slice_get (first_files contents n ds) i)
  first_kept n i [] e = refl
  first_kept n zero (d ∷ ds) e =
      let same : n ≡ place = omega (arith, e) in
      (refl, record { content = ap (content_at contents) same; mode = closed_apart })
  first_kept n (suc i) (d ∷ ds) e = first_kept (suc n) i ds (omega (arith, e))

module _ (p : Program) (g : Graph) (contents : Contents) (first : List ℕ) (choices : List Choice) (place : ℕ)
    (never : NeverMakes p place) where
  abbrev there : Bool
  there = is_some (slice_get p.layout.files place)

  abbrev KeptHere : World → Type 0
  KeptHere w = Kept contents place there w

  onward_kept : (number : ℕ) (c : Choice) (w v : World) (x : Action) → KeptHere w
      → effect p number c w x ≡ Ok (Some v) → KeptHere v
  onward_kept number c w v x k does =
      subst (λ (r : Effect). KeptBy contents place there r) does
      (effect_kept contents place there p never number c w k x)

  way_kept : {k n : ℕ} {w : World} → Comes p g contents first choices k n w → KeptHere w
  way_kept at_first = first_kept contents place 0 place p.layout.files (omega arith)
  way_kept (onward {k = k} {w = w} {v = v} x a m way is out does handled) =
      onward_kept x.statement (choice_at p contents first choices (passed k x - 1)) w v a (way_kept way) does

  shown_kept : (o : Outcome) (n : ℕ) (s : State) → ShowsBy p g contents first choices o n s → KeptHere s.world
  shown_kept Going n s h = way_kept h.way
  shown_kept Ended n s h = way_kept h.way
  shown_kept (IoStop status statement) n s h =
      onward_kept statement (choice_at p contents first choices (passed h.left h.at - 1)) h.before s.world h.action
      (way_kept h.way) h.leads
  shown_kept (Fault kind statement) n s h = way_kept h.way

  module _ (simulation : RunsAreWays) (whole : IsWellFormed p) (is : IsGraph p g) where
    run_kept : (n : ℕ) → KeptHere (run p contents first choices n).world
    run_kept n =
        let s = run p contents first choices n in
        shown_kept s.outcome n s (simulation p g whole is contents first choices n)

    pub file_kept : (n : ℕ) (f : File) → slice_get (run p contents first choices n).world.files place ≡ Some f
        → IsKept contents place f
    file_kept n f e = (subst (λ (o : Option File). KeptIn contents place there o) e (run_kept n)).1

    found : (o : Option File) → there ≡ true → KeptIn contents place there o → (f : File) × (o ≡ Some f)
    found None e k = absurd (true≢false (sym e ∙ k))
    found (Some f) e k = (f, refl)

    -- the file stays there
    pub file_stays : (n : ℕ) → place < length p.layout.files
        → (f : File) × (slice_get (run p contents first choices n).world.files place ≡ Some f)
    file_stays n l =
        found (slice_get (run p contents first choices n).world.files place)
        (is_there p.layout.files place l) (run_kept n)

pub keeps_unmade : RunsAreWays → UnmadeFilesAreKept
keeps_unmade simulation p g whole is contents first choices n place f never =
    file_kept p g contents first choices place never simulation whole is n f
