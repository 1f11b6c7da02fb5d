-- Where a run begins.
use Rattle.std.proofs.Common.{◌≡◌, ℕ, zero, suc, ◌+◌, ◌-◌, List, [], ◌∷◌, length, map, inl, inr, Option, Some, None, Err, refl, sym, ap, subst, ◌∙◌, arith}
use Rattle.std.specs.Prelude.{slice_get, replicate}
use Rattle.std.specs.FinMap.{get}
use Rattle.batch_io.specs.FilesState.{Contents, FilesState, Purpose, known_bytes}
use Rattle.cob_data.specs.declared.layout.FileDecl.{FileDecl}
use Rattle.cob_program.specs.Act.{Program}
use Rattle.cob_runs.specs.declared.outcome.Outcome.{Outcome}
use Rattle.cob_runs.specs.declared.outcome.Outcome.TheVariants.{Going, Ended, IoStop, Fault}
use Rattle.cob_runs.specs.Files.{File, Choice}
use Rattle.cob_runs.specs.State.{World, Doing, rest, paras}
use Rattle.cob_runs.specs.Steps.{body_at, settled, settled_on, settle}
use Rattle.cob_runs.specs.Runs.{content_at, first_files, first_world}
use Rattle.cob_runs.specs.Runs as runs
use Rattle.cob_graph.specs.declared.graph.Graph.{Graph}
use Rattle.cob_graph.specs.Graphs.{IsGraph}
use Rattle.cob_graph.specs.WellFormed.{IsWellFormed}
use Rattle.cob_graph_laws.specs.Ways.{at_first}
use Rattle.cob_graph_laws.specs.Told.{Way, WaysTellOfRuns}
use Rattle.cob_interp.specs.declared.ends.RunEnd.TheVariants as end
use Rattle.cob_interp.specs.Ends.{told_files, AreFree, state_after}
use Rattle.cob_interp.specs.Told.{seen, seen_files, AreSynced}
use Rattle.cob_interp.specs.Runs.{Outside, IfTold, makes_next, ByClose, NoClose, BreaksOff, Runs}
use Rattle.cob_interp.specs.Running.{StandsIn, StandsIf, IsAt}
use Rattle.cob_interp.proofs.Passing.{append_none, well_stays}
use Rattle.cob_interp.specs.Tracking.{Ids, AreNone, purposes_of, purposes_for, ArePlaced}
use Rattle.cob_interp.proofs.TrackLemmas.{none_stand}
use Rattle.cob_interp.proofs.Waiting.{part_held}
use Rattle.cob_interp.proofs.Breaking.{broken_more, part_seen}

-- ---- the first files

told_at : (told : Contents) (paths : List (List ℕ)) (i : ℕ) (path : List ℕ) → slice_get paths i ≡ Some path
    → content_at (told_files told paths) i ≡ get told path
told_at told [] i path at = cc
told_at told (q ∷ paths) zero path at = let same : q ≡ path = cc in ap (get told) same
told_at told (q ∷ paths) (suc i) path at = told_at told paths i path at

next_place : (n i : ℕ) → n + suc i ≡ suc n + i
next_place n i = omega arith

-- the run sees them closed, with what is told
first_seen : (told : Contents) (contents : runs.Contents) (paths : List (List ℕ)) (ds : List FileDecl) (n : ℕ)
    → length paths ≡ length ds
    → ((i : ℕ) (path : List ℕ) → slice_get paths i ≡ Some path → content_at contents (n + i) ≡ get told path)
    → first_files contents n ds ≡ seen_files told paths (first_files [] n ds)
first_seen told contents [] [] n same each = refl
first_seen told contents [] (d ∷ ds) n same each = cc
first_seen told contents (path ∷ paths) [] n same each = cc
first_seen told contents (path ∷ paths) (d ∷ ds) n same each =
    let e : content_at contents n ≡ get told path =
    subst (λ (k : ℕ). content_at contents k ≡ get told path) (omega arith) (each 0 path refl) in
    let es = first_seen told contents paths ds (suc n) (omega (arith, same))
    (λ i q at. subst (λ (k : ℕ). content_at contents k ≡ get told q) (next_place n i) (each (suc i) q at)) in
    cc

first_synced : (told : Contents) (paths : List (List ℕ)) (ds : List FileDecl) (n : ℕ) → length paths ≡ length ds
    → AreSynced told paths (first_files [] n ds)
first_synced told [] [] n same = tt
first_synced told [] (d ∷ ds) n same = cc
first_synced told (path ∷ paths) [] n same = cc
first_synced told (path ∷ paths) (d ∷ ds) n same = (tt, first_synced told paths ds (suc n) (omega (arith, same)))

first_count : (contents : runs.Contents) (n : ℕ) (ds : List FileDecl)
    → length (first_files contents n ds) ≡ length ds
first_count contents n [] = refl
first_count contents n (d ∷ ds) = ap suc (first_count contents (suc n) ds)

-- none of them is open
pub first_purposes : (contents : runs.Contents) (n : ℕ) (ds : List FileDecl)
    → purposes_of (first_files contents n ds) ≡ replicate (length ds) None
first_purposes contents n [] = refl
first_purposes contents n (d ∷ ds) = ap (λ (ps : List (Option Purpose)). None ∷ ps) (first_purposes contents (suc n) ds)

pub placed_first : (p : Program) (contents : runs.Contents) (paths : List (List ℕ)) (state : FilesState) (ids : Ids)
    (w : World) (count : ℕ) → count ≡ length p.layout.files → length paths ≡ count → AreNone ids
    → purposes_for ids ≡ replicate count None
    → w ≡ first_world p contents [] → ArePlaced paths state ids w.files
placed_first p contents paths state ids w count same as_many none purposes is = record {
  count = ap (λ (v : World). length v.files) is ∙ first_count contents 0 p.layout.files ∙ sym same ∙ sym as_many;
  stand = none_stand paths state ids w.files none;
  purposes = purposes ∙ ap (λ (n : ℕ). replicate n None) same ∙ sym (first_purposes contents 0 p.layout.files)
      ∙ sym (ap (λ (v : World). purposes_of v.files) is);
}

-- ---- the first state

module _ (p : Program) (c : Choice) where
  settled_world : (w : World) (ds : List Doing) → (settled_on p c w ds).world ≡ w
  settled_world w [] = refl
  settled_world w (d ∷ ds) = refl

  settle_world : (w : World) (ds : List Doing) (o : Outcome) → (settle p c w ds o).world ≡ w
  settle_world w ds Going = settled_world w (settled p ds)
  settle_world w ds Ended = refl
  settle_world w ds (IoStop status statement) = refl
  settle_world w ds (Fault kind statement) = refl

module _ (p : Program) (g : Graph) (paths : List (List ℕ)) (same : length paths ≡ length p.layout.files) where
  first_as_seen : (told : Contents) → first_world p (told_files told paths) [] ≡ seen told paths []
      (first_world p [] [])
  first_as_seen told =
      ap (λ (fs : List File). record {
        storage = (first_world p [] []).storage;
        counts = (first_world p [] []).counts;
        files = fs;
        shown = [];
      })
      (first_seen told (told_files told paths) paths p.layout.files 0 same
      (λ i path at. subst (λ (k : ℕ). content_at (told_files told paths) k ≡ get told path) (omega arith)
      (told_at told paths i path at)))

  none_begun : (contents : runs.Contents) → AreFree p contents 0
  none_begun contents m below = absurd (omega (arith, below))

  module _ (tells : WaysTellOfRuns) (whole : IsWellFormed p) (is : IsGraph p g) (budget : ℕ) (start : Outside) where
    stands_first : (told : Contents) → StandsIn p g paths told told [] (first_world p [] []) 0 0 1
    stands_first told = record {
      tells = tells p g whole is (told_files told paths) [];
      way = subst (λ (w : World). Way p g (told_files told paths) [] 0 1 w) (first_as_seen told) at_first;
      synced = first_synced told paths p.layout.files 0 same;
      others = λ name none. refl;
      free = none_begun (told_files told paths);
    }

    begin_world : (told : Contents) → (state_after p (told_files told paths) 0).world ≡ seen told paths []
        (first_world p [] [])
    begin_world told =
        settle_world p None (first_world p (told_files told paths) [])
        (rest (body_at p 0) ∷ paras 1 (length p.paras - 1) ∷ []) Going
        ∙ first_as_seen told

    breaks_first : (told : Contents) → BreaksOff p paths budget NoClose told told start.sink start.sink (Err end.Memory)
    breaks_first told = record {
      steps = 0;
      within = omega arith;
      free = none_begun (told_files told paths);
      reached = 0;
      files = λ place path f at has.
          part_seen paths (λ n. makes_next p (state_after p (told_files told paths) 0) 0 n)
          (first_world p [] []) told told
          (first_synced told paths p.layout.files 0 same)
          (record { its = λ n q x at_ has_ s. part_held told q _ x s; others = λ name none. refl }) place path f at
          (subst (λ (w : World). slice_get w.files place ≡ Some f) (begin_world told) has);
      others = λ name none. refl;
      shows = inr (record { why = inl refl; front = (0, append_none start.sink.told) });
      meets = tt;
    }

    -- at the first node, with nothing told but what was
    begins_run : IsAt p g paths budget start start (first_world p [] []) 0 1
    begins_run = record {
      stands = record { text = []; well = well_stays start; told = stands (known_bytes start.files) };
      part = breaks (known_bytes start.files);
    } where
      stands : (known : Option Contents) → StandsIf p g paths known known [] (first_world p [] []) 0 0 1
      stands None = tt
      stands (Some told) = stands_first told

      breaks : (known : Option Contents)
          → IfTold (λ first told. BreaksOff p paths budget NoClose first told start.sink start.sink (Err end.Memory)) known
          known
      breaks None = tt
      breaks (Some told) = breaks_first told

    pub begins_with : {X : Type 0} (f : X → Option (List ℕ)) (items : List X) (w : World) → items ≡ []
        → w ≡ first_world p (map f items) []
        → IsAt p g paths budget start start w 0 1
    begins_with {X} f items w none is =
        subst (λ (v : World). IsAt p g paths budget start start v 0 1)
        (sym (is ∙ ap (λ (xs : List X). first_world p (map f xs) []) none)) begins_run

    -- where memory runs out before the run
    pub refused_first : Runs p paths budget start start (Err end.Memory)
    refused_first = record {
      ends = tt;
      part = broken_more p paths budget NoClose (ByClose start.files start.files (Err end.Memory)) (λ own fs none. absurd none)
          start start (known_bytes start.files) (known_bytes start.files) (Err end.Memory) refl refl begins_run.part;
    }
