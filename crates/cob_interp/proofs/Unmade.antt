-- A path whose file no statement opens for output holds behind the run what it held before.
use Rattle.std.proofs.Common.{◌≡◌, ◌<◌, inl, inr, ℕ, ◌&&◌, ◌==◌, Bool, true, false, List, [], length, map, slice_get, Option, Some, None, option_map, Result, Ok, Err, eqb-true, refl, sym, ap, ◌∙◌}
use Rattle.std.specs.Option.{option_map_or}
use Rattle.std.specs.FinMap.{get}
use Rattle.std.proofs.lemmas.Bool.{false≢true}
use Rattle.std.proofs.lemmas.List.Folds.{Any-from_list_any}
use Rattle.std.proofs.lemmas.Option.{none-some, same_Some, slice_get-map}
use Rattle.batch_io.specs.FilesState.{Contents, known_bytes}
use Rattle.batch_io.specs.SinkState.{SinkState}
use Rattle.cob_program.specs.declared.act.Opening.{Opening}
use Rattle.cob_program.specs.Act.{Act, open_files, Program}
use Rattle.cob_runs.specs.Files.{File, writing}
use Rattle.cob_runs.specs.Effects.{act_at}
use Rattle.cob_runs.specs.Runs.{content_at}
use Rattle.cob_graph.specs.declared.graph.Graph.{Graph}
use Rattle.cob_graph.specs.Graphs.{IsGraph}
use Rattle.cob_graph.specs.WellFormed.{IsWellFormed}
use Rattle.cob_graph_laws.specs.Ways.{next_statement}
use Rattle.cob_graph_laws.proofs.Simulated.{simulates}
use Rattle.cob_graph_laws.specs.Kept.{NeverMakes, IsKept}
use Rattle.cob_graph_laws.proofs.Kept.{file_kept, file_stays}
use Rattle.cob_interp.specs.declared.ends.Ended.{Ended}
use Rattle.cob_interp.specs.declared.ends.RunEnd.{RunEnd}
use Rattle.cob_interp.specs.declared.ends.RunEnd.TheVariants as end
use Rattle.cob_interp.specs.Ends.{told_files, state_after}
use Rattle.cob_interp.specs.Touching.{IsPartOf, makes_in, makes_by}
use Rattle.cob_interp.specs.Reached.{up_to}
use Rattle.cob_interp.proofs.Touched.{any_up}
use Rattle.cob_interp.specs.Runs.{Outside, IfTold, makes_next, EndsRun, EndsWell, ByClose, BreaksOff, IsBroken, Runs, KeepsUnmade}

if_told : (P Q : Contents → Contents → Type 0) → ((first told : Contents) → P first told → Q first told)
    → (a b : Option Contents) → IfTold P a b → IfTold Q a b
if_told P Q h (Some first) (Some told) k = h first told k
if_told P Q h (Some first) None k = k
if_told P Q h None b k = tt

-- ---- what is made

both : (a b : Bool) → (a && b) ≡ true → (a ≡ true) × (b ≡ true)
both true b e = (refl, e)
both false b e = absurd (false≢true e)

module _ (p : Program) (place : ℕ) (never : NeverMakes p place) (number : ℕ) where
  not_made_in : (os : List Opening) → act_at p number ≡ Some (open_files os) → makes_in os place ≡ true → ⊥
  not_made_in os is e =
      let o = Any-from_list_any (λ o. o.output && (o.file == place)) os e in
      let h = both o.1.output (o.1.file == place) o.4 in
      never number os o.1 is (o.0, o.2, o.3) h.0 (eqb-true o.1.file place h.1)

  module _ (reached : ℕ) where
    not_made_by : (a : Act) → act_at p number ≡ Some a → makes_by (up_to reached a) place ≡ true → ⊥
    not_made_by (open_files os) is e = not_made_in os is (any_up (λ o. o.output && (o.file == place)) reached os e)
    not_made_by a is e = false≢true e

    not_made : (a : Option Act) → act_at p number ≡ a
        → option_map_or (λ a. makes_by (up_to reached a) place) a false ≡ true → ⊥
    not_made None is e = false≢true e
    not_made (Some a) is e = not_made_by a is e

-- a file that isn't being written, and isn't made, holds all
whole_part : (makes : Bool) (f : File) (all now : Option (List ℕ)) → (makes ≡ true → ⊥) → (f.mode ≡ writing → ⊥)
    → IsPartOf makes f all now → now ≡ all
whole_part makes f all now unmade unwritten (inl same) = same
whole_part makes f all now unmade unwritten (inr (inl front)) = absurd (unwritten front.0)
whole_part makes f all now unmade unwritten (inr (inr emptied)) = absurd (unmade emptied.0)

-- the file with this content
held : (o : Option File) (content : Option (List ℕ)) → option_map (λ f. f.content) o ≡ Some content
    → (f : File) × (o ≡ Some f) × (f.content ≡ content)
held None content e = absurd (none-some content e)
held (Some f) content e = (f, refl, same_Some f.content content e)

module _ (p : Program) (g : Graph) (whole : IsWellFormed p) (is : IsGraph p g) (paths : List (List ℕ)) (budget : ℕ) where
  module _ (first told : Contents) where
    -- ---- at one place

    module _ (place : ℕ) (path : List ℕ) (at : slice_get paths place ≡ Some path) (never : NeverMakes p place) (n : ℕ)
      where
        abbrev files : List File
        files = (state_after p (told_files first paths) n).world.files

        told_at : content_at (told_files first paths) place ≡ get first path
        told_at =
            ap (λ (o : Option (Option (List ℕ))). option_map_or (λ c. c) o None)
            (slice_get-map (get first) paths place ∙ ap (option_map (get first)) at)

        kept : (f : File) → slice_get files place ≡ Some f → IsKept (told_files first paths) place f
        kept f e = file_kept p g (told_files first paths) [] [] place never simulates whole is n f e

        by_content : map (get told) paths ≡ map (λ f. f.content) files → get told path ≡ get first path
        by_content its =
            let here : option_map (λ f. f.content) (slice_get files place) ≡ Some (get told path) =
            sym (slice_get-map (λ f. f.content) files place)
            ∙ ap (λ (cs : List (Option (List ℕ))). slice_get cs place) (sym its)
            ∙ slice_get-map (get told) paths place ∙ ap (option_map (get told)) at in
            let x = held (slice_get files place) (get told path) here in
            sym x.2 ∙ (kept x.0 x.1).content ∙ told_at

        by_part : (reached : ℕ) → place < length p.layout.files
            → ((f : File) → slice_get files place ≡ Some f → IsPartOf
            (makes_next p (state_after p (told_files first paths) n) reached place) f f.content (get told path))
            → get told path ≡ get first path
        by_part reached within part =
            let s = state_after p (told_files first paths) n in
            let x = file_stays p g (told_files first paths) [] [] place never simulates whole is n within in
            let number = next_statement p s.control in
            let k = kept x.0 x.1 in
            whole_part (makes_next p s reached place) x.0 x.0.content (get told path)
            (not_made p place never number reached (act_at p number) refl) k.mode (part x.0 x.1)
            ∙ k.content ∙ told_at

    -- ---- at all

    ended : (before after : SinkState) (r : Result Ended RunEnd) → EndsRun p paths budget first told before after r
        → KeepsUnmade p paths first told
    ended before after r x place path at within never = by_content place path at never x.steps x.holds.its

    broken : (Closes : Result Ended RunEnd → List File → Type 0) (before after : SinkState) (r : Result Ended RunEnd)
        → BreaksOff p paths budget Closes first told before after r
        → KeepsUnmade p paths first told
    broken Closes before after r x place path at within never =
        by_part place path at never x.steps x.reached within (λ f has. x.files place path f at has)

  module _ (old new : Outside) where
    abbrev IsUnmadeKept : Type 0
    IsUnmadeKept =
        IfTold (λ first told. KeepsUnmade p paths first told) (known_bytes old.files) (known_bytes new.files)

    by_end : (r : Result Ended RunEnd) → EndsWell p paths budget old new r → IsUnmadeKept
    by_end r x =
        if_told (λ first told. EndsRun p paths budget first told old.sink new.sink r)
        (λ first told. KeepsUnmade p paths first told) (λ first told y. ended first told old.sink new.sink r y)
        (known_bytes old.files) (known_bytes new.files) x.run

    by_break : (r : Result Ended RunEnd) → IsBroken p paths budget old new r → IsUnmadeKept
    by_break r x =
        let closes = ByClose old.files new.files r in
        if_told (λ first told. BreaksOff p paths budget closes first told old.sink new.sink r)
        (λ first told. KeepsUnmade p paths first told) (λ first told y. broken first told closes old.sink new.sink r y)
        (known_bytes old.files) (known_bytes new.files) x

    -- however the run ends
    pub unmade_kept : (r : Result Ended RunEnd) → Runs p paths budget old new r → IsUnmadeKept
    unmade_kept (Ok e) x = by_end (Ok e) x.ends
    unmade_kept (Err (end.StepsSpent count)) x = by_end (Err (end.StepsSpent count)) x.ends
    unmade_kept (Err (end.IoStop status statement)) x = by_end (Err (end.IoStop status statement)) x.ends
    unmade_kept (Err (end.Fault kind statement step)) x = by_end (Err (end.Fault kind statement step)) x.ends
    unmade_kept (Err (end.Ragged file count)) x = by_end (Err (end.Ragged file count)) x.ends
    unmade_kept (Err end.ReadFault) x = by_break (Err end.ReadFault) x.part
    unmade_kept (Err end.WriteFault) x = by_break (Err end.WriteFault) x.part
    unmade_kept (Err end.Memory) x = by_break (Err end.Memory) x.part
