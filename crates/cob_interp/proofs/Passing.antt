-- What stands goes on standing.
use Rattle.std.proofs.Common.{◌≡◌, ℕ, List, [], ◌++◌, Option, Some, None, Result, refl, sym, ap, subst, ◌∙◌, append_assoc, append-nil}
use Rattle.std.specs.Prelude.{IsSome}
use Rattle.std.specs.Io.KnownBytes.{append_known}
use Rattle.batch_io.specs.FilesState.{Contents, FilesState, KeepsIds, known_bytes}
use Rattle.cob_program.specs.Act.{Program}
use Rattle.cob_runs.specs.State.{World}
use Rattle.cob_graph.specs.declared.graph.Graph.{Graph}
use Rattle.cob_interp.specs.declared.ends.Ended.{Ended}
use Rattle.cob_interp.specs.declared.ends.RunEnd.{RunEnd}
use Rattle.batch_io.specs.SinkState.{SinkState}
use Rattle.cob_interp.specs.Told.{AgreeBut}
use Rattle.cob_interp.specs.Readying.{AreWell, Readies}
use Rattle.cob_interp.specs.Runs.{outside, Outside}
use Rattle.cob_interp.specs.Running.{IsWell, StandsIn, StandsIf, Stands, RestsIn, RestsIf, Rests}

pub ids_stay : (a : FilesState) → KeepsIds a a
ids_stay a = record { purpose = λ id. refl; handle = λ id some. refl }

pub ids_pass : (a b c : FilesState) → KeepsIds a b → KeepsIds b c → KeepsIds a c
ids_pass a b c h k = record {
  purpose = λ id. k.purpose id ∙ h.purpose id;
  handle = λ id some. k.handle id (subst IsSome (sym (h.purpose id)) some) ∙ h.handle id some;
}

pub append_twice : (told : Option (List ℕ)) (text more : List ℕ)
    → append_known (append_known told text) more ≡ append_known told (text ++ more)
append_twice None text more = refl
append_twice (Some bytes) text more = ap Some (append_assoc bytes text more)

pub append_none : (told : Option (List ℕ)) → told ≡ append_known told []
append_none None = refl
append_none (Some bytes) = ap Some (sym (append-nil bytes))

pub well_stays : (a : Outside) → IsWell a a []
well_stays a = record {
  reading = refl;
  writing = refl;
  faults = refl;
  gained = append_none
      a.sink.told;
}

pub well_passes : (a b c : Outside) (text more : List ℕ) → IsWell a b text → IsWell b c more → IsWell a c (text ++ more)
well_passes a b c text more h k = record {
  reading = k.reading ∙ h.reading;
  writing = k.writing ∙ h.writing;
  faults = k.faults ∙ h.faults;
  gained = k.gained ∙ ap (λ (told : Option (List ℕ)). append_known told more) h.gained ∙ append_twice a.sink.told text
      more;
}

module _ (p : Program) (g : Graph) (paths : List (List ℕ)) where
  carried : (a b c : Option Contents) (text text_ : List ℕ) (w v : World) (left begun node left_ begun_ node_ : ℕ)
      → ((first told : Contents) → b ≡ Some told → StandsIn p g paths first told text w left begun node
      → StandsIf p g paths (Some first) c text_ v left_ begun_ node_)
      → StandsIf p g paths a b text w left begun node → StandsIf p g paths a c text_ v left_ begun_ node_
  carried None b c text text_ w v left begun node left_ begun_ node_ f s = tt
  carried (Some first) None c text text_ w v left begun node left_ begun_ node_ f s = absurd s
  carried (Some first) (Some told) c text text_ w v left begun node left_ begun_ node_ f s = f first told refl s

  -- where the outside stays as it is
  pub stands_on : (start now : Outside) (w v : World) (left begun node left_ begun_ node_ : ℕ)
      → ((first told : Contents) (text : List ℕ) → StandsIn p g paths first told text w left begun node
      → StandsIn p g paths first told text v left_ begun_ node_)
      → Stands p g paths start now w left begun node → Stands p g paths start now v left_ begun_ node_
  stands_on start now w v left begun node left_ begun_ node_ f s = record {
    text = s.text;
    well = s.well;
    told = stays (known_bytes start.files) (known_bytes now.files) s.told;
  } where
    stays : (a b : Option Contents) → StandsIf p g paths a b s.text w left begun node
        → StandsIf p g paths a b s.text v left_ begun_ node_
    stays None b t = tt
    stays (Some first) None t = absurd t
    stays (Some first) (Some told) t = f first told s.text t

  -- where the outside stays as it is, by what it tells
  pub stands_told : (start now : Outside) (w v : World) (left begun node left_ begun_ node_ : ℕ)
      → ((first told : Contents) (text : List ℕ) → known_bytes now.files ≡ Some told
      → StandsIn p g paths first told text w left begun node
      → StandsIn p g paths first told text v left_ begun_ node_)
      → Stands p g paths start now w left begun node → Stands p g paths start now v left_ begun_ node_
  stands_told start now w v left begun node left_ begun_ node_ f s = record {
    text = s.text;
    well = s.well;
    told = stays (known_bytes start.files) (known_bytes now.files) refl s.told;
  } where
    stays : (a b : Option Contents) → known_bytes now.files ≡ b → StandsIf p g paths a b s.text w left begun node
        → StandsIf p g paths a b s.text v left_ begun_ node_
    stays None b e t = tt
    stays (Some first) None e t = absurd t
    stays (Some first) (Some told) e t = f first told s.text e t

  -- where it changes
  pub stands_behind : (start now then_ : Outside) (w v : World) (more : List ℕ) (left begun node left_ begun_ node_ : ℕ)
      → IsWell now then_ more
      → ((first told : Contents) (text : List ℕ) → known_bytes now.files ≡ Some told
      → StandsIn p g paths first told text w left begun node
      → StandsIf p g paths (Some first) (known_bytes then_.files) (text ++ more) v left_ begun_ node_)
      → Stands p g paths start now w left begun node → Stands p g paths start then_ v left_ begun_ node_
  stands_behind start now then_ w v more left begun node left_ begun_ node_ well f s = record {
    text = s.text ++ more;
    well = well_passes start now then_ s.text more s.well well;
    told = carried (known_bytes start.files) (known_bytes now.files) (known_bytes then_.files) s.text (s.text ++ more)
        w v left begun node left_ begun_ node_ (λ first told. f first told s.text) s.told;
  }

  module _ (budget : ℕ) where
    rested : (a b c : Option Contents) (text text_ : List ℕ) (w v : World) (left begun node : ℕ)
        (result : Result Ended RunEnd)
        → ((first told : Contents) → b ≡ Some told → StandsIn p g paths first told text w left begun node
        → RestsIf p g paths budget (Some first) c text_ v result)
        → StandsIf p g paths a b text w left begun node → RestsIf p g paths budget a c text_ v result
    rested None b c text text_ w v left begun node result f s = tt
    rested (Some first) None c text text_ w v left begun node result f s = absurd s
    rested (Some first) (Some told) c text text_ w v left begun node result f s = f first told refl s

    pub rests_behind : (start now then_ : Outside) (w v : World) (more : List ℕ) (left begun node : ℕ)
        (result : Result Ended RunEnd) → IsWell now then_ more
        → ((first told : Contents) (text : List ℕ) → known_bytes now.files ≡ Some told
        → StandsIn p g paths first told text w left begun node
        → RestsIf p g paths budget (Some first) (known_bytes then_.files) (text ++ more) v result)
        → Stands p g paths start now w left begun node → Rests p g paths budget start then_ v result
    rests_behind start now then_ w v more left begun node result well f s = record {
      text = s.text ++ more;
      well = well_passes start now then_ s.text more s.well well;
      told = rested (known_bytes start.files) (known_bytes now.files) (known_bytes then_.files) s.text (s.text ++ more)
          w v left begun node result (λ first told. f first told s.text) s.told;
    }

    -- where the outside stays as it is
    pub rests_on : (start now : Outside) (w v : World) (left begun node : ℕ) (result : Result Ended RunEnd)
        → ((first told : Contents) (text : List ℕ) → StandsIn p g paths first told text w left begun node
        → RestsIn p g paths budget first told text v result)
        → Stands p g paths start now w left begun node → Rests p g paths budget start now v result
    rests_on start now w v left begun node result f s = record {
      text = s.text;
      well = s.well;
      told = stays (known_bytes start.files) (known_bytes now.files) s.told;
    } where
      stays : (a b : Option Contents) → StandsIf p g paths a b s.text w left begun node
          → RestsIf p g paths budget a b s.text v result
      stays None b t = tt
      stays (Some first) None t = absurd t
      stays (Some first) (Some told) t = f first told s.text t

    -- where the outside stays as it is, by what it tells
    pub rests_told : (start now : Outside) (w v : World) (left begun node : ℕ) (result : Result Ended RunEnd)
        → ((first told : Contents) (text : List ℕ) → known_bytes now.files ≡ Some told
        → StandsIn p g paths first told text w left begun node
        → RestsIn p g paths budget first told text v result)
        → Stands p g paths start now w left begun node → Rests p g paths budget start now v result
    rests_told start now w v left begun node result f s = record {
      text = s.text;
      well = s.well;
      told = stays (known_bytes start.files) (known_bytes now.files) refl s.told;
    } where
      stays : (a b : Option Contents) → known_bytes now.files ≡ b → StandsIf p g paths a b s.text w left begun node
          → RestsIf p g paths budget a b s.text v result
      stays None b e t = tt
      stays (Some first) None e t = absurd t
      stays (Some first) (Some told) e t = f first told s.text e t

-- ---- where a file was made ready

pub readied_well : (old new : FilesState) (sink : SinkState) → AreWell old new
    → IsWell (outside old sink) (outside new sink) []
readied_well old new sink well = record {
  reading = well.reading;
  writing = well.writing;
  faults = refl;
  gained = append_none sink.told;
}

module _ (p : Program) (g : Graph) (paths : List (List ℕ)) (start : Outside) (sink : SinkState) (old new : FilesState)
    (path : List ℕ) (IsIt : Contents → Contents → Type 0) (ready : Readies old new path IsIt) (w v : World)
    (left begun node : ℕ) where
  pub stands_readied : (left_ begun_ node_ : ℕ)
      → ((first told now : Contents) (text : List ℕ) → known_bytes old ≡ Some told → AgreeBut told now path
      → IsIt told now
      → StandsIn p g paths first told text w left begun node → StandsIn p g paths first now text v left_ begun_ node_)
      → Stands p g paths start (outside old sink) w left begun node
      → Stands p g paths start (outside new sink) v left_ begun_ node_
  stands_readied left_ begun_ node_ f s =
      stands_behind p g paths start (outside old sink) (outside new sink) w v [] left begun node left_ begun_ node_
      (readied_well old new sink ready.well)
      (λ first told text e st. let k = ready.known told e in
      subst (λ (c : Option Contents). StandsIf p g paths (Some first) c (text ++ []) v left_ begun_ node_) (sym k.is)
      (subst (λ (t : List ℕ). StandsIn p g paths first k.now t v left_ begun_ node_) (sym (append-nil text))
      (f first told k.now text e k.others k.it st)))
      s

  pub rests_readied : (budget : ℕ) (result : Result Ended RunEnd)
      → ((first told now : Contents) (text : List ℕ) → known_bytes old ≡ Some told → AgreeBut told now path
      → IsIt told now
      → StandsIn p g paths first told text w left begun node → RestsIn p g paths budget first now text v result)
      → Stands p g paths start (outside old sink) w left begun node
      → Rests p g paths budget start (outside new sink) v result
  rests_readied budget result f s =
      rests_behind p g paths budget start (outside old sink) (outside new sink) w v [] left begun node result
      (readied_well old new sink ready.well)
      (λ first told text e st. let k = ready.known told e in
      subst (λ (c : Option Contents). RestsIf p g paths budget (Some first) c (text ++ []) v result) (sym k.is)
      (subst (λ (t : List ℕ). RestsIn p g paths budget first k.now t v result) (sym (append-nil text))
      (f first told k.now text e k.others k.it st)))
      s
