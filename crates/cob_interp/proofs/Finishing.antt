-- How a run goes on from step to step, and ends.
use Rattle.std.proofs.Common.{◌≡◌, ℕ, ◌≤◌, ◌<◌, true, false, List, [], ◌++◌, length, map, inl, inr, Option, Some, Result, Ok, Err, ◌⊎◌, true≢false, take, refl, sym, ap, subst, ◌∙◌, append-nil, arith}
use Rattle.std.specs.Prelude.{string_bytes, IfOk}
use Rattle.std.proofs.lemmas.List.{length-map}
use Rattle.std.specs.Io.KnownBytes.{append_known}
use Rattle.batch_io.specs.Faults.{Rose}
use Rattle.batch_io.specs.FilesState.{Contents, FilesState, known_bytes}
use Rattle.batch_io.specs.SinkState.{SinkState}
use Rattle.batch_io.specs.declared.ends.MakeEnd.{MakeEnd}
use Rattle.batch_io.specs.declared.ends.MakeEnd.TheVariants as make
use Rattle.cob_program.specs.Act.{Act, Program}
use Rattle.cob_program.specs.ActView.{plain_act}
use Rattle.cob_runs.specs.Files.{File}
use Rattle.cob_runs.specs.State.{World}
use Rattle.cob_runs.specs.Effects.{act_at}
use Rattle.cob_graph.specs.declared.graph.Graph.{Graph}
use Rattle.cob_graph.specs.declared.graph.Node.{Node}
use Rattle.cob_graph.specs.Lookup.{node_at, final_in}
use Rattle.cob_interp.specs.declared.ends.Ended.{Ended}
use Rattle.cob_interp.specs.declared.ends.Ending.{Ending}
use Rattle.cob_interp.specs.declared.ends.RunEnd.{RunEnd}
use Rattle.cob_interp.specs.declared.ends.RunEnd.TheVariants as end
use Rattle.cob_interp.specs.declared.setting.Setting.{Setting}
use Rattle.cob_interp.specs.declared.setting.Standing.{Standing}
use Rattle.cob_interp.specs.declared.walk.Halt.{Halt}
use Rattle.cob_interp.specs.declared.walk.Halt.TheVariants as halt
use Rattle.cob_interp.specs.Setting.{program_of, paths_of, StartsAt}
use Rattle.cob_interp.specs.Touching.{makes_by, makes_none, Loses, Touches}
use Rattle.cob_interp.specs.Reached.{up_to, last_of}
use Rattle.cob_interp.specs.Readying.{IsFirst, IsRefusal, Sees, AreEmptied}
use Rattle.cob_interp.specs.Tracking.{Ids, IsHeldFor, purposes_for, purposes_of}
use Rattle.cob_interp.specs.Meeting.{is_failure, IfFailed, IsFailureBy, IsMetBy, shows_first, ShowsRest}
use Rattle.cob_interp.specs.Runs.{Outside, outside, IfTold, CountsOn, EndsRun, EndsWell, HasEnded, IsOpenAt, ByClose, NoClose, IsBrokenBy, IsBroken, IsBrokenBefore, IfRefused, EndsBy, Runs, RunsBefore, TellsOfSink}
use Rattle.cob_interp.specs.Running.{IsWell, Stands, RestsIn, Rests, Halts, Arrives, IsAt, GoesOn, HaltsOff}
use Rattle.cob_interp.specs.Walking.{by_sink, as_result, is_sink_fault, IsSinkRefusal, TellsBySink, Flushes, MayFlush, Refuses, is_refused, IsOwnEnd}
use Rattle.cob_interp.proofs.Passing.{append_none, rests_on}
use Rattle.cob_interp.proofs.Onward.{ends_well, spends}
use Rattle.cob_interp.proofs.CloseLemmas.{rose_on}
use Rattle.cob_interp.proofs.Touched.{touches_stay}
use Rattle.cob_interp.proofs.Breaking.{told_on, ShowsWaiting, MeetsBehind, broken_here, rests_break}
use Rattle.cob_interp.proofs.Failing.{failed_any}
use Rattle.cob_interp.proofs.HandleLemmas.{first_map}
use Rattle.cob_interp.proofs.Purposes.{file_held}
use Rattle.cob_interp.proofs.Flushing.{stands_shown, rests_flushed}
use Rattle.cob_interp.proofs.Putting.{contents_told, emptied_up_to}
use Rattle.cob_interp.proofs.Emptying.{rests_sees}

abbrev refusal : RunEnd → Result Ended RunEnd
refusal e = Err e

module _ (p : Program) (g : Graph) (paths : List (List ℕ)) (budget : ℕ) where
  -- ---- refusals

  if_refused : (r : Result Ended RunEnd) (P : Type 0) → P → IfRefused r P
  if_refused (Ok e) P x = tt
  if_refused (Err end.ReadFault) P x = x
  if_refused (Err end.WriteFault) P x = x
  if_refused (Err end.Memory) P x = x
  if_refused (Err (end.Ragged file count)) P x = tt
  if_refused (Err (end.StepsSpent count)) P x = tt
  if_refused (Err (end.IoStop status statement)) P x = tt
  if_refused (Err (end.Fault kind statement step)) P x = tt

  module _ (own : Outside → Outside → Result Ended RunEnd → Type 0) (start : Outside) where
    -- the sink refuses text
    sink_ends : (mid now : Outside) (text : List ℕ) (e : MakeEnd) → IsWell start mid text
        → IsSinkRefusal mid.sink now.sink e
        → EndsBy own start now (Err (by_sink e))
    sink_ends mid now text make.Failed well why =
        inr (rose_on start.sink.faults mid.sink.faults now.sink.faults well.faults why)
    sink_ends mid now text make.Memory well why = tt

    -- a file is refused
    file_ends : (old new : FilesState) (sink : SinkState) (text : List ℕ) (e : RunEnd)
        → IsWell start (outside old sink) text
        → IsRefusal old new e → EndsBy own start (outside new sink) (Err e)
    file_ends old new sink text end.ReadFault well r =
        rose_on start.files.reading old.reading new.reading well.reading r
    file_ends old new sink text end.WriteFault well r =
        inl (rose_on start.files.writing old.writing new.writing well.writing r)
    file_ends old new sink text end.Memory well r = tt
    file_ends old new sink text (end.Ragged file count) well r = absurd r
    file_ends old new sink text (end.StepsSpent count) well r = absurd r
    file_ends old new sink text (end.IoStop status statement) well r = absurd r
    file_ends old new sink text (end.Fault kind statement step) well r = absurd r

  -- the run's own end isn't refused
  own_part : (r : Result Ended RunEnd) (P : Type 0) → IsOwnEnd r → IfRefused r P
  own_part (Ok e) P own = tt
  own_part (Err end.ReadFault) P own = cc
  own_part (Err end.WriteFault) P own = cc
  own_part (Err end.Memory) P own = cc
  own_part (Err (end.Ragged file count)) P own = tt
  own_part (Err (end.StepsSpent count)) P own = tt
  own_part (Err (end.IoStop status statement)) P own = tt
  own_part (Err (end.Fault kind statement step)) P own = tt

  module _ (start : Outside) (mid now : Outside) (text : List ℕ) where
    -- why only a front is shown
    sink_why : (e : MakeEnd) → IsWell start mid text → IsSinkRefusal mid.sink now.sink e
        → (refusal (by_sink e) ≡ refusal end.Memory) ⊎ Rose start.sink.faults now.sink.faults
    sink_why make.Failed well why = inr (rose_on start.sink.faults mid.sink.faults now.sink.faults well.faults why)
    sink_why make.Memory well why = inl refl

    sink_meets : (e : MakeEnd) (Q : Type 0) → IsWell start mid text → IsSinkRefusal mid.sink now.sink e
        → IfFailed {A = Ended} (Err (by_sink e)) (Rose start.sink.faults now.sink.faults ⊎ Q)
    sink_meets make.Failed Q well why = inl (rose_on start.sink.faults mid.sink.faults now.sink.faults well.faults why)
    sink_meets make.Memory Q well why = tt

  -- ---- a step

  module _ (start : Outside) (steps node : ℕ) (x : Node) (a : Act) (within : steps ≤ budget)
      (at : node_at g.nodes node ≡ Some x)
      (starts : x.starts ≡ true) (its : act_at p x.statement ≡ Some a) where
    refused_before : (files : FilesState) (old new : SinkState) (w v : World) (step : ℕ) (e : MakeEnd)
        → Refuses old new w v e
        → IsAt p g paths budget start (outside files old) w steps node
        → GoesOn p g paths budget start (outside files new) v step (Err (by_sink e))
    refused_before files old new w v step e refuses here = (
      sink_ends (λ old_ new_ r. Rests p g paths budget old_ new_ v r) start (outside files old)
          (outside files new) here.stands.text e
          here.stands.well refuses.why,
      if_refused (Err (by_sink e)) (IsBrokenBefore p paths budget start (outside files new) (Err (by_sink e)))
          (broken_here p g paths budget start (outside files old)
          (outside files new) w steps node x a (Err (by_sink e)) 0 within at starts its
          (touches_stay paths (makes_by (up_to 0 a)) w files)
          (inr (
            sink_why start (outside files old) (outside files new) here.stands.text e here.stands.well refuses.why,
            refuses.front,
          ))
          (sink_meets start (outside files old) (outside files new) here.stands.text e
          (IsMetBy {A = Ended} (last_of 0 a) (Err (by_sink e))) here.stands.well refuses.why)
          here.stands),
    )

    goes_by : (old new : FilesState) (sink : SinkState) (w v : World) (step next reached : ℕ)
        → Touches paths (makes_by (up_to reached a)) w old new
        → Stands p g paths start (outside old sink) w steps steps node
        → Arrives p g paths budget start (outside new sink) v step (Ok next)
        → GoesOn p g paths budget start (outside new sink) v step (Ok next)
    goes_by old new sink w v step next reached touches stands arrives = record {
      stands = arrives;
      part = broken_here p g paths budget start (outside old sink)
          (outside new sink) w steps node x a (Err end.Memory) reached within at starts its touches
          (inr (inl refl, (0, append_none sink.told))) tt stands;
    }

    -- ---- a refusal of the statement, and the text that waits

    -- The statement was refused behind a world with this text that waits, and this much of it was shown then.
    refused_with : (old new : FilesState) (mid now : SinkState) (w v : World) (step : ℕ) (e : RunEnd) (reached : ℕ)
        → Touches paths (makes_by (up_to reached a)) w old new → IsMetBy {A = Ended} (last_of reached a) (Err e)
        → (is_failure e ≡ true → now.told ≡ append_known mid.told w.shown)
        → (is_failure e ≡ false → now.told ≡ mid.told)
        → Stands p g paths start (outside old mid) w steps steps node
        → Halts p g paths budget start (outside new now) v (Err e)
        → GoesOn p g paths budget start (outside new now) v step (Err e)
    refused_with old new mid now w v step e reached touches met all same stands halts = (halts, part e met all same) where
      broken : (r : Result Ended RunEnd) → ShowsWaiting start.sink mid now w.shown r
          → IfFailed r (Rose start.sink.faults now.faults ⊎ IsMetBy (last_of reached a) r)
          → IsBrokenBefore p paths budget start (outside new now) r
      broken r shows meets =
          broken_here p g paths budget start (outside old mid) (outside new now) w steps node x a r reached within at starts its
          touches shows meets stands

      part : (d : RunEnd) → IsMetBy {A = Ended} (last_of reached a) (Err d)
          → (is_failure d ≡ true → now.told ≡ append_known mid.told w.shown)
          → (is_failure d ≡ false → now.told ≡ mid.told)
          → IfRefused (Err d) (IsBrokenBefore p paths budget start (outside new now) (Err d))
      part end.ReadFault by all_ same_ = broken (Err end.ReadFault) (inl (all_ refl)) (inr by)
      part end.WriteFault by all_ same_ = broken (Err end.WriteFault) (inl (all_ refl)) (inr by)
      part end.Memory by all_ same_ =
          broken (Err end.Memory) (inr (inl refl, (0, same_ refl ∙ append_none mid.told))) tt
      part (end.Ragged file count) by all_ same_ = tt
      part (end.StepsSpent count) by all_ same_ = tt
      part (end.IoStop status statement) by all_ same_ = tt
      part (end.Fault kind statement step_) by all_ same_ = tt

    -- what is told of the files stays where more text is shown
    halts_shown : (new : FilesState) (mid now : SinkState) (u v : World) (e : RunEnd) → is_failure e ≡ true
        → now.faults ≡ mid.faults → Halts p g paths budget start (outside new mid) u (Err e)
        → Halts p g paths budget start (outside new now) v (Err e)
    halts_shown new mid now u v end.ReadFault fails same h = h
    halts_shown new mid now u v end.WriteFault fails same (inl rose) = inl rose
    halts_shown new mid now u v end.WriteFault fails same (inr rose) =
        inr (subst (λ (n : ℕ). Rose start.sink.faults n) (sym same) rose)
    halts_shown new mid now u v end.Memory fails same h = cc
    halts_shown new mid now u v (end.Ragged file count) fails same h = cc
    halts_shown new mid now u v (end.StepsSpent count) fails same h = cc
    halts_shown new mid now u v (end.IoStop status statement) fails same h = cc
    halts_shown new mid now u v (end.Fault kind statement step) fails same h = cc

    failed : (e : RunEnd) (P : Type 0) → is_failure e ≡ true → IfFailed {A = ℕ} (Err e) P → P
    failed end.ReadFault P fails h = h
    failed end.WriteFault P fails h = h
    failed end.Memory P fails h = cc
    failed (end.Ragged file count) P fails h = cc
    failed (end.StepsSpent count) P fails h = cc
    failed (end.IoStop status statement) P fails h = cc
    failed (end.Fault kind statement step) P fails h = cc

    module _ (old new : FilesState) (mid now : SinkState) (w u v : World) (step : ℕ) (e : RunEnd) (reached : ℕ)
        (touches : Touches paths (makes_by (up_to reached a)) w old new) (met : IsMetBy {A = ℕ} (last_of reached a) (Err e))
        (first : shows_first a ≡ true → w.shown ≡ [])
        (still : shows_first a ≡ false → IfFailed {A = ℕ} (Err e) (u.shown ≡ w.shown))
        (stands : Stands p g paths start (outside old mid) w steps steps node)
        (arrives : Arrives p g paths budget start (outside new mid) u step (Err e)) where
      -- nothing more is shown
      silent : (shows_first a ≡ true) ⊎ (is_failure e ≡ false)
          → GoesOn p g paths budget start (outside new mid) u step (Err e)
      silent why =
          refused_with old new mid mid w u step e reached touches met
          (λ fails. elim why [
            | inl all ↦ append_none mid.told ∙ ap (append_known mid.told) (sym (first all))
            | inr not_ ↦ absurd (true≢false (sym fails ∙ not_))
          ])
          (λ _. refl) stands arrives

      same_text : shows_first a ≡ false → is_failure e ≡ true → u.shown ≡ w.shown
      same_text waits fails = failed e (u.shown ≡ w.shown) fails (still waits)

      -- all that waits is
      shown_all : Flushes mid now u v → shows_first a ≡ false → is_failure e ≡ true
          → GoesOn p g paths budget start (outside new now) v step (Err e)
      shown_all flushes waits fails =
          refused_with old new mid now w v step e reached touches met
          (λ _. flushes.gains.told ∙ ap (append_known mid.told) (same_text waits fails))
          (λ not_. absurd (true≢false (sym fails ∙ not_)))
          stands (halts_shown new mid now u v e fails flushes.gains.faults arrives)

      -- the sink refuses it
      shown_front : (why : MakeEnd) → Refuses mid now u v why → shows_first a ≡ false → is_failure e ≡ true
          → GoesOn p g paths budget start (outside new now) v step (Err (by_sink why))
      shown_front why refuses waits fails = (
        sink_ends (λ old_ new_ r. Rests p g paths budget old_ new_ v r) start (outside old mid)
            (outside new now) stands.text why stands.well refuses.why,
        if_refused (Err (by_sink why)) (IsBrokenBefore p paths budget start (outside new now) (Err (by_sink why)))
            (broken_here p g paths budget start (outside old mid) (outside new now) w steps node x a
            (Err (by_sink why)) reached within at starts its touches
            (inr (
              sink_why start (outside old mid) (outside new now) stands.text why stands.well refuses.why,
              (
                refuses.front.0,
                refuses.front.1
                    ∙ ap (λ (t : List ℕ). append_known mid.told (take refuses.front.0 t)) (same_text waits fails),
              ),
            ))
            (sink_meets start (outside old mid) (outside new now) stands.text why
            (IsMetBy {A = Ended} (last_of reached a) (Err (by_sink why))) stands.well refuses.why)
            stands),
      )

      refused_by : (h : Halt) → ShowsRest a mid now u v e h
          → GoesOn p g paths budget start (outside new now) v step (as_result (Err h))
      refused_by (halt.End d) (is, inl (sink, world, why)) =
          subst (λ (f : RunEnd). GoesOn p g paths budget start (outside new now) v step (Err f)) (sym is)
          (subst (λ (s : SinkState). GoesOn p g paths budget start (outside new s) v step (Err e)) (sym sink)
          (subst (λ (z : World). GoesOn p g paths budget start (outside new mid) z step (Err e)) (sym world)
          (silent why)))
      refused_by (halt.End d) (is, inr (flushes, waits, fails)) =
          subst (λ (f : RunEnd). GoesOn p g paths budget start (outside new now) v step (Err f)) (sym is)
          (shown_all flushes waits fails)
      refused_by (halt.Sink why) (refuses, waits, fails) = shown_front why refuses waits fails

  pub halts_off : (start now : Outside) (w : World) (step : ℕ) (e : Halt) → GoesOn p g paths budget start now w step
      (as_result {A = ℕ} (Err e))
      → HaltsOff p g paths budget start now w (as_result {A = Ended} (Err e))
  halts_off start now w step (halt.End e) goes = record { halts = goes.0; part = goes.1 }
  halts_off start now w step (halt.Sink e) goes = record { halts = goes.0; part = goes.1 }

  -- ---- at a node at which a step begins, and at the last one

  module _ (start now : Outside) (w : World) (steps node : ℕ)
      (here : IsAt p g paths budget start now w steps node) where
    pub ends_here : node ≡ final_in g → steps ≤ budget → (e : Ended) → e.steps ≡ steps
        → HaltsOff p g paths budget start now w (Ok e)
    ends_here last within e counted = record {
      halts = rests_on p g paths budget start now w w steps steps node (Ok e)
          (λ first told text st. ends_well p g paths first told text w steps node st budget last within e counted)
          here.stands;
      part = tt;
    }

    pub spends_here : (x : Node) → node_at g.nodes node ≡ Some x → x.starts ≡ true → steps ≡ budget
        → HaltsOff p g paths budget start now w (Err (end.StepsSpent budget))
    spends_here x at starts spent = record {
      halts = rests_on p g paths budget start now w w steps steps node (Err (end.StepsSpent budget))
          (λ first told text st. spends p g paths first told text w steps node st budget x at starts spent) here.stands;
      part = tt;
    }

    pub memory_here : HaltsOff p g paths budget start now w (Err end.Memory)
    memory_here = record { halts = tt; part = here.part }

  -- ---- behind the run

  own_rests : (start now : Outside) (w : World) (r : Result Ended RunEnd) → IsOwnEnd r
      → Halts p g paths budget start now w r
      → Rests p g paths budget start now w r
  own_rests start now w (Ok e) own h = h
  own_rests start now w (Err end.ReadFault) own h = cc
  own_rests start now w (Err end.WriteFault) own h = cc
  own_rests start now w (Err end.Memory) own h = cc
  own_rests start now w (Err (end.Ragged file count)) own h = h
  own_rests start now w (Err (end.StepsSpent count)) own h = h
  own_rests start now w (Err (end.IoStop status statement)) own h = h
  own_rests start now w (Err (end.Fault kind statement step)) own h = h

  own_ends : (start now : Outside) (r : Result Ended RunEnd) → IsOwnEnd r → EndsWell p paths budget start now r
      → EndsBy (EndsWell p paths budget) start now r
  own_ends start now (Ok e) own h = h
  own_ends start now (Err end.ReadFault) own h = cc
  own_ends start now (Err end.WriteFault) own h = cc
  own_ends start now (Err end.Memory) own h = cc
  own_ends start now (Err (end.Ragged file count)) own h = h
  own_ends start now (Err (end.StepsSpent count)) own h = h
  own_ends start now (Err (end.IoStop status statement)) own h = h
  own_ends start now (Err (end.Fault kind statement step)) own h = h

  counts_same : (r : Result Ended RunEnd) (old new : ℕ) → new ≡ old → CountsOn r old new
  counts_same (Ok e) old new same = same
  counts_same (Err e) old new same = omega (arith, same)

  -- nothing waits
  rests_put : (start : Outside) (files : FilesState) (sink : SinkState) (w : World) (r : Result Ended RunEnd)
      → w.shown ≡ [] → AreEmptied w.files (length paths) → Rests p g paths budget start (outside files sink) w r
      → EndsWell p paths budget start (outside files sink) r
  rests_put start files sink w r silent none s = record {
    reading = counts_same r start.files.reading files.reading s.well.reading;
    writing = counts_same r start.files.writing files.writing s.well.writing;
    faults = s.well.faults;
    run = told_on (λ first told. RestsIn p g paths budget first told s.text w r)
        (λ first told. EndsRun p paths budget first told start.sink sink r)
        (known_bytes start.files) (known_bytes files) (known_bytes files) s.told
        (λ first told e st.
        subst (λ (c : Option Contents). IfTold (λ f n. EndsRun p paths budget f n start.sink sink r) (Some first) c)
        (sym e)
        (record {
          steps = st.steps;
          answer = st.answer;
          holds = record {
            its = contents_told told paths w.files st.synced none
                ∙ ap (λ (fs : List File). map (λ f. f.content) fs) (sym st.files);
            others = st.others;
          };
          shows = s.well.gained
              ∙ ap (append_known start.sink.told)
              (sym (st.shown ∙ ap (λ (t : List ℕ). s.text ++ t) silent ∙ append-nil s.text));
        }));
  }

  module _ (start : Outside) (files : FilesState) (old new : SinkState) (w v : World) (r : Result Ended RunEnd)
      (own : IsOwnEnd r)
      (off : HaltsOff p g paths budget start (outside files old) w r) where
    rests : Rests p g paths budget start (outside files old) w r
    rests = own_rests start (outside files old) w r own off.halts

    -- the sink refuses the text that waits
    pub text_refused : (e : MakeEnd) → Refuses old new w v e → RunsBefore p paths budget start (outside files new)
        (Err (by_sink e))
    text_refused e refuses = record {
      ends = sink_ends (EndsWell p paths budget) start (outside files old)
          (outside files new) rests.text e rests.well refuses.why;
      part = if_refused (Err (by_sink e)) (IsBrokenBefore p paths budget start (outside files new) (Err (by_sink e)))
          (rests_break p g paths budget NoClose start (outside files old) (outside files new) w r (Err (by_sink e))
          (touches_stay paths makes_none w files)
          (inr (
            sink_why start (outside files old) (outside files new) rests.text e rests.well refuses.why,
            refuses.front,
          ))
          (sink_meets start (outside files old) (outside files new) rests.text e
          (((fs : List File) → purposes_of fs ≡ purposes_of w.files → NoClose r fs)
          ⊎ ((refusal (by_sink e) ≡ refusal end.WriteFault) × Loses paths w files files))
          rests.well refuses.why)
          rests);
    }

    module _ (flushes : Flushes old new w v) (behind : FilesState)
        (touches : Touches paths makes_none v files behind) where
      shown : Rests p g paths budget start (outside files new) v r
      shown = subst (λ (u : World). Rests p g paths budget start (outside files new) u r) (sym flushes.world)
          (rests_flushed p g paths start files old new w budget r flushes.gains rests)

      breaks : (Closes : Result Ended RunEnd → List File → Type 0) (now : FilesState)
          → known_bytes now ≡ known_bytes behind → (q : Result Ended RunEnd)
          → IfFailed q (MeetsBehind p g paths budget Closes start (outside files new) (outside now new) v r q)
          → IsBrokenBy p paths budget Closes start (outside now new) q
      breaks Closes now same q meets =
          rests_break p g paths budget Closes start (outside files new) (outside now new) v r q
          (record {
            known = λ told e.
                let k = touches.known told e in record { now = k.now; is = same ∙ k.is; touches = k.touches };
          })
          (inl (append_none new.told ∙ ap (λ (u : World). append_known new.told u.shown) (sym flushes.world))) meets shown

      -- behind a good end a close is refused
      pub broken : (ids : Ids) → IfOk r (λ _. purposes_for ids ≡ purposes_of w.files) → HasEnded r
          → (e : RunEnd) (now : FilesState) → known_bytes now ≡ known_bytes behind
          → IsFirst (λ place writes. IsHeldFor ids place writes) start.files now e
          → IsBroken p paths budget start (outside now new) (Err e)
      broken ids placed good e now same first =
          let own : purposes_for ids ≡ purposes_of w.files =
          subst (λ (q : Result Ended RunEnd). IfOk q (λ _. purposes_for ids ≡ purposes_of w.files)) good.1 placed in
          let own_ : purposes_of w.files ≡ purposes_of v.files = ap (λ (u : World). purposes_of u.files) (sym flushes.world) in
          breaks (ByClose start.files now (Err e)) now same (Err e)
          (failed_any (refusal e)
          (MeetsBehind p g paths budget (ByClose start.files now (Err e)) start (outside files new) (outside now new) v r
          (Err e))
          (inr (inl (λ fs is. (
            good,
            first_map (λ place writes. IsHeldFor ids place writes) (IsOpenAt fs)
                (file_held ids fs (own ∙ own_ ∙ sym is)) start.files now e first,
          )))))

      lost : (e : RunEnd) → IsFailureBy true e → Loses paths v files behind
          → IfFailed (refusal e)
          (MeetsBehind p g paths budget NoClose start (outside files new) (outside behind new) v r (Err e))
      lost end.ReadFault by loses = absurd (true≢false by)
      lost end.WriteFault by loses = inr (inr (refl, loses))
      lost end.Memory by loses = tt
      lost (end.Ragged file count) by loses = tt
      lost (end.StepsSpent count) by loses = tt
      lost (end.IoStop status statement) by loses = tt
      lost (end.Fault kind statement step) by loses = tt

      -- a file is refused
      pub file_refused : (e : RunEnd) → IsRefusal files behind e → IsFailureBy true e → Loses paths v files behind
          → RunsBefore p paths budget start (outside behind new) (Err e)
      file_refused e why by loses = record {
        ends = file_ends (EndsWell p paths budget) start files behind new shown.text e shown.well why;
        part = if_refused (Err e) (IsBrokenBefore p paths budget start (outside behind new) (Err e))
            (breaks NoClose behind refl (Err e) (lost e by loses));
      }

      pub finished : (u : World) (count : ℕ) → length paths ≤ count → Sees paths files behind v u
          → AreEmptied u.files count → Runs p paths budget start (outside behind new) r
      finished u count all sees none = record {
        ends = own_ends start (outside behind new) r own
            (rests_put start behind new u r
            (ap (λ (x : World). x.shown) sees.world ∙ ap (λ (x : World). x.shown) flushes.world)
            (emptied_up_to u.files (length paths) count all none)
            (rests_sees p g paths start new files behind v u sees budget r shown));
        part = own_part r (IsBroken p paths budget start (outside behind new) r) own;
      }

  -- it halted by a refusal
  pub refused_runs : (start now : Outside) (w : World) (e : RunEnd) → is_refused e ≡ true
      → HaltsOff p g paths budget start now w (Err e)
      → RunsBefore p paths budget start now (Err e)
  refused_runs start now w end.ReadFault is off = record { ends = off.halts; part = off.part }
  refused_runs start now w end.WriteFault is off = record { ends = off.halts; part = off.part }
  refused_runs start now w end.Memory is off = record { ends = off.halts; part = off.part }
  refused_runs start now w (end.Ragged file count) is off = cc
  refused_runs start now w (end.StepsSpent count) is off = cc
  refused_runs start now w (end.IoStop status statement) is off = cc
  refused_runs start now w (end.Fault kind statement step) is off = cc

sink_is_refused : (e : MakeEnd) → is_refused (by_sink e) ≡ true
sink_is_refused make.Failed = refl
sink_is_refused make.Memory = refl

pub sink_runs : (p : Program) (g : Graph) (paths : List (List ℕ)) (budget : ℕ) (start now : Outside) (w : World)
    (e : MakeEnd)
    → HaltsOff p g paths budget start now w (Err (by_sink e)) → RunsBefore p paths budget start now (Err (by_sink e))
sink_runs p g paths budget start now w e off = refused_runs p g paths budget start now w (by_sink e) (sink_is_refused e) off

-- ---- a step of a setting

module _ (s : Setting) (budget steps node : ℕ) (x : Standing) (starts : StartsAt s node x) (within : steps < budget)
    (start : Outside)
    (files : FilesState) (old new : SinkState) (w v : World)
    (here : IsAt (program_of s) s.graph.now (paths_of s) budget start (outside files old) w steps node) where
  its_act : act_at (program_of s) starts.is.plan_node.node.statement ≡ Some (plain_act x.statement.now.act.now)
  its_act = subst (λ (n : ℕ). act_at (program_of s) n ≡ Some (plain_act x.statement.now.act.now))
      (starts.is.number ∙ starts.is.plan_node.statement) starts.is.statement.its

  its_start : starts.is.plan_node.node.starts ≡ true
  its_start = sym starts.is.plan_node.starts ∙ starts.starts

  pub flush_refused : (step : ℕ) (e : MakeEnd) → Refuses old new w v e
      → GoesOn (program_of s) s.graph.now (paths_of s) budget start (outside files new) v step (Err (by_sink e))
  flush_refused step e refuses =
      refused_before (program_of s) s.graph.now (paths_of s) budget start steps node starts.is.plan_node.node
      (plain_act x.statement.now.act.now)
      (omega (arith, within)) starts.is.plan_node.stands its_start its_act files old new w v step e refuses here

  module _ (may : MayFlush old new w v) (behind : FilesState) (u : World) (step reached : ℕ)
      (touches : Touches (paths_of s) (makes_by (up_to reached (plain_act x.statement.now.act.now))) v files behind) where
    stands : Stands (program_of s) s.graph.now (paths_of s) start (outside files new) v steps steps node
    stands = stands_shown (program_of s) s.graph.now
        (paths_of s) start files old new w v steps steps node may here.stands

    pub step_taken : (next : ℕ)
        → (Stands (program_of s) s.graph.now (paths_of s) start (outside files new) v steps steps node
        → Arrives (program_of s) s.graph.now (paths_of s) budget start (outside behind new) u step (Ok next))
        → GoesOn (program_of s) s.graph.now (paths_of s) budget start (outside behind new) u step (Ok next)
    step_taken next takes =
        goes_by (program_of s) s.graph.now (paths_of s) budget start steps node starts.is.plan_node.node
        (plain_act x.statement.now.act.now)
        (omega (arith, within)) starts.is.plan_node.stands its_start its_act files behind new v u step next reached touches
        stands (takes stands)

    pub step_refused : (now : SinkState) (z : World) (e : RunEnd) (h : Halt)
        → IsMetBy {A = ℕ} (last_of reached (plain_act x.statement.now.act.now)) (Err e)
        → (shows_first (plain_act x.statement.now.act.now) ≡ true → v.shown ≡ [])
        → (shows_first (plain_act x.statement.now.act.now) ≡ false → IfFailed {A = ℕ} (Err e) (u.shown ≡ v.shown))
        → ShowsRest (plain_act x.statement.now.act.now) new now u z e h
        → (Stands (program_of s) s.graph.now (paths_of s) start (outside files new) v steps steps node
        → Arrives (program_of s) s.graph.now (paths_of s) budget start (outside behind new) u step (Err e))
        → GoesOn (program_of s) s.graph.now (paths_of s) budget start (outside behind now) z step (as_result (Err h))
    step_refused now z e h met first still rest takes =
        refused_by (program_of s) s.graph.now (paths_of s) budget start steps node starts.is.plan_node.node
        (plain_act x.statement.now.act.now)
        (omega (arith, within)) starts.is.plan_node.stands its_start its_act files behind new now v u z step e reached touches
        met first still stands (takes stands) h rest

-- the budget is spent
pub budget_spent : (s : Setting) (budget node : ℕ) (x : Standing) → StartsAt s node x → (start now : Outside) (w : World)
    → IsAt (program_of s) s.graph.now (paths_of s) budget start now w budget node
    → HaltsOff (program_of s) s.graph.now (paths_of s) budget start now w (Err (end.StepsSpent budget))
budget_spent s budget node x starts start now w here =
    spends_here (program_of s) s.graph.now
    (paths_of s) budget start now w budget node here starts.is.plan_node.node starts.is.plan_node.stands
    (sym starts.is.plan_node.starts ∙ starts.starts) refl

pub paths_count : (s : Setting) → length (paths_of s) ≤ length s.paths.now
paths_count s = let e = length-map s.paths.now string_bytes in omega (arith, e)

-- ---- the sink

pub tells_on : (old mid new : SinkState) (e : Halt) → mid.faults ≡ old.faults → TellsBySink {A = ℕ} mid new (Err e)
    → TellsBySink {A = Ended} old new (Err e)
tells_on old mid new (halt.End e) same tells = tells ∙ same
tells_on old mid new (halt.Sink make.Failed) same tells = rose_on old.faults mid.faults new.faults same tells
tells_on old mid new (halt.Sink make.Memory) same tells = tells ∙ same

-- behind a refused statement
pub tells_rest : (a : Act) (old mid new : SinkState) (w v : World) (e : RunEnd) (h : Halt) → mid.faults ≡ old.faults
    → ShowsRest a mid new w v e h → TellsBySink {A = ℕ} old new (Err h)
tells_rest a old mid new w v e (halt.End d) same (is, inl (sink, world, why)) =
    ap (λ (s : SinkState). s.faults) sink ∙ same
tells_rest a old mid new w v e (halt.End d) same (is, inr (flushes, waits, fails)) = flushes.gains.faults ∙ same
tells_rest a old mid new w v e (halt.Sink make.Failed) same (refuses, waits, fails) =
    rose_on old.faults mid.faults new.faults same refuses.why
tells_rest a old mid new w v e (halt.Sink make.Memory) same (refuses, waits, fails) = refuses.why ∙ same

module _ (old new : SinkState) (e : Ending) where
  pub tells_refused : (why : MakeEnd) → e.end ≡ Err (by_sink why) → e.sink_refused ≡ is_sink_fault why
      → IsSinkRefusal old new why → TellsOfSink old new e
  tells_refused make.Failed is fault rose = record { kept = λ not. absurd cc; refused = λ _. (is, rose) }
  tells_refused make.Memory is not same = record { kept = λ _. same; refused = λ fault. absurd cc }

  pub tells_kept : e.sink_refused ≡ false → new.faults ≡ old.faults → TellsOfSink old new e
  tells_kept not same = record { kept = λ _. same; refused = λ refused. absurd cc }

  pub tells_from : (mid : SinkState) → mid.faults ≡ old.faults → TellsOfSink mid new e → TellsOfSink old new e
  tells_from mid same tells = record {
    kept = λ not. tells.kept not ∙ same;
    refused = λ refused.
        let both = tells.refused refused in
        (both.0, rose_on old.faults mid.faults new.faults same both.1);
  }
