-- Text that waits is shown.
use Rattle.std.proofs.Common.{◌≡◌, ℕ, List, [], ◌++◌, inl, inr, Option, Some, Result, Ok, Err, refl, sym, ap, subst, ◌∙◌, append-nil}
use Rattle.std.specs.Prelude.{IfOk, MatchResult}
use Rattle.batch_io.specs.FilesState.{Contents, FilesState, known_bytes}
use Rattle.batch_io.specs.SinkState.{SinkState}
use Rattle.batch_io.specs.Wholes.{ShowsWhole}
use Rattle.batch_io.specs.declared.ends.MakeEnd.{MakeEnd}
use Rattle.batch_io.specs.declared.ends.MakeEnd.TheVariants as make
use Rattle.cob_program.specs.Act.{Program}
use Rattle.cob_runs.specs.State.{World}
use Rattle.cob_world.specs.Becoming.{without_shown}
use Rattle.cob_graph.specs.declared.graph.Graph.{Graph}
use Rattle.cob_graph_laws.specs.Told.{Way}
use Rattle.cob_interp.specs.declared.ends.Ended.{Ended}
use Rattle.cob_interp.specs.declared.ends.RunEnd.{RunEnd}
use Rattle.cob_interp.specs.Ends.{told_files}
use Rattle.cob_interp.specs.Told.{seen, seen_files}
use Rattle.cob_interp.specs.Runs.{Outside, outside, IfTold}
use Rattle.cob_interp.specs.Running.{IsWell, StandsIf, Stands, RestsIn, Rests}
use Rattle.cob_interp.specs.Walking.{IsSinkRefusal, Gains, Flushes, MayFlush, Refuses}
use Rattle.cob_interp.proofs.Passing.{well_passes, stands_behind}
use Rattle.cob_interp.proofs.Breaking.{told_on}

-- ---- what the sink does

pub flushes : (old new : SinkState) (w : World) → ShowsWhole old new w.shown (Ok tt)
    → Flushes old new w (without_shown w)
flushes old new w s = record { gains = record { faults = s.faults.kept refl; told = s.ok }; world = refl }

refused_why : (old new : SinkState) (text : List ℕ) (e : MakeEnd) → ShowsWhole old new text (Err e)
    → IsSinkRefusal old new e
refused_why old new text make.Failed s = s.faults.rose refl
refused_why old new text make.Memory s = s.faults.kept refl

pub refuses : (old new : SinkState) (w : World) (e : MakeEnd) → ShowsWhole old new w.shown (Err e)
    → Refuses old new w w e
refuses old new w e s = record {
  front = (s.err.0, s.err.2);
  why = refused_why old new w.shown e s;
  world = refl;
}

pub may_flush : (old new : SinkState) (w v : World) (r : Result (Unit {0}) MakeEnd)
    → MatchResult r (λ _. Flushes old new w v) (λ e. Refuses old new w v e)
    → MatchResult r (λ _. MayFlush old new w v) (λ e. Refuses old new w v e)
may_flush old new w v (Ok x) f = inl f
may_flush old new w v (Err e) f = f

pub none_waits : (old new : SinkState) (w v : World) (r : Result (Unit {0}) MakeEnd) (P : Type 0)
    → MatchResult r (λ _. Flushes old new w v) (λ e. Refuses old new w v e) → IfOk r (λ _. P → v.shown ≡ [])
none_waits old new w v (Ok x) P f = λ _. ap (λ (u : World). u.shown) f.world
none_waits old new w v (Err e) P f = tt

pub may_flush_faults : (old new : SinkState) (w v : World) → MayFlush old new w v → new.faults ≡ old.faults
may_flush_faults old new w v (inl f) = f.gains.faults
may_flush_faults old new w v (inr same) = ap (λ (s : SinkState). s.faults) same.0

-- ---- the run goes on standing

flushed_well : (files : FilesState) (old new : SinkState) (text : List ℕ) → Gains old new text
    → IsWell (outside files old) (outside files new) text
flushed_well files old new text gains =
    record { reading = refl; writing = refl; faults = gains.faults; gained = gains.told }

flushed_seen : (told : Contents) (paths : List (List ℕ)) (text : List ℕ) (w : World)
    → seen told paths text w ≡ seen told paths (text ++ w.shown) (without_shown w)
flushed_seen told paths text w =
    ap (λ (t : List ℕ). record {
      storage = w.storage;
      counts = w.counts;
      files = seen_files told paths w.files;
      shown = t;
    })
    (sym (append-nil (text ++ w.shown)))

module _ (p : Program) (g : Graph) (paths : List (List ℕ)) (start : Outside) (files : FilesState) (old new : SinkState)
    (w : World) where
  stands_flushed : (left begun node : ℕ) → Gains old new w.shown
      → Stands p g paths start (outside files old) w left begun node
      → Stands p g paths start (outside files new) (without_shown w) left begun node
  stands_flushed left begun node gains s =
      stands_behind p g paths start (outside files old) (outside files new) w
      (without_shown w) w.shown left begun node left begun node
      (flushed_well files old new w.shown gains)
      (λ first told text e st.
      subst (λ (c : Option Contents). StandsIf p g paths (Some first) c (text ++ w.shown)
      (without_shown w) left begun node) (sym e)
      (record {
        tells = st.tells;
        way = subst (λ (z : World). Way p g (told_files first paths) [] left node z)
            (flushed_seen told paths text w) st.way;
        synced = st.synced;
        others = st.others;
        free = st.free;
      }))
      s

  pub stands_shown : (v : World) (left begun node : ℕ) → MayFlush old new w v
      → Stands p g paths start (outside files old) w left begun node
      → Stands p g paths start (outside files new) v left begun node
  stands_shown v left begun node (inl f) s =
      subst (λ (u : World). Stands p g paths start (outside files new) u left begun node) (sym f.world)
      (stands_flushed left begun node f.gains s)
  stands_shown v left begun node (inr same) s =
      subst (λ (u : World). Stands p g paths start (outside files new) u left begun node) (sym same.1)
      (subst (λ (sink : SinkState). Stands p g paths start (outside files sink) w left begun node) (sym same.0) s)

  -- behind the run's own end
  pub rests_flushed : (budget : ℕ) (r : Result Ended RunEnd) → Gains old new w.shown
      → Rests p g paths budget start (outside files old) w r
      → Rests p g paths budget start (outside files new) (without_shown w) r
  rests_flushed budget r gains s = record {
    text = s.text ++ w.shown;
    well = well_passes start (outside files old) (outside files new) s.text w.shown s.well
        (flushed_well files old new w.shown gains);
    told = told_on (λ first told. RestsIn p g paths budget first told s.text w r)
        (λ first told. RestsIn p g paths budget first told (s.text ++ w.shown) (without_shown w) r)
        (known_bytes start.files) (known_bytes files) (known_bytes files) s.told
        (λ first told e st.
        subst (λ (c : Option Contents). IfTold
        (λ f n. RestsIn p g paths budget f n (s.text ++ w.shown) (without_shown w) r) (Some first) c) (sym e)
        (record {
          steps = st.steps;
          answer = st.answer;
          files = st.files;
          shown = st.shown ∙ sym (append-nil (s.text ++ w.shown));
          synced = st.synced;
          others = st.others;
        }));
  }
