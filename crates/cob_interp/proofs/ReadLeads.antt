-- What comes of a READ's first node.
use Rattle.std.proofs.Common.{◌≡◌, ℕ, ◌≤◌, true, false, List, Option, Some, None, Result, Ok, Err, sym, ap, subst, ◌∙◌}
use Rattle.std.specs.Prelude.{Contains}
use Rattle.batch_io.specs.FilesState.{Contents, FilesState, known_bytes}
use Rattle.batch_io.specs.SinkState.{SinkState}
use Rattle.cob_plan.specs.declared.node.Op.{Op}
use Rattle.cob_plan.specs.declared.node.Op.TheVariants as op
use Rattle.cob_plan.specs.declared.end.DoEnd.{DoEnd}
use Rattle.cob_plan.specs.declared.end.DoEnd.TheVariants as does
use Rattle.cob_plan.specs.Plan.{op_edges}
use Rattle.cob_plan.specs.Doing.{Does}
use Rattle.cob_program.specs.Act.{Phrase, Stmts, read, Program}
use Rattle.cob_program.specs.ActView.{plain_act}
use Rattle.cob_graph.specs.declared.graph.Graph.{Graph}
use Rattle.cob_runs.specs.declared.action.Action.{Action}
use Rattle.cob_runs.specs.State.{World}
use Rattle.cob_runs.specs.Acts.{take_one}
use Rattle.cob_runs.specs.Effects.{effect, status, is_handled, act_at}
use Rattle.cob_interp.specs.declared.ends.RunEnd.{RunEnd}
use Rattle.cob_interp.specs.declared.ends.RunEnd.TheVariants as end
use Rattle.cob_interp.specs.declared.setting.Setting.{Setting}
use Rattle.cob_interp.specs.declared.setting.Standing.{Standing}
use Rattle.cob_interp.specs.Told.{seen, AreSynced}
use Rattle.cob_interp.specs.Readying.{AreWell}
use Rattle.cob_interp.specs.Runs.{Outside, outside}
use Rattle.cob_interp.specs.Running.{IsUnderway, Stands, StandsIn, StandsIf, RestsIn, Arrives}
use Rattle.cob_interp.specs.Setting.{program_of, paths_of, IsPlace}
use Rattle.cob_interp.specs.Doing.{answered, DoesPart}
use Rattle.cob_interp.proofs.Passing.{stands_told, rests_told}
use Rattle.cob_interp.proofs.Onward.{goes_over, stopped_by}
use Rattle.cob_interp.proofs.ReadLemmas.{TakeFollows, EdgeReads, read_edge}

-- the outside moved on within a file, and tells what it told
pub stands_moved : (p : Program) (g : Graph) (paths : List (List ℕ)) (start : Outside) (sink : SinkState)
    (old new : FilesState) (w : World) (left begun node : ℕ) → AreWell old new → known_bytes new ≡ known_bytes old
    → Stands p g paths start (outside old sink) w left begun node
    → Stands p g paths start (outside new sink) w left begun node
stands_moved p g paths start sink old new w left begun node well same s = record {
  text = s.text;
  well = record {
    reading = well.reading ∙ s.well.reading;
    writing = well.writing ∙ s.well.writing;
    faults = s.well.faults;
    gained = s.well.gained;
  };
  told = subst (λ (c : Option Contents). StandsIf p g paths (known_bytes start.files) c s.text w left begun node)
      (sym same) s.told;
}

module _ (s : Setting) (budget : ℕ) (x : Standing) (step node : ℕ) (sink : SinkState) (old new : FilesState)
    (w given mid : World) (change : World → World) (is : IsPlace s node x) (found end_to bad f : ℕ) (into : Option ℕ)
    (end_ : Phrase) (fine : Stmts) (op_is : x.plan_node.now.op ≡ op.Read found end_to bad)
    (its : plain_act x.statement.now.act.now ≡ read f into end_ fine) (well : AreWell old new)
    (same : known_bytes new ≡ known_bytes old)
    (follows : (told : Contents) (text : List ℕ) → known_bytes old ≡ Some told → AreSynced told (paths_of s) w.files
    → TakeFollows told (paths_of s) text change (take_one (program_of s).layout None f given)
    (take_one (program_of s).layout None f (seen told (paths_of s) text w))) where
  own : x.statement.now.number ≡ is.plan_node.node.statement
  own = is.number ∙ is.plan_node.statement

  act_is : act_at (program_of s) is.plan_node.node.statement ≡ Some (read f into end_ fine)
  act_is = subst (λ (n : ℕ). act_at (program_of s) n ≡ Some (read f into end_ fine)) own (is.statement.its ∙ ap Some its)

  edge : (told : Contents) (text : List ℕ) → known_bytes new ≡ Some told → AreSynced told (paths_of s) w.files
      → (a : Action) (m : ℕ) → Contains (op_edges x.plan_node.now.op) (a, m)
      → EdgeReads (program_of s) is.plan_node.node.statement told (paths_of s) text given
      (seen told (paths_of s) text w) change a
  edge told text e synced a m out =
      read_edge (program_of s) is.plan_node.node.statement told (paths_of s) text given (seen told (paths_of s) text w)
      change f into end_ fine act_is (follows told text (sym same ∙ e) synced) a m found end_to bad
      (subst (λ (o : Op). Contains (op_edges o) (a, m)) op_is out)

  leads_by : (outcome : Result ℕ DoEnd) → Does (program_of s) x.statement.now.number x.plan_node.now.op given mid outcome
      → (start : Outside) → step ≤ budget
      → IsUnderway (program_of s) s.graph.now (paths_of s) start (outside old sink) w step node
      → Arrives (program_of s) s.graph.now (paths_of s) budget start (outside new sink) (change mid) step
      (answered x.statement.now.number step outcome)
  leads_by (Ok to) done start within u =
      stands_told (program_of s) s.graph.now (paths_of s) start (outside new sink) w (change mid) u.left step node step
      step to
      (λ first told text e st.
      let on = (edge told text e st.synced done.action to done.out).effect_ mid
      (subst (λ (n : ℕ). effect (program_of s) n None given done.action ≡ Ok (Some mid)) own done.does) in
      subst (λ (n : ℕ). StandsIn (program_of s) s.graph.now (paths_of s) first told text (change mid) n step to)
      (sym (u.counts is.plan_node.node is.plan_node.stands))
      (goes_over (program_of s) s.graph.now (paths_of s) first told told text w (change mid) u.left step step node to
      is.plan_node.node done.action st is.plan_node.stands (is.plan_node.edges done.action to done.out) on.0
      (subst (λ (n : ℕ). is_handled (program_of s) n done.action ≡ true) own done.goes_on) on.1 st.others st.free))
      (stands_moved (program_of s) s.graph.now (paths_of s) start sink old new w u.left step node well same u.stands)
  leads_by (Err (does.Fault kind)) done start within u =
      rests_told (program_of s) s.graph.now (paths_of s) budget start (outside new sink) w (change mid) u.left step node
      _
      (λ first told text e st.
      absurd ((edge told text e st.synced done.action done.to done.out).sound kind
      (subst (λ (n : ℕ). effect (program_of s) n None given done.action ≡ Err kind) own done.meets)))
      (stands_moved (program_of s) s.graph.now (paths_of s) start sink old new w u.left step node well same u.stands)
  leads_by (Err (does.Stop status_)) done start within u =
      rests_told (program_of s) s.graph.now (paths_of s) budget start (outside new sink) w (change mid) u.left step node
      _
      (λ first told text e st.
      let reads = edge told text e st.synced done.action done.to done.out in
      let on = reads.effect_ mid
      (subst (λ (n : ℕ). effect (program_of s) n None given done.action ≡ Ok (Some mid)) own done.does) in
      subst (λ (n : ℕ). RestsIn (program_of s) s.graph.now (paths_of s) budget first told text (change mid)
      (Err (end.IoStop status_ n))) (sym own)
      (stopped_by (program_of s) s.graph.now (paths_of s) first told told text w (change mid) u.left step node done.to
      is.plan_node.node done.action status_ step st is.plan_node.stands
      (u.counts is.plan_node.node is.plan_node.stands) (is.plan_node.edges done.action done.to done.out) on.0
      (reads.status_ ∙ subst (λ (n : ℕ). status (program_of s) n None given done.action ≡ Some status_) own done.gives)
      (subst (λ (n : ℕ). is_handled (program_of s) n done.action ≡ false) own done.stops) on.1
      st.others st.free budget within))
      (stands_moved (program_of s) s.graph.now (paths_of s) start sink old new w u.left step node well same u.stands)
  leads_by (Err does.Memory) done start within u = tt

  pub read_leads : (result : Result ℕ RunEnd) → DoesPart s x step given mid result
      → (start : Outside) → step ≤ budget
      → IsUnderway (program_of s) s.graph.now (paths_of s) start (outside old sink) w step node
      → Arrives (program_of s) s.graph.now (paths_of s) budget start (outside new sink) (change mid) step result
  read_leads result d start within u =
      subst (λ (r : Result ℕ RunEnd). Arrives (program_of s) s.graph.now (paths_of s) budget start (outside new sink)
      (change mid) step r) (sym d.told) (leads_by d.outcome d.does start within u)
