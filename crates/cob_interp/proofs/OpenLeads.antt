-- What comes of an OPEN.
use Rattle.std.proofs.Common.{◌≡◌, ℕ, true, false, List, [], Some, None, Result, Ok, Err, sym, ap, subst, ◌∙◌}
use Rattle.std.specs.Prelude.{Contains, slice_get}
use Rattle.batch_io.specs.FilesState.{Contents, FilesState, known_bytes}
use Rattle.batch_io.specs.SinkState.{SinkState}
use Rattle.cob_plan.specs.declared.node.Op.{Op}
use Rattle.cob_plan.specs.declared.node.Op.TheVariants as op
use Rattle.cob_plan.specs.declared.end.DoEnd.{DoEnd}
use Rattle.cob_plan.specs.declared.end.DoEnd.TheVariants as does
use Rattle.cob_plan.specs.Plan.{op_edges}
use Rattle.cob_plan.specs.Doing.{Does}
use Rattle.cob_program.specs.Act.{open_files}
use Rattle.cob_program.specs.ActView.{plain_act}
use Rattle.cob_runs.specs.declared.action.Action.{Action}
use Rattle.cob_runs.specs.State.{World}
use Rattle.cob_runs.specs.Effects.{effect, status, is_handled, act_at}
use Rattle.cob_interp.specs.declared.ends.RunEnd.{RunEnd}
use Rattle.cob_interp.specs.declared.ends.RunEnd.TheVariants as end
use Rattle.cob_interp.specs.declared.setting.Setting.{Setting}
use Rattle.cob_interp.specs.declared.setting.Standing.{Standing}
use Rattle.cob_interp.specs.Told.{AreDistinct, AgreeBut, IsReadyToOpen}
use Rattle.cob_interp.specs.Ends.{told_files}
use Rattle.cob_interp.specs.Tracking.{Ids}
use Rattle.cob_graph_laws.specs.Told.{Way}
use Rattle.cob_program.specs.declared.act.Opening.{Opening}
use Rattle.cob_interp.specs.Runs.{outside}
use Rattle.cob_interp.specs.Running.{StandsIn, RestsIn}
use Rattle.cob_interp.specs.Setting.{program_of, paths_of, IsPlace}
use Rattle.cob_interp.specs.Readying.{ReadyToOpen}
use Rattle.cob_interp.specs.Doing.{answered, Leads, DoesPart}
use Rattle.cob_interp.proofs.Calls.{open_one_follows}
use Rattle.cob_interp.proofs.Passing.{stands_readied, rests_readied}
use Rattle.cob_interp.proofs.Onward.{goes_where, goes_over, stopped_by}
use Rattle.cob_interp.proofs.CallsLead.{EdgeFollows, open_edge, others_keep}
use Rattle.cob_interp.proofs.CloseLemmas.{own_synced}

module _ (s : Setting) (budget : ℕ) (x : Standing) (step node : ℕ) (sink : SinkState) (old new : FilesState) (w u_ v : World)
    (apart : AreDistinct (paths_of s)) (is : IsPlace s node x) (k fine bad : ℕ) (o : Opening) (os : List Opening)
    (op_is : x.plan_node.now.op ≡ op.Open k fine bad) (its : plain_act x.statement.now.act.now ≡ open_files os)
    (at : slice_get os k ≡ Some o) (before after : Ids)
    (ready : ReadyToOpen s w u_ o old new before after) where
  own : x.statement.now.number ≡ is.plan_node.node.statement
  own = is.number ∙ is.plan_node.statement

  act_is : act_at (program_of s) is.plan_node.node.statement ≡ Some (open_files os)
  act_is = subst (λ (n : ℕ). act_at (program_of s) n ≡ Some (open_files os)) own (is.statement.its ∙ ap Some its)

  -- what stands goes on standing where the file is made ready
  on_ready : (first told : Contents) (text : List ℕ) (left : ℕ) → known_bytes old ≡ Some told
      → StandsIn (program_of s) s.graph.now (paths_of s) first told text w left step node
      → StandsIn (program_of s) s.graph.now (paths_of s) first told text u_ left step node
  on_ready first told text left e st =
      let r = ready.same told text e st.synced in
      record {
        tells = st.tells;
        way = subst (λ (z : World). Way (program_of s) s.graph.now (told_files first (paths_of s)) [] left node z)
            (sym r.0) st.way;
        synced = r.1;
        others = st.others;
        free = st.free;
      }

  edge_follows : (first told now : Contents) (text : List ℕ) (left : ℕ) → AgreeBut told now ready.path
      → IsReadyToOpen told now ready.path o.output ready.file
      → StandsIn (program_of s) s.graph.now (paths_of s) first told text u_ left step node
      → (a : Action) (m : ℕ) → Contains (op_edges x.plan_node.now.op) (a, m)
      → EdgeFollows (program_of s) is.plan_node.node.statement told now (paths_of s) text u_ a
  edge_follows first told now text left but it st a m out =
      open_edge (program_of s) is.plan_node.node.statement told now (paths_of s) text u_ k os o act_is at
      (open_one_follows s.program.now.layout told now (paths_of s) text apart u_ st.synced o ready.is.decl ready.file
      ready.path but
      ready.is.path_ ready.is.declared ready.has it
      (own_synced told (paths_of s) u_.files o.file ready.path ready.file st.synced ready.is.path_ ready.has))
      a m fine bad (subst (λ (o : Op). Contains (op_edges o) (a, m)) op_is out)

  leads_by : (outcome : Result ℕ DoEnd) → Does (program_of s) x.statement.now.number x.plan_node.now.op u_ v outcome
      → Leads s budget step node (outside old sink) (outside new sink) w v
      (answered x.statement.now.number step outcome)
  leads_by (Ok to) done start within u =
      stands_readied (program_of s) s.graph.now (paths_of s) start sink old new ready.path _ ready.ready w v u.left step
      node step step to
      (λ first told now text e but it st_.
      let st = on_ready first told text u.left e st_ in
      let follows = edge_follows first told now text u.left but it st done.action to done.out in
      let on = goes_where now (paths_of s) text _ _ v follows.effect_
      (subst (λ (n : ℕ). effect (program_of s) n None u_ done.action ≡ Ok (Some v)) own done.does) in
      subst (λ (n : ℕ). StandsIn (program_of s) s.graph.now (paths_of s) first now text v n step to)
      (sym (u.counts is.plan_node.node is.plan_node.stands))
      (goes_over (program_of s) s.graph.now (paths_of s) first told now text u_ v u.left step step node to is.plan_node.node
      done.action st is.plan_node.stands
      (is.plan_node.edges done.action to done.out) on.0
      (subst (λ (n : ℕ). is_handled (program_of s) n done.action ≡ true) own done.goes_on) on.1
      (others_keep first told now (paths_of s) o.file ready.path ready.is.path_ but st.others) st.free))
      u.stands
  leads_by (Err (does.Fault kind)) done start within u =
      rests_readied (program_of s) s.graph.now (paths_of s) start sink old new ready.path _ ready.ready w v u.left step
      node budget _
      (λ first told now text e but it st_.
      let st = on_ready first told text u.left e st_ in
      let follows = edge_follows first told now text u.left but it st done.action done.to done.out in
      absurd (follows.sound kind (subst (λ (n : ℕ). effect (program_of s) n None u_ done.action ≡ Err kind) own
      done.meets)))
      u.stands
  leads_by (Err (does.Stop status_)) done start within u =
      rests_readied (program_of s) s.graph.now (paths_of s) start sink old new ready.path _ ready.ready w v u.left step
      node budget _
      (λ first told now text e but it st_.
      let st = on_ready first told text u.left e st_ in
      let follows = edge_follows first told now text u.left but it st done.action done.to done.out in
      let on = goes_where now (paths_of s) text _ _ v follows.effect_
      (subst (λ (n : ℕ). effect (program_of s) n None u_ done.action ≡ Ok (Some v)) own done.does) in
      subst (λ (n : ℕ). RestsIn (program_of s) s.graph.now (paths_of s) budget first now text v
      (Err (end.IoStop status_ n))) (sym own)
      (stopped_by (program_of s) s.graph.now (paths_of s) first told now text u_ v u.left step node done.to is.plan_node.node
      done.action status_
      step st is.plan_node.stands (u.counts is.plan_node.node is.plan_node.stands) (is.plan_node.edges done.action done.to done.out) on.0
      (follows.status_ ∙ subst (λ (n : ℕ). status (program_of s) n None u_ done.action ≡ Some status_) own done.gives)
      (subst (λ (n : ℕ). is_handled (program_of s) n done.action ≡ false) own done.stops) on.1
      (others_keep first told now (paths_of s) o.file ready.path ready.is.path_ but st.others) st.free budget within))
      u.stands
  leads_by (Err does.Memory) done start within u = tt

  pub open_leads : (result : Result ℕ RunEnd) → DoesPart s x step u_ v result
      → Leads s budget step node (outside old sink) (outside new sink) w v result
  open_leads result d = subst (Leads s budget step node (outside old sink) (outside new sink) w v) (sym d.told)
      (leads_by d.outcome d.does)
