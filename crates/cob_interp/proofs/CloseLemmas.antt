-- What comes of a CLOSE, and of a refusal.
use Rattle.std.proofs.Common.{◌≡◌, ℕ, true, false, List, inl, Option, Some, None, Result, Ok, Err, sym, ap, subst, ◌∙◌}
use Rattle.std.specs.Prelude.{Contains, slice_get}
use Rattle.batch_io.specs.Faults.{Rose}
use Rattle.batch_io.specs.FilesState.{Contents, FilesState}
use Rattle.batch_io.specs.SinkState.{SinkState}
use Rattle.cob_plan.specs.declared.node.Op.{Op}
use Rattle.cob_plan.specs.declared.node.Op.TheVariants as op
use Rattle.cob_plan.specs.declared.end.DoEnd.{DoEnd}
use Rattle.cob_plan.specs.declared.end.DoEnd.TheVariants as does
use Rattle.cob_plan.specs.Plan.{op_edges}
use Rattle.cob_plan.specs.Doing.{Does}
use Rattle.cob_program.specs.Act.{close_files}
use Rattle.cob_program.specs.ActView.{plain_act}
use Rattle.cob_runs.specs.declared.action.Action.{Action}
use Rattle.cob_runs.specs.Files.{File}
use Rattle.cob_runs.specs.State.{World}
use Rattle.cob_runs.specs.Effects.{effect, status, is_handled, act_at}
use Rattle.cob_interp.specs.declared.ends.RunEnd.{RunEnd}
use Rattle.cob_interp.specs.declared.ends.RunEnd.TheVariants as end
use Rattle.cob_interp.specs.declared.setting.Setting.{Setting}
use Rattle.cob_interp.specs.declared.setting.Standing.{Standing}
use Rattle.cob_interp.specs.Told.{seen_files, AreSynced, IsSynced, AreDistinct, AgreeBut, IsOut}
use Rattle.cob_interp.specs.Runs.{Outside, outside}
use Rattle.cob_interp.specs.Running.{IsWell, Halts, StandsIn, RestsIn}
use Rattle.cob_interp.specs.Setting.{program_of, paths_of, IsPlace}
use Rattle.cob_interp.specs.Readying.{IsRefusal, GoesOut}
use Rattle.cob_interp.specs.Doing.{answered, Leads, DoesPart}
use Rattle.cob_interp.proofs.SeenFiles.{SeenAt, seen_at}
use Rattle.cob_interp.proofs.Calls.{close_one_follows}
use Rattle.cob_interp.proofs.Passing.{stands_readied, rests_readied}
use Rattle.cob_interp.proofs.Onward.{goes_where, goes_over, stopped_by}
use Rattle.cob_interp.proofs.CallsLead.{EdgeFollows, close_edge, others_keep}

-- ---- a refusal

pub rose_on : (a b c : ℕ) → b ≡ a → Rose b c → Rose a c
rose_on a b c e r = subst (λ (n : ℕ). Rose n c) e r

pub refused_halts : (s : Setting) (budget : ℕ) (start : Outside) (sink : SinkState) (old new : FilesState) (v : World)
    (text : List ℕ) (e : RunEnd)
    → IsWell start (outside old sink) text → IsRefusal old new e
    → Halts (program_of s) s.graph.now (paths_of s) budget start (outside new sink) v (Err e)
refused_halts s budget start sink old new v text end.ReadFault well r = rose_on start.files.reading old.reading
    new.reading well.reading r
refused_halts s budget start sink old new v text end.WriteFault well r = inl
    (rose_on start.files.writing old.writing new.writing well.writing r)
refused_halts s budget start sink old new v text end.Memory well r = tt
refused_halts s budget start sink old new v text (end.Ragged file count) well r = absurd r
refused_halts s budget start sink old new v text (end.StepsSpent count) well r = absurd r
refused_halts s budget start sink old new v text (end.IoStop status_ statement) well r = absurd r
refused_halts s budget start sink old new v text (end.Fault kind statement step) well r = absurd r

pub refused_leads : (s : Setting) (budget step node : ℕ) (sink : SinkState) (old new : FilesState) (w v : World)
    (e : RunEnd)
    → IsRefusal old new e → Leads s budget step node (outside old sink) (outside new sink) w v (Err e)
refused_leads s budget step node sink old new w v e r start within u =
    refused_halts s budget start sink old new v u.stands.text e u.stands.well r

-- ---- CLOSE

pub own_synced : (told : Contents) (paths : List (List ℕ)) (fs : List File) (place : ℕ) (path : List ℕ) (f : File)
    → AreSynced told paths fs → slice_get paths place ≡ Some path → slice_get fs place ≡ Some f → IsSynced told path f
own_synced told paths fs place path f s at has =
    let sees : SeenAt told paths place (Some f) (slice_get (seen_files told paths fs) place) =
    subst (λ (o : Option File). SeenAt told paths place o (slice_get (seen_files told paths fs) place)) has
    (seen_at told paths fs place s) in
    let same : sees.0 ≡ path = cc in
    subst (λ (x : List ℕ). IsSynced told x f) same sees.3

module _ (s : Setting) (budget : ℕ) (x : Standing) (step node : ℕ) (sink : SinkState) (old new : FilesState) (w v : World)
    (apart : AreDistinct (paths_of s)) (is : IsPlace s node x) (k fine bad file : ℕ) (fs : List ℕ)
    (op_is : x.plan_node.now.op ≡ op.Close k fine bad) (its : plain_act x.statement.now.act.now ≡ close_files fs)
    (at : slice_get fs k ≡ Some file) (ready : GoesOut s w file old new) where
  own : x.statement.now.number ≡ is.plan_node.node.statement
  own = is.number ∙ is.plan_node.statement

  act_is : act_at (program_of s) is.plan_node.node.statement ≡ Some (close_files fs)
  act_is = subst (λ (n : ℕ). act_at (program_of s) n ≡ Some (close_files fs)) own (is.statement.its ∙ ap Some its)

  edge_follows : (first told now : Contents) (text : List ℕ) (left : ℕ) → AgreeBut told now ready.path
      → IsOut told now ready.path ready.file
      → StandsIn (program_of s) s.graph.now (paths_of s) first told text w left step node
      → (a : Action) (m : ℕ) → Contains (op_edges x.plan_node.now.op) (a, m)
      → EdgeFollows (program_of s) is.plan_node.node.statement told now (paths_of s) text w a
  edge_follows first told now text left but it st a m out =
      close_edge (program_of s) is.plan_node.node.statement told now (paths_of s) text w k fs file act_is at
      (close_one_follows s.program.now.layout told now (paths_of s) text apart w st.synced file ready.is.decl ready.file
      ready.path but
      ready.is.path_ ready.is.declared ready.has it
      (own_synced told (paths_of s) w.files file ready.path ready.file st.synced ready.is.path_ ready.has))
      a m fine bad (subst (λ (o : Op). Contains (op_edges o) (a, m)) op_is out)

  leads_by : (outcome : Result ℕ DoEnd) → Does (program_of s) x.statement.now.number x.plan_node.now.op w v outcome
      → Leads s budget step node (outside old sink) (outside new sink) w v
      (answered x.statement.now.number step outcome)
  leads_by (Ok to) done start within u =
      stands_readied (program_of s) s.graph.now (paths_of s) start sink old new ready.path _ ready.ready w v u.left step
      node step step to
      (λ first told now text e but it st.
      let follows = edge_follows first told now text u.left but it st done.action to done.out in
      let on = goes_where now (paths_of s) text _ _ v follows.effect_
      (subst (λ (n : ℕ). effect (program_of s) n None w done.action ≡ Ok (Some v)) own done.does) in
      subst (λ (n : ℕ). StandsIn (program_of s) s.graph.now (paths_of s) first now text v n step to)
      (sym (u.counts is.plan_node.node is.plan_node.stands))
      (goes_over (program_of s) s.graph.now (paths_of s) first told now text w v u.left step step node to is.plan_node.node
      done.action st is.plan_node.stands
      (is.plan_node.edges done.action to done.out) on.0
      (subst (λ (n : ℕ). is_handled (program_of s) n done.action ≡ true) own done.goes_on) on.1
      (others_keep first told now (paths_of s) file ready.path ready.is.path_ but st.others) st.free))
      u.stands
  leads_by (Err (does.Fault kind)) done start within u =
      rests_readied (program_of s) s.graph.now (paths_of s) start sink old new ready.path _ ready.ready w v u.left step
      node budget _
      (λ first told now text e but it st.
      let follows = edge_follows first told now text u.left but it st done.action done.to done.out in
      absurd (follows.sound kind (subst (λ (n : ℕ). effect (program_of s) n None w done.action ≡ Err kind) own
      done.meets)))
      u.stands
  leads_by (Err (does.Stop status_)) done start within u =
      rests_readied (program_of s) s.graph.now (paths_of s) start sink old new ready.path _ ready.ready w v u.left step
      node budget _
      (λ first told now text e but it st.
      let follows = edge_follows first told now text u.left but it st done.action done.to done.out in
      let on = goes_where now (paths_of s) text _ _ v follows.effect_
      (subst (λ (n : ℕ). effect (program_of s) n None w done.action ≡ Ok (Some v)) own done.does) in
      subst (λ (n : ℕ). RestsIn (program_of s) s.graph.now (paths_of s) budget first now text v
      (Err (end.IoStop status_ n))) (sym own)
      (stopped_by (program_of s) s.graph.now (paths_of s) first told now text w v u.left step node done.to is.plan_node.node
      done.action status_
      step st is.plan_node.stands (u.counts is.plan_node.node is.plan_node.stands) (is.plan_node.edges done.action done.to done.out) on.0
      (follows.status_ ∙ subst (λ (n : ℕ). status (program_of s) n None w done.action ≡ Some status_) own done.gives)
      (subst (λ (n : ℕ). is_handled (program_of s) n done.action ≡ false) own done.stops) on.1
      (others_keep first told now (paths_of s) file ready.path ready.is.path_ but st.others) st.free budget within))
      u.stands
  leads_by (Err does.Memory) done start within u = tt

  pub close_leads : (result : Result ℕ RunEnd) → DoesPart s x step w v result
      → Leads s budget step node (outside old sink) (outside new sink) w v result
  close_leads result d = subst (Leads s budget step node (outside old sink) (outside new sink) w v) (sym d.told)
      (leads_by d.outcome d.does)
