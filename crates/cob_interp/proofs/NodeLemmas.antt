-- What doing the part of a node comes to.
use Rattle.std.proofs.Common.{◌≡◌, ℕ, true, false, Some, None, Result, Ok, Err, sym, ap, subst, ◌∙◌}
use Rattle.cob_plan.specs.declared.end.DoEnd.{DoEnd}
use Rattle.cob_plan.specs.declared.end.DoEnd.TheVariants as does
use Rattle.cob_plan.specs.Doing.{Does}
use Rattle.cob_program.specs.ActView.{plain_act}
use Rattle.cob_runs.specs.State.{World}
use Rattle.cob_runs.specs.Effects.{effect, status, is_handled, act_at}
use Rattle.cob_interp.specs.declared.ends.RunEnd.{RunEnd}
use Rattle.cob_interp.specs.declared.ends.RunEnd.TheVariants as end
use Rattle.cob_interp.specs.declared.setting.Setting.{Setting}
use Rattle.cob_interp.specs.declared.setting.Standing.{Standing}
use Rattle.cob_interp.specs.Told.{AreDistinct}
use Rattle.cob_interp.specs.Runs.{Outside}
use Rattle.cob_interp.specs.Running.{RestsIn}
use Rattle.cob_interp.specs.Setting.{program_of, paths_of, IsPlace}
use Rattle.cob_interp.specs.Doing.{IsPlain, answered, Leads, DoesPart}
use Rattle.cob_interp.proofs.Following.{plain_edge}
use Rattle.cob_interp.proofs.Passing.{stands_on, rests_on}
use Rattle.cob_interp.proofs.Onward.{plain_goes, plain_faults, plain_stops}

module _ (s : Setting) (budget : ℕ) (x : Standing) (step node : ℕ) (now : Outside) (w v : World)
    (apart : AreDistinct (paths_of s))
    (is : IsPlace s node x) (plain : IsPlain x.plan_node.now.op (plain_act x.statement.now.act.now)) where
  own : x.statement.now.number ≡ is.plan_node.node.statement
  own = is.number ∙ is.plan_node.statement

  its : act_at (program_of s) is.plan_node.node.statement ≡ Some (plain_act x.statement.now.act.now)
  its = subst (λ (n : ℕ). act_at (program_of s) n ≡ Some (plain_act x.statement.now.act.now)) own is.statement.its

  leads_by : (outcome : Result ℕ DoEnd) → Does (program_of s) x.statement.now.number x.plan_node.now.op w v outcome
      → Leads s budget step node now now w v (answered x.statement.now.number step outcome)
  leads_by (Ok to) done start within u =
      stands_on (program_of s) s.graph.now (paths_of s) start now w v u.left step node step step to
      (λ first told text st. plain_goes (program_of s) s.graph.now (paths_of s) first told text apart w v u.left step
      node to is.plan_node.node
      done.action (plain_act x.statement.now.act.now) st is.plan_node.stands (u.counts is.plan_node.node is.plan_node.stands) its
      (plain_edge x.plan_node.now.op _ plain done.action to done.out)
      (is.plan_node.edges done.action to done.out)
      (subst (λ (n : ℕ). effect (program_of s) n None w done.action ≡ Ok (Some v)) own done.does)
      (subst (λ (n : ℕ). is_handled (program_of s) n done.action ≡ true) own done.goes_on))
      u.stands
  leads_by (Err (does.Fault kind)) done start within u =
      rests_on (program_of s) s.graph.now (paths_of s) budget start now w v u.left step node _
      (λ first told text st. subst (λ (n : ℕ). RestsIn (program_of s) s.graph.now (paths_of s) budget first told text v
      (Err (end.Fault kind n step))) (sym own)
      (plain_faults (program_of s) s.graph.now (paths_of s) first told text apart w v u.left step node done.to
      is.plan_node.node
      done.action (plain_act x.statement.now.act.now) st is.plan_node.stands (u.counts is.plan_node.node is.plan_node.stands) its
      (plain_edge x.plan_node.now.op _ plain done.action done.to done.out)
      (is.plan_node.edges done.action done.to done.out) budget within kind
      (subst (λ (n : ℕ). effect (program_of s) n None w done.action ≡ Err kind) own done.meets)
      (ap (λ (z : World). z.files) done.others) (ap (λ (z : World). z.shown) done.others)))
      u.stands
  leads_by (Err (does.Stop status_)) done start within u =
      rests_on (program_of s) s.graph.now (paths_of s) budget start now w v u.left step node _
      (λ first told text st. subst (λ (n : ℕ). RestsIn (program_of s) s.graph.now (paths_of s) budget first told text v
      (Err (end.IoStop status_ n))) (sym own)
      (plain_stops (program_of s) s.graph.now (paths_of s) first told text apart w v u.left step node done.to
      is.plan_node.node
      done.action (plain_act x.statement.now.act.now) st is.plan_node.stands (u.counts is.plan_node.node is.plan_node.stands) its
      (plain_edge x.plan_node.now.op _ plain done.action done.to done.out)
      (is.plan_node.edges done.action done.to done.out) budget within status_
      (subst (λ (n : ℕ). effect (program_of s) n None w done.action ≡ Ok (Some v)) own done.does)
      (subst (λ (n : ℕ). status (program_of s) n None w done.action ≡ Some status_) own done.gives)
      (subst (λ (n : ℕ). is_handled (program_of s) n done.action ≡ false) own done.stops)))
      u.stands
  leads_by (Err does.Memory) done start within u = tt

  pub plain_leads : (result : Result ℕ RunEnd) → DoesPart s x step w v result
      → Leads s budget step node now now w v result
  plain_leads result d = subst (Leads s budget step node now now w v) (sym d.told) (leads_by d.outcome d.does)
