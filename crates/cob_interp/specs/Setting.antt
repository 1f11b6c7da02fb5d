-- What holds of a program that is run, its plan and its paths.
use Rattle.std.specs.Prelude.{◌≡◌, ◌≤◌, ◌<◌, ℕ, suc, Bool, true, false, List, length, map, Contains, Some, Result, IfOk, string_bytes}
use Rattle.std.specs.List.{All}
use Rattle.cob_program.specs.declared.act.Opening.{Opening}
use Rattle.cob_program.specs.Act.{Act, open_files, close_files, read, Program}
use Rattle.cob_program.specs.ActView.{plain_act, plain_program}
use Rattle.cob_plan.specs.Plan.{ArePlanNodes, IsPlanNode, IsStatement, op_edges}
use Rattle.cob_plan.specs.declared.node.Op.{Op}
use Rattle.cob_plan.specs.declared.node.PlanNode.{PlanNode}
use Rattle.cob_plan.specs.Fitting.{IsFitting}
use Rattle.cob_plan.specs.Stepping as stepping
use Rattle.cob_plan.specs.Stepping.{OpLeadsOn, HasSteps, file_opened}
use Rattle.cob_graph.specs.Lookup.{node_at}
use Rattle.cob_runs.specs.declared.action.Action.{Action}
use Rattle.cob_runs.specs.Effects.{act_at}
use Rattle.cob_interp.specs.declared.ends.RunEnd.{RunEnd}
use Rattle.cob_interp.specs.declared.parts.Call.{Call}
use Rattle.cob_interp.specs.declared.parts.Call.TheVariants as call
use Rattle.cob_interp.specs.declared.setting.Setting.{Setting}
use Rattle.cob_interp.specs.declared.setting.Standing.{Standing}
use Rattle.cob_interp.specs.Able.{HasItsFiles}
use Rattle.cob_interp.specs.Told.{AreDistinct}

abbrev pub program_of : Setting → Program
program_of s = plain_program s.program.now

abbrev pub paths_of : Setting → List (List ℕ)
paths_of s = map string_bytes s.paths.now

pub record IsReady (s : Setting) : Type 0 where
  pub nodes : ArePlanNodes s.graph.now s.plan.nodes.items
  pub steps : HasSteps (program_of s) s.plan.nodes.items s.plan.statements.items
  pub statements : All (IsStatement (program_of s)) s.plan.statements.items
  pub distinct : AreDistinct (paths_of s)
  pub files : HasItsFiles (program_of s)
  -- each file has a path
  pub count : length s.paths.now ≡ length s.program.now.layout.files

-- A place's statement is the program's, and the operation of its node is one of that statement.
pub record IsPlaced (s : Setting) (x : Standing) : Type 0 where
  pub statement : IsStatement (program_of s) x.statement.now
  pub fits : IsFitting (program_of s) x.plan_node.now (plain_act x.statement.now.act.now)

-- A place has the plan's node with a number, and that node's statement.
pub record IsPlace (s : Setting) (node : ℕ) (x : Standing) : Type 0 where
  pub plan_node : IsPlanNode s.graph.now node x.plan_node.now
  pub statement : IsStatement (program_of s) x.statement.now
  pub fits : IsFitting (program_of s) x.plan_node.now (plain_act x.statement.now.act.now)
  pub number : x.statement.now.number ≡ x.plan_node.now.statement

-- It lies before the last node, and leads on.
pub record FitsPlace (s : Setting) (node : ℕ) (x : Standing) : Type 0 where
  pub above : 1 ≤ node
  pub below : node < length s.plan.nodes.items
  pub at : node_at s.plan.nodes.items node ≡ Some x.plan_node.now
  pub leads : OpLeadsOn s.plan.nodes.items node x.plan_node.now.statement x.plan_node.now.op

-- the node that is answered is one to which a node of a statement leads
abbrev pub LeadsOn : Setting → ℕ → ℕ → Result ℕ RunEnd → Type 0
LeadsOn s from statement result = IfOk result (λ next. stepping.LeadsOn s.plan.nodes.items statement (suc from) next)

-- the node that is answered is one to which an operation leads
abbrev pub LeadsBy : Setting → Op → Result ℕ RunEnd → Type 0
LeadsBy s o result =
    (from statement : ℕ) → OpLeadsOn s.plan.nodes.items from statement o → LeadsOn s from statement result

-- the node that is answered is one of the ways on from an operation
abbrev pub IsWayOn : Op → Result ℕ RunEnd → Type 0
IsWayOn o result = IfOk result (λ next. (a : Action) × Contains (op_edges o) (a, next))

-- the node with a number opens the file at a place of its statement's list
abbrev pub OpensAt : Setting → ℕ → ℕ → Type 0
OpensAt s node k = (x : PlanNode) → node_at s.plan.nodes.items node ≡ Some x → file_opened x.op ≡ Some k

-- an act that neither opens nor closes files
abbrev pub is_uncalled : Act → Bool
is_uncalled (open_files os) = false
is_uncalled (close_files fs) = false
is_uncalled _ = true

-- the statement with a number neither opens nor closes files
abbrev pub IsUncalled : Setting → ℕ → Type 0
IsUncalled s statement = (a : Act) → act_at (program_of s) statement ≡ Some a → is_uncalled a ≡ true

-- A place has the plan's node with a number, at which a step begins, and that node's statement.
pub record StartsAt (s : Setting) (node : ℕ) (x : Standing) : Type 0 where
  pub is : IsPlace s node x
  pub starts : x.plan_node.now.starts ≡ true

abbrev pub IsOpen : Call → List Opening → Type 0
IsOpen (call.Open os) openings = os.now ≡ openings
IsOpen _ openings = ⊥

abbrev pub IsClose : Call → List ℕ → Type 0
IsClose (call.Close fs) files = fs.now ≡ files
IsClose _ files = ⊥

abbrev pub IsRead : Call → ℕ → Type 0
IsRead (call.Read f) file = f ≡ file
IsRead _ file = ⊥

abbrev pub IsOther : Call → Type 0
IsOther call.Other = Unit {0}
IsOther _ = ⊥

-- how a statement calls files
abbrev pub IsCall : Act → Call → Type 0
IsCall (open_files os) c = IsOpen c os
IsCall (close_files fs) c = IsClose c fs
IsCall (read f into end fine) c = IsRead c f
IsCall _ c = IsOther c
