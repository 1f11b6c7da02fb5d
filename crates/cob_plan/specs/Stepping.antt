-- How the nodes of a plan make up steps: from a node at which one begins, onward among the nodes of its statement.
use Rattle.std.specs.Prelude.{◌≡◌, ◌+◌, ◌≤◌, ◌<◌, ◌⊎◌, ◌==◌, ◌||◌, ℕ, suc, Bool, true, List, length, Contains, slice_get, Option, Some, None}
use Rattle.cob_program.specs.Act.{Act, Program}
use Rattle.cob_runs.specs.declared.action.Action.{Action}
use Rattle.cob_runs.specs.Effects.{act_at}
use Rattle.cob_graph.specs.Lookup.{node_at}
use Rattle.cob_plan.specs.declared.node.Op.{Op}
use Rattle.cob_plan.specs.declared.node.Op.TheVariants as op
use Rattle.cob_plan.specs.declared.node.PlanNode.{PlanNode}
use Rattle.cob_plan.specs.declared.statement.Statement.{Statement}
use Rattle.cob_plan.specs.Plan.{op_edges}
use Rattle.cob_plan.specs.Fitting.{IsFitting}

-- one of the statements has the number
pub record IsListed (statements : List Statement) (number : ℕ) : Type 0 where
  pub place : ℕ
  pub statement : Statement
  pub stands : slice_get statements place ≡ Some statement
  pub its : statement.number ≡ number

-- No step goes on at a node: one begins there, or it is the last one, or there is none.
abbrev pub rests_in : ℕ → ℕ → Option PlanNode → Bool
rests_in last n None = true
rests_in last n (Some x) = x.starts || (n == last)

module _ (nodes : List PlanNode) where
  abbrev pub rests : ℕ → Bool
  rests n = rests_in (length nodes) n (node_at nodes n)

  -- a node at which no step goes on
  pub record IsRest (n : ℕ) : Type 0 where
    pub above : 1 ≤ n
    pub within : n ≤ length nodes
    pub is : rests n ≡ true

  -- a node of a statement, before the last one
  pub record IsWithin (n statement : ℕ) : Type 0 where
    pub above : 1 ≤ n
    pub below : n < length nodes
    pub own : (x : PlanNode) → node_at nodes n ≡ Some x → x.statement ≡ statement

  -- A step of a statement leads to a node at which no step goes on, or to a node of the statement, from a number on.
  pub record LeadsOn (statement from to : ℕ) : Type 0 where
    pub on : IsRest to ⊎ ((from ≤ to) × IsWithin to statement)

  -- each way on from a node with an operation does
  abbrev pub OpLeadsOn : ℕ → ℕ → Op → Type 0
  OpLeadsOn from statement o = (a : Action) (to : ℕ) → Contains (op_edges o) (a, to) → LeadsOn statement (suc from) to

-- the place, in its statement's list, of the file that an operation opens
abbrev pub file_opened : Op → Option ℕ
file_opened (op.Open k fine bad) = Some k
file_opened _ = None

-- The files of an OPEN are opened in turn: a step begins with the first of them, and a node that opens one leads to where
-- no step goes on, or to the node that opens the next one.
pub record OpensInTurn (nodes : List PlanNode) (n : ℕ) (s : PlanNode) : Type 0 where
  pub first : s.starts ≡ true → (k : ℕ) → file_opened s.op ≡ Some k → k ≡ 0
  pub next : (k : ℕ) → file_opened s.op ≡ Some k → (a : Action) (to : ℕ) → Contains (op_edges s.op) (a, to)
      → IsRest nodes to ⊎ ((x : PlanNode) × (node_at nodes to ≡ Some x) × (file_opened x.op ≡ Some (k + 1)))

-- A step begins at the first node, if it isn't the last one too; each node but the last has its statement, does a part of
-- it, and leads onward.
pub record HasSteps (p : Program) (nodes : List PlanNode) (statements : List Statement) : Type 0 where
  pub first : IsRest nodes 1
  pub leads : (n : ℕ) (s : PlanNode) → node_at nodes n ≡ Some s → n < length nodes → OpLeadsOn nodes n s.statement s.op
  pub listed : (n : ℕ) (s : PlanNode) → node_at nodes n ≡ Some s → n < length nodes → IsListed statements s.statement
  pub fits : (n : ℕ) (s : PlanNode) → node_at nodes n ≡ Some s → n < length nodes → (a : Act) → act_at p s.statement ≡ Some a
      → IsFitting p s a
  pub opens : (n : ℕ) (s : PlanNode) → node_at nodes n ≡ Some s → n < length nodes → OpensInTurn nodes n s
