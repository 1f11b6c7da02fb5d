-- Which operations the nodes of a statement have, by what it does.
use Rattle.std.specs.Prelude.{◌≡◌, ◌<◌, ℕ, Bool, true, false, length, is_some}
use Rattle.cob_program.specs.Act.{Turns, times, varying, Act, move, arith, if_, evaluate, perform, go, nothing, stop, open_files, close_files, read, write, show, Program}
use Rattle.cob_runs.specs.Acts.{file_from}
use Rattle.cob_runs.specs.Steps.{is_given}
use Rattle.cob_runs.specs.Effects.{tests_in_act}
use Rattle.cob_plan.specs.declared.node.Op.{Op}
use Rattle.cob_plan.specs.declared.node.Op.TheVariants as op
use Rattle.cob_plan.specs.declared.node.PlanNode.{PlanNode}

-- ---- what a statement has to do

abbrev pub IsVarying : Turns → Type 0
IsVarying (varying after item start by t) = Unit {0}
IsVarying _ = ⊥

abbrev pub IsTimes : Turns → Type 0
IsTimes (times x) = Unit {0}
IsTimes _ = ⊥

-- it does nothing but lead on
abbrev pub Skips : Act → Type 0
Skips (if_ t held other) = Unit {0}
Skips (evaluate ws other) = Unit {0}
Skips (perform body turns) = Unit {0}
Skips (go to) = Unit {0}
Skips nothing = Unit {0}
Skips stop = Unit {0}
Skips _ = ⊥

-- a MOVE, the setting of VARYING, INTO or FROM
abbrev pub Assigns : Act → Type 0
Assigns (move x places) = Unit {0}
Assigns (perform body turns) = IsVarying turns
Assigns (read f into end fine) = Unit {0}
Assigns (write r from) = Unit {0}
Assigns _ = ⊥

abbrev pub Shows : Act → Type 0
Shows (show xs) = Unit {0}
Shows _ = ⊥

abbrev pub Counts : Act → Type 0
Counts (perform body turns) = IsTimes turns
Counts _ = ⊥

-- arithmetic, or the augmenting of VARYING
abbrev pub Computes : Act → Type 0
Computes (arith s targets remainder size fine) = Unit {0}
Computes (perform body turns) = IsVarying turns
Computes _ = ⊥

-- whether its size error is left to its phrase
abbrev pub HandlesSize : Bool → Act → Type 0
HandlesSize handles (arith s targets remainder size fine) = is_given size ≡ handles
HandlesSize handles _ = handles ≡ false

-- the test of TIMES, or a simple condition
abbrev pub Tests : ℕ → Act → Type 0
Tests k (perform body (times x)) = Unit {0}
Tests k a = k < length (tests_in_act a)

abbrev pub Opens : ℕ → Act → Type 0
Opens k (open_files os) = k < length os
Opens k _ = ⊥

abbrev pub Closes : ℕ → Act → Type 0
Closes k (close_files fs) = k < length fs
Closes k _ = ⊥

abbrev pub Reads : Act → Type 0
Reads (read f into end fine) = Unit {0}
Reads _ = ⊥

-- a record of a file is written
abbrev pub Writes : Program → Act → Type 0
Writes p (write r from) = is_some (file_from p.layout 0 p.layout.files r) ≡ true
Writes p _ = ⊥

-- ---- operations

-- An operation is one of a statement that does this; the final node's is none's.
abbrev pub Fits : Program → Op → Act → Type 0
Fits p (op.Skip to) a = Skips a
Fits p (op.Assign to) a = Assigns a
Fits p (op.Show to) a = Shows a
Fits p (op.SetCount to) a = Counts a
Fits p (op.CountDown to) a = Counts a
Fits p (op.Compute fine size) a = Computes a × HandlesSize (is_some size) a
Fits p (op.Test k held other) a = Tests k a
Fits p (op.Open k fine bad) a = Opens k a
Fits p (op.Close k fine bad) a = Closes k a
Fits p (op.Read found end bad) a = Reads a
Fits p (op.Write fine bad) a = Writes p a
Fits p op.Final a = ⊥

-- A READ begins with the reading of its record, and has at most one node more, for INTO.
abbrev pub IsOfRead : Bool → Op → Type 0
IsOfRead true (op.Read found end bad) = Unit {0}
IsOfRead false (op.Assign to) = Unit {0}
IsOfRead _ _ = ⊥

abbrev pub BeginsRead : Bool → Op → Act → Type 0
BeginsRead starts o (read f into end fine) = IsOfRead starts o
BeginsRead starts o _ = Unit {0}

-- A node's operation is one of its statement's.
pub record IsFitting (p : Program) (s : PlanNode) (a : Act) : Type 0 where
  pub fits : Fits p s.op a
  pub read : BeginsRead s.starts s.op a
