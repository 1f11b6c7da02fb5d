-- What doing a node's part of its statement comes to.
use Rattle.std.specs.Prelude.{◌≡◌, ℕ, ◌==◌, ◌&&◌, not, Bool, true, false, Contains, Some, None, Result, Ok, Err}
use Rattle.cob_tree.specs.declared.fault.Kind.{Kind}
use Rattle.cob_program.specs.Act.{Act, Program}
use Rattle.cob_runs.specs.declared.action.Action.{Action}
use Rattle.cob_runs.specs.Acts.{is_fine}
use Rattle.cob_runs.specs.Faults.{◌>>=◌}
use Rattle.cob_runs.specs.State.{World, with_storage}
use Rattle.cob_runs.specs.Effects.{Effect, taken_if, effect, status, is_handled, file_call, called_bad, read_with, status_by, handled_by, end_handled}
use Rattle.cob_plan.specs.declared.node.Op.{Op}
use Rattle.cob_plan.specs.declared.end.DoEnd.{DoEnd}
use Rattle.cob_plan.specs.declared.end.DoEnd.TheVariants as end
use Rattle.cob_plan.specs.declared.called.Called.{Called}
use Rattle.cob_plan.specs.declared.called.Taken.{Taken}
use Rattle.cob_plan.specs.Plan.{op_edges}

-- An area that a statement leaves undefined keeps what stood there.
module _ (p : Program) (number : ℕ) (o : Op) where
  -- One of the node's ways on is taken, and no status on it ends the run.
  pub record GoesTo (old new : World) (to : ℕ) : Type 0 where
    pub action : Action
    pub out : Contains (op_edges o) (action, to)
    pub does : effect p number None old action ≡ Ok (Some new)
    pub goes_on : is_handled p number action ≡ true

  -- One of the node's ways on meets the fault, and what it changed is storage alone.
  pub record MeetsFault (old new : World) (kind : Kind) : Type 0 where
    pub action : Action
    pub to : ℕ
    pub out : Contains (op_edges o) (action, to)
    pub meets : effect p number None old action ≡ Err kind
    pub others : new ≡ with_storage old new.storage

  -- One of the node's ways on is taken, with a status that nothing handles.
  pub record StopsBy (old new : World) (status_ : ℕ) : Type 0 where
    pub action : Action
    pub to : ℕ
    pub out : Contains (op_edges o) (action, to)
    pub does : effect p number None old action ≡ Ok (Some new)
    pub gives : status p number None old action ≡ Some status_
    pub stops : is_handled p number action ≡ false

  abbrev pub Does : World → World → Result ℕ DoEnd → Type 0
  Does old new (Ok to) = GoesTo old new to
  Does old new (Err (end.Fault kind)) = MeetsFault old new kind
  Does old new (Err (end.Stop status_)) = StopsBy old new status_
  Does old new (Err end.Memory) = Unit {0}

-- ---- a statement's part by itself

-- A statement's part ends by this fault, or for want of memory.
abbrev pub EndsBy : Effect → World → World → DoEnd → Type 0
EndsBy wanted old new (end.Fault kind) = (wanted ≡ Err kind) × (new ≡ with_storage old new.storage)
EndsBy wanted old new (end.Stop status_) = ⊥
EndsBy wanted old new end.Memory = Unit {0}

-- A statement's part with one way on takes it, or ends.
abbrev pub Meets : {A : Type 0} → Effect → World → World → Result A DoEnd → Type 0
Meets wanted old new (Ok _) = wanted ≡ Ok (Some new)
Meets wanted old new (Err e) = EndsBy wanted old new e

-- A statement's part with two ways on takes the first if so, and else the second, or it ends.
abbrev pub Forks : Effect → Effect → World → World → Result Bool DoEnd → Type 0
Forks first second old new (Ok true) = first ≡ Ok (Some new)
Forks first second old new (Ok false) = second ≡ Ok (Some new)
Forks first second old new (Err e) = EndsBy first old new e

-- arithmetic without a size error, and arithmetic with one that its phrase handles
abbrev pub without_error : Result (World × Bool) Kind → Effect
without_error r = r >>= λ x. taken_if (not x.1) x.0

abbrev pub with_error : Result (World × Bool) Kind → Effect
with_error r = r >>= λ x. taken_if x.1 x.0

module _ (p : Program) (number k : ℕ) (old new : World) (a : Act) where
  -- OPEN, CLOSE or WRITE of the k-th file of a statement: its status, and whether the file has FILE STATUS
  pub record IsCall (c : Called) : Type 0 where
    pub fine : file_call p number None old true k a ≡ taken_if (is_fine c.status) new
    pub bad : called_bad p number None old k a ≡ taken_if (not (is_fine c.status)) new
    pub gives : status_by p number None old k a ≡ Some c.status
    pub file : handled_by p number k a ≡ c.handled

  -- READ without INTO: its status, whether the file has FILE STATUS, and whether something handles its end
  pub record IsTaking (t : Taken) : Type 0 where
    pub found : read_with p number None old 0 a ≡ taken_if (t.status == 0) new
    pub ended : read_with p number None old 10 a ≡ taken_if (t.status == 10) new
    pub bad : called_bad p number None old k a ≡ taken_if (not (is_fine t.status) && not (t.status == 10)) new
    pub gives : status_by p number None old k a ≡ Some t.status
    pub file : handled_by p number k a ≡ t.handled
    pub end : end_handled p number a ≡ t.end_handled
