-- What a step needs of a run, and keeps.
use Rattle.std.specs.Prelude.{List}
use Rattle.std.specs.List.{AllByRecursion}
use Rattle.cob_data.specs.declared.layout.Layout.{Layout}
use Rattle.cob_program.specs.Act.{Program}
use Rattle.cob_runs.specs.State.{Doing, rest, paras, testing, augmenting, State}
use Rattle.cob_world.specs.Doing.{CanDo, CanDoBody, CanTurn}

module _ (l : Layout) where
  abbrev pub CanDoNext : Doing → Type 0
  CanDoNext (rest ss) = CanDo l ss
  CanDoNext (paras first last) = Unit {0}
  CanDoNext (testing number body turns) = CanDoBody l body × CanTurn l turns
  CanDoNext (augmenting number body turns) = CanDoBody l body × CanTurn l turns

  abbrev pub CanDoAll : List Doing → Type 0
  CanDoAll ds = AllByRecursion CanDoNext ds

-- What is still to be done of a run can be done.
pub record IsReady (p : Program) (s : State) : Type 0 where
  pub able : CanDoAll p.layout s.control
