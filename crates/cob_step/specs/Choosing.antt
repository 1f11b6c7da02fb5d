-- A WHEN of an EVALUATE.
use Rattle.std.specs.Prelude.{Bool, Result}
use Rattle.cob_tree.specs.declared.fault.Kind.{Kind}
use Rattle.cob_data.specs.declared.layout.Layout.{Layout}
use Rattle.cob_program.specs.Logic.{logics_of}
use Rattle.cob_program.specs.Act.{Stmts, When, MkWhen}
use Rattle.cob_runs.specs.Deciding.{some_holds}
use Rattle.cob_runs.specs.State.{World}

-- whether a WHEN matches
abbrev pub when_holds : Layout → World → When → Result Bool Kind
when_holds l w (MkWhen tests body) = some_holds l w.storage (logics_of tests)

-- what is done where a WHEN matches
abbrev pub list_in : When → Stmts
list_in (MkWhen tests body) = body
