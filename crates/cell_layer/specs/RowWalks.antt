-- What contracts see of a row that is led along an edge.
use Rattle.std.specs.Prelude.{◌≡◌}
use Rattle.cob_program.specs.ActView.{plain_act, plain_program}
use Rattle.cob_program.specs.Act.{Act, Program}
use Rattle.cell_steps.specs.Seen.{Seen}
use Rattle.cell_layer.specs.declared.edge.row_walk.Walk.{Walk}
use Rattle.cell_layer.specs.Kept.{seen, latest_of}
use Rattle.cell_layer.specs.Latest.{Latest}
use Rattle.cell_layer.specs.Walks.{CanStep}

abbrev pub program_in : Walk → Program
program_in w = plain_program w.program.now

abbrev pub act_done : Walk → Act
act_done w = plain_act w.act.now

-- what is known, and what is kept beside it
abbrev pub moment : Walk → Seen
moment w = seen w.row.now w.kept

abbrev pub latest_in : Walk → Latest
latest_in w = latest_of w.kept

abbrev pub CanGoOn : Walk → Type 0
CanGoOn w = CanStep (program_in w) (act_done w) w.action (moment w)

-- what each method keeps
pub record GoesOn (old new : Walk) : Type 0 where
  pub row : new.row.ghost_name ≡ old.row.ghost_name
  pub program : new.program.now ≡ old.program.now
  pub cells : new.cells.now ≡ old.cells.now
  pub act : new.act.now ≡ old.act.now
  pub action : new.action ≡ old.action
