-- What a row and what is kept beside it say.
use Rattle.std.specs.Prelude.{ℕ, Bool, true, false, List, Option, ℤ, slice_get}
use Rattle.std.specs.Option.{option_map_or}
use Rattle.cob_program.specs.Values.{◌>>=◌}
use Rattle.cob_program.specs.Act.{Stmt, Program}
use Rattle.cob_runs.specs.declared.action.Action.{Action}
use Rattle.edge_parts.specs.PartView.{edge_parts}
use Rattle.interval_domain.specs.Known.{Known, joined_known}
use Rattle.interval_domain.specs.Rows.{cells_of}
use Rattle.cell_steps.specs.Seen.{Seen}
use Rattle.cell_layer.specs.declared.edge.kept.Kept.{Kept}
use Rattle.cell_layer.specs.NumberedStatements.{act_in}
use Rattle.cell_layer.specs.Walks.{step_small}
use Rattle.cell_layer.specs.Latest.{Latest, latest_behind}

abbrev pub seen : List ℤ → Kept → Seen
seen row k =
    record { cells = cells_of row; written = k.written; common = k.common; may_zero = k.may_zero; any_fail = k.any_fail }

abbrev pub latest_of : Kept → Latest
latest_of k = record { result = k.result; may_fail = k.may_fail; may_fit = k.may_fit }

-- ---- a part by its number

module _ (p : Program) (y : Stmt) (x : Action) where
  abbrev pub step_at : ℕ → Seen → Option Seen
  step_at k s = slice_get (edge_parts p y x) k >>= λ part. step_small p (act_in y) x part s

  abbrev pub latest_at : ℕ → Seen → Latest → Latest
  latest_at k s before =
      option_map_or (λ part. latest_behind p (act_in y) x part s before) (slice_get (edge_parts p y x) k) before

-- ---- a store

-- what is known of the receiver: it may keep its value, or gets the new one
abbrev pub kept_or_new : Bool → Known → Known → Known
kept_or_new true old new = joined_known old new
kept_or_new false old new = new
