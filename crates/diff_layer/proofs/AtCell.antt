-- The cell of a receiver gets what is stored at a place.
use Rattle.std.proofs.Common.{◌≡◌, ℕ, List, ℤ, Option, Some, None, refl}
use Rattle.dec_num.specs.declared.types.Mode.{Mode}
use Rattle.cob_program.specs.Act.{Act, Program}
use Rattle.cob_runs.specs.declared.action.Action.{Action}
use Rattle.cob_runs.specs.Contents.{form_at}
use Rattle.cob_edge_parts.specs.Parts.{Amount}
use Rattle.diff_bounds.specs.declared.form.lin.Lin.{Lin}
use Rattle.transfer_ranges.specs.Receivers.{receiver_of}
use Rattle.cob_graph.specs.declared.homes.Home.TheVariants.{Item as of_item}
use Rattle.cell_steps.specs.Seen.{Seen}
use Rattle.cell_steps.specs.Stores.{amount_at}
use Rattle.diff_steps.specs.Packs.{Pack, size_of, unit_of}
use Rattle.diff_steps.specs.Steps.{form_at_cell}
use Rattle.diff_layer.specs.Receiving.{stored_at}

pub at_cell : (p : Program) (a : Act) (x : Action) (t : Seen) (place : ℕ) (mode : Mode) (y : Amount) (pack : Pack) (to : ℕ) (form : Option Lin) (m : List ℤ)
    → stored_at (size_of pack) to (receiver_of (form_at p.layout place)) mode (unit_of p.layout pack (of_item place)) (amount_at p a x t place y) form m
    ≡ form_at_cell p a x t place mode y pack to form m
at_cell p a x t place mode y pack to None m = refl
at_cell p a x t place mode y pack to (Some form) m = refl
