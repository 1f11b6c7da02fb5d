-- A pack as the code has it, and what is seen where operands are taken.
use Rattle.std.specs.Prelude.{◌≡◌, ℕ, true, false, List, Option}
use Rattle.cob_data.specs.declared.layout.Layout.{Layout}
use Rattle.cob_program.specs.Act.{Program}
use Rattle.cob_program.specs.ActView.{plain_program}
use Rattle.transfer_ranges.specs.declared.amounts.Taken.{Taken}
use Rattle.interval_domain.specs.Known.{Known}
use Rattle.interval_domain.specs.Rows.{cells_of}
use Rattle.cob_graph.specs.declared.homes.Home.TheVariants.{Item as of_item}
use Rattle.cell_steps.specs.Seen.{Seen}
use Rattle.cell_layer.specs.declared.row.items.KnownItems.{KnownItems}
use Rattle.diff_steps.specs.Packs.{Pack, cell_of, pack_decimals}
use Rattle.diff_layer.specs.declared.forms.view.PackView.{PackView}

abbrev pub plain_pack : PackView → Pack
plain_pack pack = pack.cells.now

-- the pack's unit is that of its finest cell
abbrev pub HasUnit : Layout → PackView → Type 0
HasUnit l pack = pack.decimals ≡ pack_decimals l (plain_pack pack)

-- the cell of an item in the pack
abbrev pub item_cell : PackView → ℕ → Option ℕ
item_cell pack place = cell_of (plain_pack pack) (of_item place)

-- ---- what a row tells

abbrev pub program_of : KnownItems → Program
program_of items = plain_program items.program.now

abbrev pub known_in : KnownItems → List Known
known_in items = cells_of items.row.now

-- what is seen where operands are taken, by what is known of cells and by what the operands were
abbrev pub taken_at : List Known → Option Taken → Seen
taken_at cells common = record { cells = cells; written = true; common = common; may_zero = false; any_fail = false }
