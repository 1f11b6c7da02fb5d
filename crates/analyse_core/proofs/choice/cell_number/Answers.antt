use Rattle.std.proofs.Common.{suc, ap, ◌∙◌}
use Rattle.std.specs.Option.{option_map}
use Rattle.cob_program.specs.ActView.{plain_program}
use Rattle.analyse_core.proofs.Chosen.{number_is_small}
use Rattle.analyse_core.proofs.choice.cell_number.Goals as goal

pub from_one-requires : goal.from_one-requires
from_one-requires c =
    number_is_small (plain_program c.args.program.now) c.args.cells.now c.args.place c.cell_of.result c.requires.cells c.requires.few
    (c.cell_of.ensures (plain_program c.args.program.now) c.requires.cells)

pub returns : goal.returns
returns c = c.from_one.ensures ∙ ap (option_map suc) (c.cell_of.ensures (plain_program c.args.program.now) c.requires.cells)
