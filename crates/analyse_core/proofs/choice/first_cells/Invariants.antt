use Rattle.std.proofs.Common.{◌≡◌, [], drop}
use Rattle.std.specs.List.{fold}
use Rattle.cob_program.specs.ActView.{plain_program}
use Rattle.analyse_core.specs.Choice.{noted_mention}
use Rattle.analyse_core.proofs.choice.first_cells.Given as goal

abbrev pub invariant-loop-mention : goal.invariant-loop-mention
invariant-loop-mention l =
    fold (noted_mention (plain_program l.program)) l.list.items (drop l.mention-index l.mentions) ≡ fold (noted_mention (plain_program l.program)) [] l.mentions
