use Rattle.std.proofs.Common.{◌≡◌, drop, map}
use Rattle.std.specs.List.{fold}
use Rattle.cob_program.specs.ActView.{plain_program}
use Rattle.analyse_core.specs.Mentions.{lists_of}
use Rattle.analyse_core.specs.Choice.{cells_together, noted_pack, numbers_of}
use Rattle.analyse_core.proofs.choice.note_all.Given as goal

abbrev pub invariant-loop-mentions : goal.invariant-loop-mentions
invariant-loop-mentions l =
    fold noted_pack (numbers_of l.packs.items) (map (cells_together (plain_program l.program)) (lists_of (drop l.mentions-index l.lists)))
    ≡ fold noted_pack (numbers_of l.initial.packs.items) (map (cells_together (plain_program l.program)) (lists_of l.lists))
