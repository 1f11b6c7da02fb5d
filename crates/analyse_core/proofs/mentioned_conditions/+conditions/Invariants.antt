use Rattle.std.proofs.Common.{◌≡◌, ◌++◌, drop}
use Rattle.cob_program.specs.LogicView.{plain_logics}
use Rattle.analyse_core.specs.Mentions.{logics_mentions}
use Rattle.analyse_core.proofs.mentioned_conditions.+conditions.Given as goal

abbrev pub invariant-add_logics-loop-part : goal.invariant-add_logics-loop-part
invariant-add_logics-loop-part l =
    l.mentions.items ++ logics_mentions (plain_logics (drop l.part-index l.parts))
    ≡ l.initial.mentions.items ++ logics_mentions (plain_logics (drop 0 l.parts))
