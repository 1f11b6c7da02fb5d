use Rattle.std.proofs.Common.{◌≡◌, ◌++◌, map, drop}
use Rattle.cob_program.specs.SumView.{plain_factor}
use Rattle.cob_program.specs.SumView.{plain_part}
use Rattle.cob_program.specs.Sum.{factors_of}
use Rattle.cob_program.specs.Sum.{parts_of}
use Rattle.analyse_core.specs.Mentions.{factors_mentions, parts_mentions}
use Rattle.analyse_core.proofs.mentioned_sums.+sums.Given as goal

abbrev pub invariant-add_factors-loop-factor : goal.invariant-add_factors-loop-factor
invariant-add_factors-loop-factor l =
    l.mentions.items ++ factors_mentions (factors_of (map plain_factor (drop l.factor-index l.factors)))
    ≡ l.initial.mentions.items ++ factors_mentions (factors_of (map plain_factor (drop 0 l.factors)))

abbrev pub invariant-add_parts-loop-part : goal.invariant-add_parts-loop-part
invariant-add_parts-loop-part l =
    l.mentions.items ++ parts_mentions (parts_of (map plain_part (drop l.part-index l.parts)))
    ≡ l.initial.mentions.items ++ parts_mentions (parts_of (map plain_part (drop 0 l.parts)))
