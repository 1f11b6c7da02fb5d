use Rattle.std.proofs.Common.{drop}
use Rattle.cob_program.specs.SumView.{plain_sum}
use Rattle.cob_edge_parts.specs.Parts.{targets_parts}
use Rattle.edge_parts.specs.PartView.{plain_part}
use Rattle.edge_parts.proofs.HandingLaws.{Leads}
use Rattle.edge_parts.proofs.arithmetic.push_targets.Given as goal

abbrev pub invariant-loop-target : goal.invariant-loop-target
invariant-loop-target l =
    Leads plain_part l.parts (targets_parts (plain_sum l.common) (drop l.target-index l.targets)) l.initial.parts (targets_parts (plain_sum l.common) (l.targets))
