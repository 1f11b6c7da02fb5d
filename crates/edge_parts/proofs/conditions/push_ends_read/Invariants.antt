use Rattle.std.proofs.Common.{drop}
use Rattle.cob_edge_parts.specs.Parts.{end_reads}
use Rattle.edge_parts.specs.PartView.{plain_part}
use Rattle.edge_parts.proofs.HandingLaws.{Leads}
use Rattle.edge_parts.proofs.conditions.push_ends_read.Given as goal

abbrev pub invariant-loop-pair : goal.invariant-loop-pair
invariant-loop-pair l =
    Leads plain_part l.parts (end_reads l.layout (drop l.pair-index l.pairs)) l.initial.parts (end_reads l.layout (l.pairs))
