use Rattle.std.proofs.Common.{drop}
use Rattle.cob_edge_parts.specs.Parts.{receivers_parts}
use Rattle.edge_parts.specs.PartView.{plain_part}
use Rattle.edge_parts.proofs.HandingLaws.{Leads}
use Rattle.edge_parts.proofs.moves.push_receivers.Given as goal

abbrev pub invariant-loop-place : goal.invariant-loop-place
invariant-loop-place l =
    Leads plain_part l.parts (receivers_parts l.layout l.from (drop l.place-index l.to)) l.initial.parts (receivers_parts l.layout l.from (l.to))
