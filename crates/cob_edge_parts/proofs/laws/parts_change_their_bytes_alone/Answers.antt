use Rattle.cob_edge_parts.proofs.Frames.{ranges_change_alone, occurrences_change_alone}
use Rattle.cob_edge_parts.proofs.laws.parts_change_their_bytes_alone.Goals as goal

pub returns-clause-ranges : goal.returns-clause-ranges
returns-clause-ranges c = ranges_change_alone

pub returns-clause-occurrences : goal.returns-clause-occurrences
returns-clause-occurrences c = occurrences_change_alone
