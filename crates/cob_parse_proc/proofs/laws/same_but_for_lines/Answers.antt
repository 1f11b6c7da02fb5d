use Rattle.cob_parse_proc.proofs.LinesLaw.{same_but_for_lines}
use Rattle.cob_parse_proc.proofs.laws.same_but_for_lines.Goals as goal

pub returns : goal.returns
returns c = same_but_for_lines
