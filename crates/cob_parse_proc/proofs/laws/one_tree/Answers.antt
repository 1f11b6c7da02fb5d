use Rattle.cob_parse_proc.proofs.ProgramOnce.{one_printing}
use Rattle.cob_parse_proc.proofs.laws.one_tree.Goals as goal

pub returns : goal.returns
returns c = one_printing
