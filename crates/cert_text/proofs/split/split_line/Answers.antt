use Rattle.cert_text.proofs.Cuts.{splits_first, splits_none}
use Rattle.cert_text.proofs.split.split_line.Goals as goal

pub returns-in-None-clause-splits : goal.returns-in-None-clause-splits
returns-in-None-clause-splits c = splits_none c.args.bytes.now c.in-None.ensures

pub returns-in-Some-clause-splits : goal.returns-in-Some-clause-splits
returns-in-Some-clause-splits c = splits_first c.args.bytes.now c.in-Some.end c.in-Some.ensures.0 c.in-Some.ensures.1
