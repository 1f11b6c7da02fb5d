use Rattle.cob_interp.proofs.ClosingHandles.{refused_on}
use Rattle.cob_interp.proofs.runs.give_up.Goals as goal

pub returns-clause-runs : goal.returns-clause-runs
returns-clause-runs g c p paths budget start sink runs =
    refused_on p paths budget start sink _ _ c.close_all.ensures.same c.args.ending.end c.requires.refused
    c.close_all.result c.close_all.ensures.counts runs
