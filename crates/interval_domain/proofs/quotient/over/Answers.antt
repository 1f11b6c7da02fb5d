use Rattle.interval_domain.proofs.Quotients.{over_gives}
use Rattle.interval_domain.proofs.quotient.over.Goals as goal

pub returns-clause-least : goal.returns-clause-least
returns-clause-least c =
    over_gives c.args.n c.args.d c.args.scaling.up c.args.scaling.mode c.low_quotients.result c.high_quotients.result c.hull.result c.low_quotients.ensures.value c.high_quotients.ensures.value c.hull.ensures.ends c.requires.n.ordered c.requires.d.ordered c.requires.positive
