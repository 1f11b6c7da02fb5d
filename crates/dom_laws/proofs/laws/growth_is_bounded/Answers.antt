use Rattle.dom_laws.proofs.Growth.{grows_within_height}
use Rattle.dom_laws.proofs.laws.growth_is_bounded.Goals as goal

pub returns : goal.returns
returns g c = grows_within_height (g.D.Domain.lattice c.args.domain.now) (g.met.D.Domain.ordered c.args.domain.now)
