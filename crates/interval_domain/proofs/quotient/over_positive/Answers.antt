use Rattle.std.proofs.Common.{subst}
use Rattle.interval_domain.specs.Results.{IsQuotient, IsLeastCapped}
use Rattle.interval_domain.proofs.quotient.over_positive.Goals as goal

pub returns-clause-least : goal.returns-clause-least
returns-clause-least c =
    subst (λ d. IsLeastCapped (IsQuotient c.args.n d c.args.scaling.up c.args.scaling.mode) c.over.result) c.without_zero.ensures.value c.over.ensures.least
