use Rattle.std.proofs.Common.{◌≡◌, subst, arith, to_z, of_z}
use Rattle.std.specs.Prelude.{IfSome}
use Rattle.std.specs.Int.{w32}
use Rattle.std.proofs.lemmas.Int.{ints}
use Rattle.interval_domain.specs.Results.{IsQuotient, IsLeastCapped}
use Rattle.interval_domain.proofs.Quotients.{quotient_from, no_quotient_from}
use Rattle.interval_domain.proofs.quotient.quot_i.Goals as goal

pub returns-clause-none : goal.returns-clause-none
returns-clause-none c =
    no_quotient_from c.args.d c.negative-2.result c.over_positive-above.result c.over_positive-below.result c.either.result c.negative-2.ensures.value c.over_positive-above.ensures.none c.over_positive-below.ensures.none c.either.ensures.value c.requires.d.ordered

pub returns-clause-least : goal.returns-clause-least
returns-clause-least c =
    let up = to_z w32 (of_z w32 c.args.up) in
    let same : up ≡ c.args.up = omega (arith, ints) in
    subst (λ u. IfSome c.either.result (λ i. IsLeastCapped (IsQuotient c.args.n c.args.d u c.args.mode) i)) same
    (quotient_from c.args.n c.args.d c.negative.result c.negative-2.result up c.args.mode c.over_positive-above.result c.over_positive-below.result c.either.result c.negative.ensures.value c.negative-2.ensures.value c.over_positive-above.ensures.none c.over_positive-above.ensures.least c.over_positive-below.ensures.none c.over_positive-below.ensures.least c.either.ensures.value)
