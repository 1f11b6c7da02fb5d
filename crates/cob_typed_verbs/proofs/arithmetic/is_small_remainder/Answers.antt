use Rattle.std.proofs.Common.{◌≡◌, ◌<◌, ◌∙◌, ap, arith}
use Rattle.cob_typed_exprs.specs.Sizes.{plain_size}
use Rattle.cob_typed_verbs.proofs.WorkLemmas.{long, no_quotient, no_product, all_known}
use Rattle.cob_typed_verbs.proofs.arithmetic.is_small_remainder.Goals as goal

pub returns-then-n-gt37 : goal.returns-then-n-gt37
returns-then-n-gt37 c = λ above below na db.
    let same : c.args.n.scale ≡ above.scale = ap (λ b. b.scale) na in
    let far : 37 < above.scale = omega (arith, c.if-n-gt37.true, same) in
    long (plain_size c.args.n) (plain_size c.args.d) above below c.args.scale far

pub returns-in-None : goal.returns-in-None
returns-in-None c = λ above below na db. no_quotient (plain_size c.args.n) (plain_size c.args.d) above below c.args.scale na db c.in-None.ensures

pub returns-in-None-by : goal.returns-in-None-by
returns-in-None-by c = λ above below na db.
    no_product (plain_size c.args.n) (plain_size c.args.d) above below c.args.scale na db (plain_size c.in-Some.quotient) c.in-Some.ensures c.in-None-by.ensures

pub returns-in-Some-by : goal.returns-in-Some-by
returns-in-Some-by c = λ above below na db.
    c.is_some.ensures
    ∙ all_known (plain_size c.args.n) (plain_size c.args.d) above below c.args.scale na db (plain_size c.in-Some.quotient) (plain_size c.in-Some-by.product) c.plus.result c.in-Some.ensures c.in-Some-by.ensures c.plus.ensures
