use Rattle.std.proofs.Common.{◌≡◌, ◌∙◌, arith, to_z, of_z}
use Rattle.std.specs.Int.{w128}
use Rattle.std.proofs.lemmas.Int.{ints}
use Rattle.interval_domain.specs.Results.{capped}
use Rattle.interval_domain.specs.Corners.{quotient}
use Rattle.interval_domain.proofs.Quotients.{span_from, capped_from}
use Rattle.interval_domain.proofs.quotient.high_quotients.Goals as goal

pub returns-clause-value : goal.returns-clause-value
returns-clause-value c =
    let up = c.args.scaling.up in
    let mode = c.args.scaling.mode in
    let n = c.args.n.high in
    let low = c.args.d.low in
    let high = c.args.d.high in
    let first = capped_from up mode c.end_of.result (to_z w128 (of_z w128 n)) (to_z w128 (of_z w128 low)) n low c.end_of.ensures.value (omega (arith, ints)) (omega (arith, ints)) in
    let last = capped_from up mode c.end_of-2.result (to_z w128 (of_z w128 n)) (to_z w128 (of_z w128 high)) n high c.end_of-2.ensures.value (omega (arith, ints)) (omega (arith, ints)) in
    let is_first : to_z w128 (of_z w128 c.end_of.result) ≡ c.end_of.result = omega (arith, ints) in
    let is_last : to_z w128 (of_z w128 c.end_of-2.result) ≡ c.end_of-2.result = omega (arith, ints) in
    span_from c.between.result (to_z w128 (of_z w128 c.end_of.result)) (to_z w128 (of_z w128 c.end_of-2.result)) (capped (quotient up mode n low)) (capped (quotient up mode n high)) c.between.ensures.value (is_first ∙ first) (is_last ∙ last)
