use Rattle.std.proofs.Common.{ap, map, arith}
use Rattle.std.proofs.lemmas.List.{drop_all}
use Rattle.cob_program.specs.Sum.{parts_of, factors_of}
use Rattle.cob_program.specs.SumView as sum
use Rattle.cob_edge_parts.specs.Parts.{divides, divisors_in_parts, divisors_in_factors}
use Rattle.edge_parts.specs.PartView.{plain_part}
use Rattle.edge_parts.proofs.SumLoops.{factor_divisors_first, product_divisors_first, own_divisors}
use Rattle.edge_parts.proofs.HandingLaws.{leads_on, leads_out, leads_past, both_of, stops_of}
use Rattle.edge_parts.proofs.sums.+divisors.Goals as goal

pub push_divisors_in_factors-loop-factor-preserved : goal.push_divisors_in_factors-loop-factor-preserved
push_divisors_in_factors-loop-factor-preserved t c =
    leads_on plain_part _ _ _ _ _ _ _ (factor_divisors_first c.args.factors.now c.loop-factor.factor-index c.factor-item.result c.loop-factor-test.true c.factor-item.is) c.loop-factor.invariant c.in_ok-push_divisors_in_factor.ensures

pub push_divisors_in_factors-returns-in_err-push_divisors_in_factor : goal.push_divisors_in_factors-returns-in_err-push_divisors_in_factor
push_divisors_in_factors-returns-in_err-push_divisors_in_factor t c =
    rw c.from_residual.ensures
    (leads_out plain_part _ _ _ _ _ _ _ (factor_divisors_first c.args.factors.now c.loop-factor.factor-index c.factor-item.result c.loop-factor-test.true c.factor-item.is) c.loop-factor.invariant c.in_err-push_divisors_in_factor.ensures)

pub push_divisors_in_factors-returns : goal.push_divisors_in_factors-returns
push_divisors_in_factors-returns t c =
    leads_past plain_part _ _ _ _ (ap (λ ys. divides (divisors_in_factors (factors_of (map sum.plain_factor ys)))) (drop_all c.loop-factor.factor-index c.args.factors.now (omega arith))) c.loop-factor.invariant

pub push_divisors_in_products-loop-product-preserved : goal.push_divisors_in_products-loop-product-preserved
push_divisors_in_products-loop-product-preserved t c =
    leads_on plain_part _ _ _ _ _ _ _ (product_divisors_first c.args.products.now c.loop-product.product-index c.product-item.result c.loop-product-test.true c.product-item.is) c.loop-product.invariant c.in_ok-push_divisors_in_product.ensures

pub push_divisors_in_products-returns-in_err-push_divisors_in_product : goal.push_divisors_in_products-returns-in_err-push_divisors_in_product
push_divisors_in_products-returns-in_err-push_divisors_in_product t c =
    rw c.from_residual.ensures
    (leads_out plain_part _ _ _ _ _ _ _ (product_divisors_first c.args.products.now c.loop-product.product-index c.product-item.result c.loop-product-test.true c.product-item.is) c.loop-product.invariant c.in_err-push_divisors_in_product.ensures)

pub push_divisors_in_products-returns : goal.push_divisors_in_products-returns
push_divisors_in_products-returns t c =
    leads_past plain_part _ _ _ _ (ap (λ ys. divides (divisors_in_parts (parts_of (map sum.plain_part ys)))) (drop_all c.loop-product.product-index c.args.products.now (omega arith))) c.loop-product.invariant

pub push_divisors_in_factor-returns-in_err-push_divisors_in_atom : goal.push_divisors_in_factor-returns-in_err-push_divisors_in_atom
push_divisors_in_factor-returns-in_err-push_divisors_in_atom t c =
    rw c.from_residual.ensures
    (stops_of plain_part _ _ _ _ _ (own_divisors c.args.factor.now) c.in_err-push_divisors_in_atom.ensures)

pub push_divisors_in_factor-returns : goal.push_divisors_in_factor-returns
push_divisors_in_factor-returns t c =
    both_of plain_part _ _ _ _ _ _ _ (own_divisors c.args.factor.now)
    c.in_ok-push_divisors_in_atom.ensures c.push_divisor_if.ensures
