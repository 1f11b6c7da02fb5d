use Rattle.cob_edge_parts.specs.Parts.{divides, divisors_in_parts, divisors_in_factors}
use Rattle.edge_parts.specs.PartView.{plain_part}
use Rattle.edge_parts.proofs.SumLoops.{factors_from, products_from}
use Rattle.edge_parts.proofs.HandingLaws.{Leads}
use Rattle.edge_parts.proofs.sums.+divisors.Given as goal

abbrev pub invariant-push_divisors_in_factors-loop-factor : goal.invariant-push_divisors_in_factors-loop-factor
invariant-push_divisors_in_factors-loop-factor l =
    Leads plain_part l.parts (divides (divisors_in_factors (factors_from l.factors l.factor-index))) l.initial.parts (divides (divisors_in_factors (factors_from l.factors 0)))

abbrev pub invariant-push_divisors_in_products-loop-product : goal.invariant-push_divisors_in_products-loop-product
invariant-push_divisors_in_products-loop-product l =
    Leads plain_part l.parts (divides (divisors_in_parts (products_from l.products l.product-index))) l.initial.parts (divides (divisors_in_parts (products_from l.products 0)))
