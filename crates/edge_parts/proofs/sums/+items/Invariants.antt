use Rattle.cob_runs.specs.Computing.{items_in_parts, items_in_factors}
use Rattle.cob_edge_parts.specs.Parts.{item_reads}
use Rattle.edge_parts.specs.PartView.{plain_part}
use Rattle.edge_parts.proofs.SumLoops.{factors_from, products_from}
use Rattle.edge_parts.proofs.HandingLaws.{Leads}
use Rattle.edge_parts.proofs.sums.+items.Given as goal

abbrev pub invariant-push_reads_in_factors-loop-factor : goal.invariant-push_reads_in_factors-loop-factor
invariant-push_reads_in_factors-loop-factor l =
    Leads plain_part l.parts (item_reads (items_in_factors (factors_from l.factors l.factor-index))) l.initial.parts (item_reads (items_in_factors (factors_from l.factors 0)))

abbrev pub invariant-push_reads_in_products-loop-product : goal.invariant-push_reads_in_products-loop-product
invariant-push_reads_in_products-loop-product l =
    Leads plain_part l.parts (item_reads (items_in_parts (products_from l.products l.product-index))) l.initial.parts (item_reads (items_in_parts (products_from l.products 0)))
