use Rattle.std.proofs.Common.{◌≡◌, ◌∷◌, []}
use Rattle.cob_runs.specs.Computing.{items_in_parts, items_in_factors}
use Rattle.edge_parts.proofs.SumLoops.{factors_from, products_from}
use Rattle.diff_layer.specs.PackWriting.{are_written}
use Rattle.diff_layer.proofs.forms.writing.+written.Given as goal

abbrev pub invariant-are_of_factors-loop-factor : goal.invariant-are_of_factors-loop-factor
invariant-are_of_factors-loop-factor l =
    are_written l.layout (l.extent ∷ []) (items_in_factors (factors_from l.factors l.factor-index))
    ≡ are_written l.layout (l.extent ∷ []) (items_in_factors (factors_from l.factors 0))

abbrev pub invariant-are_of_products-loop-product : goal.invariant-are_of_products-loop-product
invariant-are_of_products-loop-product l =
    are_written l.layout (l.extent ∷ []) (items_in_parts (products_from l.products l.product-index))
    ≡ are_written l.layout (l.extent ∷ []) (items_in_parts (products_from l.products 0))
