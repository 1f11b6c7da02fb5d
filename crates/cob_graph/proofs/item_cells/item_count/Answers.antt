use Rattle.std.proofs.Common.{refl, rules}
use Rattle.std.specs.Prelude.{is_some}
use Rattle.std.proofs.lemmas.List.Sorted.{IsPartitionPoint-from_clause}
use Rattle.cob_runs.specs.declared.action.Cell.{Cell}
use Rattle.cob_graph.proofs.Rising.{cells_parted, point_is, each_item}
use Rattle.cob_graph.proofs.item_cells.item_count.Goals as goal

pub returns : goal.returns
returns c = λ p same.
    point_is is_some refl each_item c.args.cells.now c.partition_point.result c.partition_point.ensures.bound
    (IsPartitionPoint-from_clause (λ (x : Cell). is_some x.item) _ _ c.partition_point.ensures.partitioned
    (cells_parted is_some refl each_item p c.args.cells.now same) (λ a r q k. search rules))
