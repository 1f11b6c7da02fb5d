use Rattle.std.proofs.Common.{refl, rules}
use Rattle.std.proofs.lemmas.List.Sorted.{IsPartitionPoint-from_clause}
use Rattle.cob_runs.specs.declared.action.Cell.{Cell}
use Rattle.cob_graph.specs.Numbers.{is_lower}
use Rattle.cob_graph.proofs.Rising.{cells_parted, point_is, lower_place}
use Rattle.cob_graph.proofs.item_cells.lower_cells.Goals as goal

pub returns : goal.returns
returns c = λ p same.
    let test = is_lower c.args.place in
    point_is test refl (lower_place c.args.place) c.args.cells.now c.partition_point.result c.partition_point.ensures.bound
    (IsPartitionPoint-from_clause (λ (x : Cell). test x.item) _ _ c.partition_point.ensures.partitioned
    (cells_parted test refl (lower_place c.args.place) p c.args.cells.now same) (λ a r q k. search rules))
