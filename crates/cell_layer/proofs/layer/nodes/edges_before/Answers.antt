use Rattle.std.proofs.Common.{ltb, ltb-true, ltb-false, arith, rules}
use Rattle.std.proofs.lemmas.List.Sorted.{IsPartitionPoint-from_clause, IsPartitionedBy-ltb}
use Rattle.cob_graph.specs.declared.graph.Edge.{Edge}
use Rattle.cell_layer.proofs.layer.nodes.edges_before.Goals as goal

pub returns-clause-before : goal.returns-clause-before
returns-clause-before c =
    let parted = IsPartitionedBy-ltb (λ (x : Edge). x.from) _ c.args.node c.requires in
    let point = IsPartitionPoint-from_clause (λ (x : Edge). ltb x.from c.args.node) _ _ c.partition_point.ensures.partitioned parted (λ a r q k. search rules) in
    λ k d h. ltb-true _ _ (point.0 k d (omega arith) h)

pub returns-clause-behind : goal.returns-clause-behind
returns-clause-behind c =
    let parted = IsPartitionedBy-ltb (λ (x : Edge). x.from) _ c.args.node c.requires in
    let point = IsPartitionPoint-from_clause (λ (x : Edge). ltb x.from c.args.node) _ _ c.partition_point.ensures.partitioned parted (λ a r q k. search rules) in
    λ k d h within. ltb-false _ _ (point.1 k d h within)
