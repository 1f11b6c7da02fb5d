use Rattle.std.proofs.Common.{List, ℤ, ap, ◌∙◌}
use Rattle.cob_tree.specs.Kinds.{kinds_of}
use Rattle.interval_domain.specs.Rows.{cells_of}
use Rattle.cell_steps.specs.Seen.{Seen, beginning}
use Rattle.cell_layer.specs.Walks.{clears_all_small}
use Rattle.cell_layer.specs.Works.{program_of, act_of, parts_in}
use Rattle.cell_layer.proofs.Walking.{small_listed, clears_is}
use Rattle.cell_layer.proofs.layer.edges.cleared_by_edge.Goals as goal

pub parts_cleared-requires-clause-small : goal.parts_cleared-requires-clause-small
parts_cleared-requires-clause-small c = small_listed c.args.work.now (cells_of c.args.row.now) c.requires.can.small

pub returns : goal.returns
returns c =
    let w = c.args.work.now in
    clears_is w (cells_of c.args.row.now) c.requires.can.small c.parts_cleared.result
    (c.parts_cleared.ensures
    ∙ ap (λ (s : Seen). kinds_of (clears_all_small (program_of w) (act_of w) w.action (parts_in w) s))
    (c.new.ensures.begins c.copy_from_slice.new.self ∙ ap (λ (r : List ℤ). beginning (cells_of r)) c.copy_from_slice.ensures.after))
