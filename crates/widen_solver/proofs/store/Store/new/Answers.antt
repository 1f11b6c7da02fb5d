use Rattle.std.proofs.Common.{◌∙◌, ap, length, None}
use Rattle.std.proofs.lemmas.List.{length-replicate}
use Rattle.widen_solver.proofs.ShownRows.{shown_count}
use Rattle.widen_solver.proofs.store.Store.new.Goals as goal

pub returns-clause-nodes : goal.returns-clause-nodes
returns-clause-nodes c = shown_count c.in_ok-rows.rows ∙ ap length c.in_ok-rows.ensures.rows ∙ length-replicate c.args.nodes None
