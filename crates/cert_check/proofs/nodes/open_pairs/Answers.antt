use Rattle.cob_program.specs.ActView.{plain_program}
use Rattle.cert_check.specs.Assignments.{clears}
use Rattle.std.specs.Prelude.{IfOk}
use Rattle.std.proofs.lemmas.Result.{IfOk-weaker}
use Rattle.cert_check.proofs.nodes.open_pairs.Goals as goal

pub pairs_by-requires-clause-rows : goal.pairs_by-requires-clause-rows
pairs_by-requires-clause-rows g c = c.requires.inductive.elements

pub returns : goal.returns
returns g c =
    IfOk-weaker c.pairs_by.result _ _
    (λ pairs are. λ packs a tell. are (clears (plain_program c.args.program.now) c.args.graph.now packs a) tell) c.pairs_by.ensures
