use Rattle.std.proofs.Common.{◌≡◌, ◌≤◌, length, subst}
use Rattle.std.proofs.lemmas.Result.{IfOk-weaker}
use Rattle.cob_program.specs.ActView.{plain_program}
use Rattle.cert_text.specs.View.{view}
use Rattle.cert_text.specs.Allowed.{IsAllowed}
use Rattle.cert_check.specs.Claims.{open_pairs}
use Rattle.cert_check.specs.Checking.{Accepts}
use Rattle.analyse_core.specs.Choice.{packs_of}
use Rattle.analyse_core.specs.Assignments.{MissesNothing, MissesNothingTogether}
use Rattle.analyse_core.specs.Found.{IsFound}
use Rattle.analyse_core.proofs.CellSizes.{cells_are}
use Rattle.analyse_core.proofs.Finding.{is_accepted, is_allowed, has_packs, has_pairs, misses_nothing, misses_nothing_together}
use Rattle.analyse_core.proofs.analysis.find.Goals as goal
use Rattle.cob_graph.specs.Limits.{most_cells}

pub returns-clause-allowed : goal.returns-clause-allowed
returns-clause-allowed g c =
    let p = plain_program c.args.program.now in
    let graph = c.args.graph.now in
    let source = c.requires.source in
    let few = subst (λ cs. length cs ≤ most_cells) (cells_are p graph source) c.requires.limits.cells in
    IfOk-weaker c.found_for.result (λ found. IsFound p graph (view found.cert) found.pairs.items) (λ found. IsAllowed (view found.cert))
    (λ found is. is_allowed p graph (view found.cert) found.pairs.items source is few c.requires.limits.nodes) c.found_for.ensures.found

pub returns-clause-packs : goal.returns-clause-packs
returns-clause-packs g c =
    let p = plain_program c.args.program.now in
    let graph = c.args.graph.now in
    IfOk-weaker c.found_for.result (λ found. IsFound p graph (view found.cert) found.pairs.items) (λ found. (view found.cert).packs ≡ packs_of p)
    (λ found is. has_packs p graph (view found.cert) found.pairs.items c.requires.source is) c.found_for.ensures.found

pub returns-clause-accepted : goal.returns-clause-accepted
returns-clause-accepted g c =
    let p = plain_program c.args.program.now in
    let graph = c.args.graph.now in
    let source = c.requires.source in
    let few = subst (λ cs. length cs ≤ most_cells) (cells_are p graph source) c.requires.limits.cells in
    IfOk-weaker c.found_for.result (λ found. IsFound p graph (view found.cert) found.pairs.items) (λ found. Accepts p graph (view found.cert) (open_pairs p graph (view found.cert)))
    (λ found is.
    is_accepted p graph (view found.cert) found.pairs.items source is (is_allowed p graph (view found.cert) found.pairs.items source is few c.requires.limits.nodes))
    c.found_for.ensures.found

pub returns-clause-complete : goal.returns-clause-complete
returns-clause-complete g c =
    let p = plain_program c.args.program.now in
    let graph = c.args.graph.now in
    IfOk-weaker c.found_for.result (λ found. IsFound p graph (view found.cert) found.pairs.items) (λ found. MissesNothing p graph (view found.cert))
    (λ found is. misses_nothing p graph (view found.cert) found.pairs.items c.requires.source is) c.found_for.ensures.found

pub returns-clause-together : goal.returns-clause-together
returns-clause-together g c =
    let p = plain_program c.args.program.now in
    let graph = c.args.graph.now in
    IfOk-weaker c.found_for.result (λ found. IsFound p graph (view found.cert) found.pairs.items) (λ found. MissesNothingTogether p graph (view found.cert))
    (λ found is. misses_nothing_together p graph (view found.cert) found.pairs.items c.requires.source is) c.found_for.ensures.found

pub returns-clause-pairs : goal.returns-clause-pairs
returns-clause-pairs g c =
    let p = plain_program c.args.program.now in
    let graph = c.args.graph.now in
    IfOk-weaker c.found_for.result (λ found. IsFound p graph (view found.cert) found.pairs.items)
    (λ found. found.pairs.items ≡ open_pairs p graph (view found.cert))
    (λ found is. has_pairs p graph (view found.cert) found.pairs.items c.requires.source is) c.found_for.ensures.found
