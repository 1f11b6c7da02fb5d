use Rattle.std.proofs.Common.{◌≡◌, ◌+◌, ◌-◌, ◌∙◌, sym, true, rules}
use Rattle.cob_program.specs.ActView.{plain_program}
use Rattle.cob_program.specs.Statements.{list_statements}
use Rattle.cob_runs.specs.Steps.{body_at}
use Rattle.cob_graph_build.specs.Sizes.{all_fit, range_fits}
use Rattle.cob_graph_build.specs.Tables.{is_in}
use Rattle.cob_graph_build.proofs.SizeLoops.{accepted, range_fits_step}
use Rattle.cob_graph_build.proofs.counting.range_fits.Goals as goal

pub loop-place-preserved : goal.loop-place-preserved
loop-place-preserved c =
    let p = plain_program c.args.program.now in
    let k = is_in c.args.table.now in
    let lo = c.args.lo in
    let hi = c.args.hi in
    let place = c.loop-place.place in
    let end = c.args.end in
    let fits : c.in_ok-fits.fits ≡ true = search rules in
    accepted (all_fit k lo hi (list_statements (body_at p place))) (range_fits k lo hi p place (end - place))
    (range_fits k lo hi p (place + 1) (end - (place + 1))) _
    (sym c.in_ok-fits.ensures ∙ fits)
    (range_fits_step k lo hi p place end c.loop-place-test.true) c.loop-place.invariant
