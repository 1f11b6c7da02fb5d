use Rattle.cob_program.specs.ActView.{plain_act}
use Rattle.cob_interp.proofs.NodeLemmas.{plain_leads}
use Rattle.cob_interp.proofs.Placing.{plain_places}
use Rattle.cob_interp.proofs.Failing.{part_fine}
use Rattle.cob_interp.proofs.FitLemmas.{part_on}
use Rattle.cob_interp.proofs.nodes.do_plain.Goals as goal

pub returns-clause-leads : goal.returns-clause-leads
returns-clause-leads c now node budget is =
    plain_leads c.args.setting.now budget c.args.place.now c.args.step node now _ _ c.requires.ready.distinct is
    c.requires.plain _ c.do_part.ensures.does

pub returns-clause-places : goal.returns-clause-places
returns-clause-places c =
    plain_places c.args.setting.now c.args.place.now c.args.step _ _ (plain_act c.args.place.now.statement.now.act.now)
    c.requires.place.statement.its _ c.do_part.ensures.does c.requires.plain

pub returns-clause-fine : goal.returns-clause-fine
returns-clause-fine c = part_fine c.args.setting.now c.args.place.now c.args.step _ _ _ c.do_part.ensures.does

pub returns-clause-on : goal.returns-clause-on
returns-clause-on c = part_on c.args.setting.now c.args.place.now c.args.step _ _ _ c.do_part.ensures.does
