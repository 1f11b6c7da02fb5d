use Rattle.cob_tree.specs.CondView.{plain_cond}
use Rattle.cob_parse_expr.specs.Steps.{signs}
use Rattle.cob_parse_expr.proofs.LexemeSteps.{gives_as}
use Rattle.cob_parse_verb.proofs.VerbLemmas.{sel_on_cond}
use Rattle.cob_parse_verb.proofs.select.sel_in.Goals as goal

pub returns-clause-gives : goal.returns-clause-gives
returns-clause-gives c = gives_as _ c.sel_behind.result _ _
    (sel_on_cond c.args.room (signs c.args.lexemes.now) (signs c.in-Ok.given.2.now) (plain_cond c.in-Ok.given.0) c.in_default.ensures.none c.in-Ok.ensures.gives) c.sel_behind.ensures.gives
