use Rattle.std.proofs.Common.{sym, ◌∙◌}
use Rattle.cob_parse_expr.specs.Steps.{signs}
use Rattle.cob_parse_expr.proofs.LexemeSteps.{gives_as}
use Rattle.cob_parse_verb.proofs.VerbLemmas.{named_counted, named_ranged}
use Rattle.cob_parse_verb.proofs.perform.named_in.Goals as goal

pub returns-then-counts-clause-gives : goal.returns-then-counts-clause-gives
returns-then-counts-clause-gives c = gives_as _ c.counted_in.result _ _
    (named_counted c.args.room (signs c.args.lexemes.now) (signs c.in-Ok.given.1.now) c.in-Ok.given.0 c.in-Ok.ensures.gives (sym c.name_goes_on.ensures ∙ c.if-not-name_goes_on.false) (sym c.counts.ensures ∙ c.if-counts.true)) c.counted_in.ensures.gives

pub returns-else-counts-clause-gives : goal.returns-else-counts-clause-gives
returns-else-counts-clause-gives c = gives_as _ c.ranged_in.result _ _
    (named_ranged c.args.room (signs c.args.lexemes.now) (signs c.in-Ok.given.1.now) c.in-Ok.given.0 c.in-Ok.ensures.gives (sym c.name_goes_on.ensures ∙ c.if-not-name_goes_on.false) (sym c.counts.ensures ∙ c.if-counts.false)) c.ranged_in.ensures.gives
