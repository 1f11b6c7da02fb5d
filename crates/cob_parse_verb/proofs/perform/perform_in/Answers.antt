use Rattle.std.proofs.Common.{sym, ◌∙◌}
use Rattle.cob_parse_expr.specs.Steps.{signs}
use Rattle.cob_parse_expr.proofs.LexemeSteps.{gives_as}
use Rattle.cob_parse_verb.proofs.VerbLemmas.{performed_named, performed_unnamed}
use Rattle.cob_parse_verb.proofs.perform.perform_in.Goals as goal

pub returns-then-begins_name-clause-gives : goal.returns-then-begins_name-clause-gives
returns-then-begins_name-clause-gives c = gives_as _ c.named_in.result _ _
    (performed_named c.args.room (signs c.args.lexemes.now) (sym c.loop_begins.ensures ∙ c.if-not-loop_begins.false) (sym c.begins_name.ensures ∙ c.if-begins_name.true)) c.named_in.ensures.gives

pub returns-else-begins_name-clause-gives : goal.returns-else-begins_name-clause-gives
returns-else-begins_name-clause-gives c = gives_as _ c.unnamed_in.result _ _
    (performed_unnamed c.args.room (signs c.args.lexemes.now) (sym c.loop_begins.ensures ∙ c.if-not-loop_begins.false) (sym c.begins_name.ensures ∙ c.if-begins_name.false)) c.unnamed_in.ensures.gives
