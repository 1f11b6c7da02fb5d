use Rattle.std.proofs.Common.{Err, sym, ap, ◌∙◌}
use Rattle.reading.specs.Readers.{Stop}
use Rattle.cob_parse_expr.specs.LexemeClasses.{the}
use Rattle.cob_parse_expr.proofs.LexemeSteps.{signs_length}
use Rattle.cob_parse_expr.proofs.LeadLemmas.{on_a_line, on_no_line}
use Rattle.cob_parse_expr.proofs.word.line_of.Goals as goal

pub returns-then-is_word-clause-gives : goal.returns-then-is_word-clause-gives
returns-then-is_word-clause-gives c = on_a_line (the c.args.keyword) _ _ _ c.in-Some.ensures.some (sym c.is_word.ensures ∙ c.if-is_word.true)

pub returns-else-is_word-clause-gives : goal.returns-else-is_word-clause-gives
returns-else-is_word-clause-gives c = on_no_line (the c.args.keyword) _ _ _ c.in-Some.ensures.some (sym c.is_word.ensures ∙ c.if-is_word.false) ∙ ap (λ n. Err (Stop n)) (sym (signs_length c.args.lexemes.now))
