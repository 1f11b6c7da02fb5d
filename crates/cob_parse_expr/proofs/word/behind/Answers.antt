use Rattle.std.proofs.Common.{sym, ◌∙◌}
use Rattle.cob_parse_expr.specs.LexemeClasses.{the}
use Rattle.cob_parse_expr.proofs.LeadLemmas.{leads, lacks, cut, uncut}
use Rattle.cob_parse_expr.proofs.word.behind.Goals as goal

pub returns-then-is_word-clause-found : goal.returns-then-is_word-clause-found
returns-then-is_word-clause-found c = leads (the c.args.keyword) _ _ _ c.in-Some.ensures.some (sym c.is_word.ensures ∙ c.if-is_word.true)

pub returns-then-is_word-clause-cut : goal.returns-then-is_word-clause-cut
returns-then-is_word-clause-cut c = cut (the c.args.keyword) _ _ _ c.in-Some.ensures.some (sym c.is_word.ensures ∙ c.if-is_word.true)

pub returns-else-is_word-clause-none : goal.returns-else-is_word-clause-none
returns-else-is_word-clause-none c = lacks (the c.args.keyword) _ _ _ c.in-Some.ensures.some (sym c.is_word.ensures ∙ c.if-is_word.false)

pub returns-else-is_word-clause-cut : goal.returns-else-is_word-clause-cut
returns-else-is_word-clause-cut c = uncut (the c.args.keyword) _ _ _ c.in-Some.ensures.some (sym c.is_word.ensures ∙ c.if-is_word.false)
