use Rattle.std.proofs.Common.{Option, None, sym, ap, ◌∙◌}
use Rattle.cob_tree.specs.Expr.{Expr, Fact, MkFact, group}
use Rattle.cob_tree.specs.ExprView.{plain_expr, plain_fact}
use Rattle.cob_tree.specs.Cond.{Simple, parenthesised}
use Rattle.cob_tree.specs.CondView.{plain_cond, plain_simple}
use Rattle.cob_tree.specs.PrintExpr.{one_alone}
use Rattle.reading.proofs.Results.{done, ok_is}
use Rattle.cob_parse_expr.specs.Steps.{signs}
use Rattle.cob_parse_expr.proofs.LexemeSteps.{gives_as}
use Rattle.cob_parse_expr.specs.Reading.{inner_at}
use Rattle.cob_parse_expr.specs.CondSteps.{subject_after, subject_behind}
use Rattle.cob_parse_expr.proofs.StepLemmas.{memory_alone}
use Rattle.cob_parse_expr.proofs.cond.subject_after.Goals as goal

pub returns-in-Err-grouped-clause-gives : goal.returns-in-Err-grouped-clause-gives
returns-in-Err-grouped-clause-gives c = memory_alone c.in-Err-grouped.halt (MkFact None (group (plain_expr c.in-Ok.expr))) (subject_after (inner_at c.args.room) (plain_cond c.args.cond) (one_alone (plain_cond c.args.cond)) (signs c.args.lexemes.now)) c.in-Err-grouped.ensures

pub returns-in-Err-parenthesised-clause-gives : goal.returns-in-Err-parenthesised-clause-gives
returns-in-Err-parenthesised-clause-gives c = memory_alone c.in-Err-parenthesised.halt (parenthesised (plain_cond c.in-Err.cond)) (subject_after (inner_at c.args.room) (plain_cond c.args.cond) (one_alone (plain_cond c.args.cond)) (signs c.args.lexemes.now)) c.in-Err-parenthesised.ensures.simple

pub returns-in-Ok-grouped-clause-gives : goal.returns-in-Ok-grouped-clause-gives
returns-in-Ok-grouped-clause-gives c = gives_as _ c.subject_behind.result _ _
    (ap (λ (o : Option Expr). subject_after (inner_at c.args.room) (plain_cond c.args.cond) o (signs c.args.lexemes.now)) c.in-Ok.ensures.alone
    ∙ ap (λ (f : Fact). subject_behind (inner_at c.args.room) f (signs c.args.lexemes.now)) (ok_is (MkFact None (group (plain_expr c.in-Ok.expr))) (plain_fact c.in-Ok-grouped.given) c.in-Ok-grouped.ensures)) c.subject_behind.ensures.gives

pub returns-in-Ok-grouped-clause-takes : goal.returns-in-Ok-grouped-clause-takes
returns-in-Ok-grouped-clause-takes c = c.subject_behind.ensures.takes

pub returns-in-Ok-grouped-clause-rest : goal.returns-in-Ok-grouped-clause-rest
returns-in-Ok-grouped-clause-rest c = c.subject_behind.ensures.rest

pub returns-in-Ok-parenthesised-clause-gives : goal.returns-in-Ok-parenthesised-clause-gives
returns-in-Ok-parenthesised-clause-gives c =
    ap (λ (o : Option Expr). subject_after (inner_at c.args.room) (plain_cond c.args.cond) o (signs c.args.lexemes.now)) c.in-Err.ensures.other
    ∙ ap (λ (s : Simple). done (s, signs c.args.lexemes.now)) (sym (ap parenthesised c.in-Err.ensures.same) ∙ ok_is (parenthesised (plain_cond c.in-Err.cond)) (plain_simple c.in-Ok-parenthesised.given) c.in-Ok-parenthesised.ensures.simple)

pub returns-in-Ok-parenthesised-clause-takes : goal.returns-in-Ok-parenthesised-clause-takes
returns-in-Ok-parenthesised-clause-takes c = sym c.in-Ok-parenthesised.ensures.ends
