use Rattle.std.proofs.Common.{sym, ap, ◌∙◌}
use Rattle.cob_tree.specs.CondView.{plain_cond}
use Rattle.cob_tree.specs.Cues.{NotRelates}
use Rattle.cob_tree.specs.ExprView.{plain_expr}
use Rattle.cob_tree.specs.Stmt.{Sel}
use Rattle.cob_tree.specs.Takes.{takes_sel}
use Rattle.cob_parse_expr.specs.Steps.{signs}
use Rattle.cob_parse_expr.proofs.CondLemmas.{no_not}
use Rattle.cob_parse_verb.proofs.VerbLemmas.{sel_high, sel_high_fails}
use Rattle.cob_parse_verb.proofs.select.sel_behind.Goals as goal

pub returns-in-Err-expr_in-clause-gives : goal.returns-in-Err-expr_in-clause-gives
returns-in-Err-expr_in-clause-gives c = sel_high_fails c.in-Err-expr_in.halt c.args.room (signs c.args.lexemes.now) (signs c.in-Some.rest.now) (plain_cond c.args.cond) (plain_expr c.in-Ok.low) c.in-Some.ensures.found c.in-Ok.ensures.alone c.in-Err-expr_in.ensures.gives

pub returns-in-Ok-expr_in-clause-gives : goal.returns-in-Ok-expr_in-clause-gives
returns-in-Ok-expr_in-clause-gives c = sel_high c.args.room (signs c.args.lexemes.now) (signs c.in-Some.rest.now) (signs c.in-Ok-expr_in.given.1.now) (plain_cond c.args.cond) (plain_expr c.in-Ok.low) (plain_expr c.in-Ok-expr_in.given.0) _ c.in-Some.ensures.found c.in-Ok.ensures.alone c.in-Ok-expr_in.ensures.gives c.range.ensures

pub returns-in-Ok-expr_in-clause-takes : goal.returns-in-Ok-expr_in-clause-takes
returns-in-Ok-expr_in-clause-takes c = sym (ap (λ (s : Sel). takes_sel s NotRelates) c.range.ensures ∙ no_not (plain_expr c.in-Ok-expr_in.given.0))
