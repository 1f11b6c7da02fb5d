use Rattle.std.proofs.Common.{sym, ◌∙◌}
use Rattle.std.proofs.lemmas.Bool.{eqb-true, eqb-false}
use Rattle.cob_tree.specs.StmtView.{plain_tree}
use Rattle.cob_parse_expr.specs.Steps.{signs}
use Rattle.cob_parse_proc.proofs.ParseLemmas.{whole_wrong, whole_read, whole_left}
use Rattle.cob_parse_proc.proofs.parse.whole_in.Goals as goal

pub returns-in-Err : goal.returns-in-Err
returns-in-Err c = whole_wrong (signs c.args.lexemes.now) c.in-Err.halt c.in-Err.ensures.gives

pub returns-then-is_empty : goal.returns-then-is_empty
returns-then-is_empty c = whole_read (signs c.args.lexemes.now) (plain_tree c.in-Ok.given.0) c.in-Ok.given.1.now c.in-Ok.ensures.gives (eqb-true _ _ (sym c.is_empty.ensures ∙ c.if-is_empty.true))

pub returns-else-is_empty : goal.returns-else-is_empty
returns-else-is_empty c = whole_left (signs c.args.lexemes.now) (plain_tree c.in-Ok.given.0) c.in-Ok.given.1.now c.in-Ok.ensures.gives (eqb-false _ _ (sym c.is_empty.ensures ∙ c.if-is_empty.false))
