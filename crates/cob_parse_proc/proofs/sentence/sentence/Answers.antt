use Rattle.std.proofs.Common.{ℕ, Ok, Err, sym, ap, ◌∙◌}
use Rattle.reading.specs.Readers.{Stop}
use Rattle.cob_tree.specs.Stmt.{Stmts}
use Rattle.cob_parse_expr.specs.Steps.{signs}
use Rattle.cob_parse_proc.specs.StmtSteps.{plain_list}
use Rattle.cob_parse_proc.proofs.SentenceSteps.{sentence_read, sentence_open, sentence_wrong}
use Rattle.cob_parse_proc.proofs.sentence.sentence.Goals as goal

pub returns-in-Err-clause-gives : goal.returns-in-Err-clause-gives
returns-in-Err-clause-gives c = sentence_wrong (signs c.args.lexemes.now) c.in-Err.halt c.in-Err.ensures.gives

pub returns-in-Some-clause-gives : goal.returns-in-Some-clause-gives
returns-in-Some-clause-gives c =
    sentence_read (signs c.args.lexemes.now) (signs c.in-Ok.given.2.now) (signs c.in-Some.rest.now) (plain_list c.in-Ok.given.0) c.in-Ok.ensures.gives (sym c.in-Some.ensures.cut)
    ∙ ap (λ (ss : Stmts). Ok (ss, signs c.in-Some.rest.now)) (sym c.sentence_of.ensures)

pub returns-in-None-clause-gives : goal.returns-in-None-clause-gives
returns-in-None-clause-gives c =
    sentence_open (signs c.args.lexemes.now) (signs c.in-Ok.given.2.now) (plain_list c.in-Ok.given.0) c.in-Ok.given.1 c.in-Ok.ensures.gives c.in-Ok.ensures.takes (sym c.in-None.ensures.cut)
    ∙ ap (λ (n : ℕ). Err (Stop n)) (sym c.left_at.ensures)
