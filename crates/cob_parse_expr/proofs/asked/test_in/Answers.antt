use Rattle.std.proofs.Common.{true, false, refl}
use Rattle.reading.specs.Readers.{branch, stands}
use Rattle.cob_parse_expr.specs.Steps.{signs}
use Rattle.cob_parse_expr.specs.Classes.{not_of}
use Rattle.cob_parse_expr.specs.Reading.{inner_at}
use Rattle.cob_parse_expr.specs.CondReading.{asked_with, make_test}
use Rattle.cob_parse_expr.specs.CondSteps.{plain_asked}
use Rattle.cob_parse_expr.proofs.StepLemmas.{left_fails, left_read, right_fails, right_read, branch_fails, branch_read}
use Rattle.cob_parse_expr.proofs.asked.test_in.Goals as goal

pub returns-in-Err-clause-gives : goal.returns-in-Err-clause-gives
returns-in-Err-clause-gives c = left_fails make_test (stands not_of) (branch not_of (λ x. asked_with (inner_at c.args.room))) (asked_with (inner_at c.args.room)) (signs c.args.lexemes.now) c.in-Err.halt c.in-Some.ensures.found.stands (branch_fails not_of (λ x. asked_with (inner_at c.args.room)) tt (signs c.args.lexemes.now) (signs c.in-Some.rest.now) c.in-Some.ensures.found c.in-Err.halt c.in-Err.ensures.gives)

pub returns-in-Ok-clause-gives : goal.returns-in-Ok-clause-gives
returns-in-Ok-clause-gives c = left_read make_test (stands not_of) (branch not_of (λ x. asked_with (inner_at c.args.room))) (asked_with (inner_at c.args.room)) (signs c.args.lexemes.now) (signs c.in-Ok.given.1.now) (tt, plain_asked c.in-Ok.given.0) (true, plain_asked c.in-Ok.given.0) c.in-Some.ensures.found.stands (branch_read not_of (λ x. asked_with (inner_at c.args.room)) tt (signs c.args.lexemes.now) (signs c.in-Some.rest.now) c.in-Some.ensures.found (signs c.in-Ok.given.1.now) (plain_asked c.in-Ok.given.0) c.in-Ok.ensures.gives) refl

pub returns-in-Err-asked_in-clause-gives : goal.returns-in-Err-asked_in-clause-gives
returns-in-Err-asked_in-clause-gives c = right_fails make_test (stands not_of) (branch not_of (λ x. asked_with (inner_at c.args.room))) (asked_with (inner_at c.args.room)) (signs c.args.lexemes.now) c.in-Err-asked_in.halt c.in-None.ensures.none.stands c.in-Err-asked_in.ensures.gives

pub returns-in-Ok-asked_in-clause-gives : goal.returns-in-Ok-asked_in-clause-gives
returns-in-Ok-asked_in-clause-gives c = right_read make_test (stands not_of) (branch not_of (λ x. asked_with (inner_at c.args.room))) (asked_with (inner_at c.args.room)) (signs c.args.lexemes.now) (signs c.in-Ok-asked_in.given.1.now) (plain_asked c.in-Ok-asked_in.given.0) (false, plain_asked c.in-Ok-asked_in.given.0) c.in-None.ensures.none.stands c.in-Ok-asked_in.ensures.gives refl
