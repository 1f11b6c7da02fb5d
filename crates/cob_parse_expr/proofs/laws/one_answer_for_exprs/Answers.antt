use Rattle.std.proofs.Common.{◌≡◌, ◌-◌, ℕ, suc, ◌+◌, arith}
use Rattle.cob_parse_expr.specs.Parsing.{expr_syntax}
use Rattle.cob_parse_expr.specs.Reading.{expr_at}
use Rattle.cob_parse_expr.proofs.ExprLaws.{law}
use Rattle.cob_parse_expr.proofs.OneAnswer.{one_answer}
use Rattle.cob_parse_expr.proofs.Levels.{expr_level}
use Rattle.cob_parse_expr.proofs.laws.one_answer_for_exprs.Goals as goal

pub returns : goal.returns
returns c = λ depth le ts. one_answer (expr_syntax depth) depth 65 (expr_at (64 - depth)) (law (64 - depth) depth 65 (omega arith)) (expr_level depth) ts
