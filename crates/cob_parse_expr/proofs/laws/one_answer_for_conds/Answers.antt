use Rattle.std.proofs.Common.{◌≡◌, ◌-◌, ℕ, suc, ◌+◌, arith}
use Rattle.cob_parse_expr.specs.Parsing.{cond_syntax}
use Rattle.cob_parse_expr.specs.CondReading.{cond_at}
use Rattle.cob_parse_expr.proofs.ParenLaws.{law_of_conditions}
use Rattle.cob_parse_expr.proofs.OneAnswer.{one_answer}
use Rattle.cob_parse_expr.proofs.Levels.{cond_level}
use Rattle.cob_parse_expr.proofs.laws.one_answer_for_conds.Goals as goal

pub returns : goal.returns
returns c = λ depth le ts. one_answer (cond_syntax depth) depth 65 (cond_at (64 - depth)) (law_of_conditions (64 - depth) depth 65 (omega arith)) (cond_level depth) ts
