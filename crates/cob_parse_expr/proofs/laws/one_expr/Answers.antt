use Rattle.cob_parse_expr.specs.Alphabet.{grammar}
use Rattle.cob_parse_expr.specs.Parsing.{expr_syntax}
use Rattle.cob_parse_expr.specs.Reading.{expr_at}
use Rattle.cob_parse_expr.proofs.ExprLaws.{law}
use Rattle.cob_parse_expr.proofs.Outcomes.{one_printing}
use Rattle.cob_parse_expr.proofs.ParseLemmas.{spell}
use Rattle.cob_parse_expr.proofs.laws.one_expr.Goals as goal

pub returns : goal.returns
returns c = λ d a b same. one_printing grammar spell (expr_syntax d) expr_at d (λ room top e. law room d top e) a b tt tt same
