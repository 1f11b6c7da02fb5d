use Rattle.cob_parse_expr.specs.Alphabet.{grammar}
use Rattle.cob_parse_expr.specs.Parsing.{cond_syntax}
use Rattle.cob_parse_expr.specs.CondReading.{cond_at}
use Rattle.cob_parse_expr.proofs.ParenLaws.{law_of_conditions}
use Rattle.cob_parse_expr.proofs.Outcomes.{one_printing}
use Rattle.cob_parse_expr.proofs.ParseLemmas.{spell}
use Rattle.cob_parse_expr.proofs.laws.one_cond.Goals as goal

pub returns : goal.returns
returns c = λ d a b good good' same. one_printing grammar spell (cond_syntax d) cond_at d (λ room top e. law_of_conditions room d top e) a b good good' same
