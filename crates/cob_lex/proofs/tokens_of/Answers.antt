use Rattle.cob_lex.proofs.Spelling.{refused_is}
use Rattle.cob_lex.proofs.tokens_of.Goals as goal

pub returns-in-Err-clause-bad_token : goal.returns-in-Err-clause-bad_token
returns-in-Err-clause-bad_token c = refused_is c.args.text.now c.in-Err.end c.in-Err.ensures
