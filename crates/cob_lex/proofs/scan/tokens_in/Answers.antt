use Rattle.std.proofs.Common.{rules}
use Rattle.cob_lex.proofs.TokenCounts.{few_tokens}
use Rattle.cob_lex.proofs.scan.tokens_in.Goals as goal

pub returns-in-Ok-tokens_of-clause-few : goal.returns-in-Ok-tokens_of-clause-few
returns-in-Ok-tokens_of-clause-few c =
    few_tokens c.args.bytes.now c.in-Ok-tokens_of.tokens.items c.requires (search rules)
