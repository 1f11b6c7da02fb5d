use Rattle.std.proofs.Common.{refl}
use Rattle.cob_lex.proofs.TextLemmas.{trimmed_run}
use Rattle.cob_lex.proofs.join.Joining.trim.Goals as goal

pub returns-clause-run : goal.returns-clause-run
returns-clause-run c = trimmed_run c.args.self.now _ c.requires c.truncate.ensures.items refl refl refl
