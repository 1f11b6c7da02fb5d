use Rattle.std.proofs.Common.{◌≡◌, ◌++◌, drop}
use Rattle.cob_program.specs.ActView.{plain_stmts}
use Rattle.cob_program.specs.ActView.{plain_whens}
use Rattle.analyse_core.specs.Mentions.{stmts_mentions, whens_mentions}
use Rattle.analyse_core.proofs.mentioned_statements.+statements.Given as goal

abbrev pub invariant-add_list-loop-statement : goal.invariant-add_list-loop-statement
invariant-add_list-loop-statement l =
    l.mentions.items ++ stmts_mentions (plain_stmts (drop l.statement-index l.list))
    ≡ l.initial.mentions.items ++ stmts_mentions (plain_stmts (drop 0 l.list))

abbrev pub invariant-add_whens-loop-when : goal.invariant-add_whens-loop-when
invariant-add_whens-loop-when l =
    l.mentions.items ++ whens_mentions (plain_whens (drop l.when-index l.whens))
    ≡ l.initial.mentions.items ++ whens_mentions (plain_whens (drop 0 l.whens))
