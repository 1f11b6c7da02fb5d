use Rattle.std.proofs.Common.{◌≡◌, ◌++◌, drop}
use Rattle.cob_program.specs.Statements.{plain_references}
use Rattle.analyse_core.specs.Mentions.{lists_of}
use Rattle.analyse_core.specs.Choice.{loops_mentions}
use Rattle.analyse_core.proofs.choice.add_loops.Given as goal

abbrev pub invariant-loop-statement : goal.invariant-loop-statement
invariant-loop-statement l =
    lists_of l.lists.items ++ loops_mentions (lists_of l.texts) l.home (plain_references (drop l.statement-index l.statements))
    ≡ lists_of l.initial.lists.items ++ loops_mentions (lists_of l.texts) l.home (plain_references l.statements)
