use Rattle.std.proofs.Common.{◌≡◌, ◌++◌, drop}
use Rattle.cob_program.specs.ActView.{plain_paras}
use Rattle.cob_program.specs.Statements.{paras_statements, plain_references}
use Rattle.cob_program.proofs.statements.add_paras.Given as goal

abbrev pub invariant-loop-para : goal.invariant-loop-para
invariant-loop-para l = plain_references l.statements.items ++ paras_statements (plain_paras (drop l.para-index l.paras))
    ≡ plain_references l.initial.statements.items ++ paras_statements (plain_paras l.initial.paras)
