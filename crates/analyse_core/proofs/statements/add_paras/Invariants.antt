use Rattle.std.proofs.Common.{◌≡◌, ◌++◌, drop}
use Rattle.cob_program.specs.ActView.{plain_paras}
use Rattle.analyse_core.specs.Literals.{numbers_of, paras_literals}
use Rattle.analyse_core.proofs.statements.add_paras.Given as goal

abbrev pub invariant-loop-para : goal.invariant-loop-para
invariant-loop-para l =
    numbers_of l.literals.items ++ paras_literals (plain_paras (drop l.para-index l.paras))
    ≡ numbers_of l.initial.literals.items ++ paras_literals (plain_paras (l.initial.paras))
