use Rattle.std.proofs.Common.{◌≡◌, ◌∙◌, map, ap, rules}
use Rattle.std.specs.List.{All}
use Rattle.std.proofs.lemmas.Result.{IfOk-weaker}
use Rattle.cob_program.specs.ActView.{plain_program}
use Rattle.cob_program.specs.Statements.{program_statements, plain_references}
use Rattle.cob_plan.specs.Listing.{plain_statements, listed_at}
use Rattle.cob_plan.specs.Plan.{IsStatement}
use Rattle.cob_plan.proofs.Sound.{statements_are}
use Rattle.cob_plan.proofs.listing.statements_of.Goals as goal

pub returns-clause-each : goal.returns-clause-each
returns-clause-each c =
    let p = plain_program c.args.program.now in
    let are : plain_references c.deref.result.now ≡ program_statements p = search rules in
    IfOk-weaker c.each_with_tests.result
    (λ all. plain_statements all.items ≡ map listed_at (plain_references c.deref.result.now))
    (λ all. All (IsStatement p) all.items)
    (λ all is. statements_are p all.items c.requires.whole c.requires.able (is ∙ ap (map listed_at) are))
    c.each_with_tests.ensures
