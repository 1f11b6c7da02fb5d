use Rattle.std.proofs.Common.{inl}
use Rattle.cob_front.proofs.TreeCauses.{rule_of_tree, program_of_tree}
use Rattle.cob_front.proofs.phases.statements_in.Goals as goal

pub returns-in-Ok : goal.returns-in-Ok
returns-in-Ok c =
    program_of_tree c.args.tree.now c.args.laid.now c.in-Ok.program c.requires.has c.requires.is c.in-Ok.ensures.answer

pub returns-in-Err-Outside : goal.returns-in-Err-Outside
returns-in-Err-Outside c =
    let broken = rw c.in-Err-Outside.field-0-is at c.in-Err-Outside.ensures.answer in
    inl (rule_of_tree c.args.tree.now c.args.laid.now c.in-Err-Outside.rule _ c.requires.has c.requires.is broken)
