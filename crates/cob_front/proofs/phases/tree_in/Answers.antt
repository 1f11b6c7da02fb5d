use Rattle.std.proofs.Common.{inl, arith}
use Rattle.cob_tree.specs.StmtView.{plain_tree}
use Rattle.cob_front.proofs.Short.{few_items}
use Rattle.cob_front.proofs.Answering.{cause_of_tokens}
use Rattle.cob_front.proofs.phases.tree_in.Goals as goal

pub returns-in-Ok-program_of-clause-few : goal.returns-in-Ok-program_of-clause-few
returns-in-Ok-program_of-clause-few c =
    few_items c.deref.result.now c.in-Ok.tokens.items (plain_tree c.in-Ok-program_of.tree) c.deref.ensures.value c.in-Ok.ensures.few
    c.in-Ok-program_of.ensures.read

pub returns-in-Err-Syntax-clause-answer : goal.returns-in-Err-Syntax-clause-answer
returns-in-Err-Syntax-clause-answer c =
    inl (cause_of_tokens c.args.bytes.now c.deref.result.now c.in-Ok.tokens.items c.program_of.result c.in-Err-Syntax.field-0 c.in-Err-Syntax.line
    (omega (arith, c.if-bytes-gt-SOURCE_LIMIT.false)) c.in-Ok.ensures.scanned c.deref.ensures.value c.program_of.ensures.syntax
    c.in-Err-Syntax.is c.in-Err-Syntax.field-0-is)
