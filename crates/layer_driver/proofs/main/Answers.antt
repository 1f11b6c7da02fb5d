use Rattle.std.proofs.Common.{subst}
use Rattle.cob_program.specs.ActView.{plain_program}
use Rattle.cob_front.specs.Source.{Answers, IsProgram, IsCause}
use Rattle.layer_driver.proofs.main.Goals as goal

pub answer_for_program-requires : goal.answer_for_program-requires
answer_for_program-requires c =
    let bytes = c.as_slice.result.now in
    let is = subst (Answers (IsProgram bytes) (IsCause bytes)) c.in-Ok.is c.program_in.ensures.answer in
    λ g graph. c.sources_have_source_graphs.ensures bytes (plain_program c.in-Ok.program) g is graph
