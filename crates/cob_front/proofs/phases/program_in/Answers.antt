use Rattle.cob_front.proofs.Answering.{refused_for, accepted_as}
use Rattle.cob_front.proofs.phases.program_in.Goals as goal

pub returns-clause-refused : goal.returns-clause-refused
returns-clause-refused c = λ end. refused_for c.args.bytes.now c.answered.result end c.answered.ensures

pub returns-clause-accepted : goal.returns-clause-accepted
returns-clause-accepted c = λ program. accepted_as c.args.bytes.now c.answered.result program c.answered.ensures
