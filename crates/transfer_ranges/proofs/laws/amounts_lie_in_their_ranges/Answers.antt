use Rattle.std.proofs.Common.{refl}
use Rattle.cob_program.specs.Values.{plus}
use Rattle.transfer_ranges.proofs.Meant.{computed_in, remaining_in}
use Rattle.transfer_ranges.proofs.Rests.{plus_in}
use Rattle.transfer_ranges.proofs.laws.amounts_lie_in_their_ranges.Goals as goal

pub returns-clause-computed : goal.returns-clause-computed
returns-clause-computed c = computed_in

pub returns-clause-remaining : goal.returns-clause-remaining
returns-clause-remaining c = remaining_in

pub returns-clause-moved : goal.returns-clause-moved
returns-clause-moved c = λ v r h. (v, h, refl)

pub returns-clause-augmented : goal.returns-clause-augmented
returns-clause-augmented c = λ v w own r h k. (plus v w, plus_in v w own r h k, refl)
