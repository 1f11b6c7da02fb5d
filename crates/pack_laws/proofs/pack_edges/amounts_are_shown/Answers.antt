use Rattle.pack_laws.proofs.FormsShowMoments.{all_amounts_are_shown, all_operands_are_there, all_senders_are_shown, all_counters_are_shown, all_divisors_are_shown, all_guards_keep}
use Rattle.pack_laws.proofs.pack_edges.amounts_are_shown.Goals as goal

pub returns-clause-amounts : goal.returns-clause-amounts
returns-clause-amounts c = all_amounts_are_shown

pub returns-clause-operands : goal.returns-clause-operands
returns-clause-operands c = all_operands_are_there

pub returns-clause-senders : goal.returns-clause-senders
returns-clause-senders c = all_senders_are_shown

pub returns-clause-counters : goal.returns-clause-counters
returns-clause-counters c = all_counters_are_shown

pub returns-clause-divisors : goal.returns-clause-divisors
returns-clause-divisors c = all_divisors_are_shown

pub returns-clause-guards : goal.returns-clause-guards
returns-clause-guards c = all_guards_keep
