use Rattle.transfer_ranges.proofs.CountLaws.{count_holds, count_rises, count_part}
use Rattle.transfer_ranges.proofs.guard_laws.counts_are_cut.Goals as goal

pub returns : goal.returns
returns c = record { sound = count_holds; rises = count_rises; fits = count_part }
