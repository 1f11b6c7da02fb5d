-- The laws that the walk over cells takes, with those of results, guards and operands put in.
use Rattle.transfer_ranges.proofs.Keeping.{kept_least, exceeded}
use Rattle.transfer_ranges.proofs.Fitting.{kept_is_told, stored_in_range}
use Rattle.transfer_ranges.proofs.Meant.{computed_in, remaining_in}
use Rattle.transfer_ranges.proofs.Rests.{plus_in}
use Rattle.transfer_ranges.proofs.GuardLaws.{guard_holds}
use Rattle.transfer_ranges.proofs.CountLaws.{count_holds}
use Rattle.transfer_ranges.proofs.Agreement.{numeric_sum}
use Rattle.cell_laws.proofs.Parts.{parts_are_in_place, arithmetic_is_done}
use Rattle.cell_laws.proofs.ResultLawsHold.{rising}
use Rattle.cell_laws.proofs.AmountLaws as operands
use Rattle.cell_laws.proofs.AmountsHold.{operands_hold}
use Rattle.cell_laws.proofs.WalkLaws as keeps

amounts : operands.Given
amounts = record {
  computed_ = λ worth range held s h v own inside x e. computed_in worth range held s h v own inside x e;
  remaining_ = λ worth range held s scale x e. remaining_in worth range held s scale x e;
  plus_in_ = plus_in;
}

pub cell_laws : keeps.Given
cell_laws = record {
  rising = rising;
  fits_ = λ mode f y v bytes h e. stored_in_range mode f y v h bytes e;
  fails_ = λ mode f y v h e. kept_is_told mode f y v h e;
  kept_ = kept_least;
  exceeded_ = exceeded;
  guards_ = λ l range is_numeric bytes h t wanted e. guard_holds l range is_numeric bytes h t wanted e;
  counts_ = λ wanted i v h e. count_holds wanted i v h e;
  operands_ = λ p statement a x cells first counts sound stands numeric. operands_hold amounts p sound cells first counts stands statement a x numeric;
  places_ = parts_are_in_place;
  edges_ = arithmetic_is_done;
  numeric_sum_ = λ l bytes other s e. numeric_sum l bytes other s e;
}
