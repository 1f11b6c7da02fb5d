use Rattle.std.proofs.Common.{◌≡◌, pos}
use Rattle.cob_program.specs.Values.{whole_number, product_from, sum_from}
use Rattle.cob_calc.specs.Contents.{amount_at}
use Rattle.cob_calc.specs.Working.{HasRoom, HasRoomInSum}
use Rattle.cob_program.proofs.SumLoops.{factors_from, parts_from}
use Rattle.cob_calc.proofs.contents.Contents.+sum.Given as goal

abbrev pub invariant-product-loop-factor : goal.invariant-product-loop-factor
invariant-product-loop-factor l = record {
  whole : product_from (amount_at l.self) l.value (factors_from l.factors l.factor-index) ≡ product_from (amount_at l.self) (whole_number (pos 1)) (factors_from l.factors 0);
  room : HasRoom l.self l.value (factors_from l.factors l.factor-index);
}

abbrev pub invariant-parts-loop-part : goal.invariant-parts-loop-part
invariant-parts-loop-part l = record {
  whole : sum_from (amount_at l.self) l.total (parts_from l.parts l.part-index) ≡ sum_from (amount_at l.self) (whole_number (pos 0)) (parts_from l.parts 0);
  room : HasRoomInSum l.self l.total (parts_from l.parts l.part-index);
}
