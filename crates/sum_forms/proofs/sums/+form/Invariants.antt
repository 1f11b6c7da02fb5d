use Rattle.std.proofs.Common.{◌≡◌, pos, None}
use Rattle.std.specs.Prelude.{IfSome}
use Rattle.interval_domain.specs.Corners.{interval}
use Rattle.cob_program.specs.Values.{whole_number}
use Rattle.sum_ranges.specs.Ranged.{point}
use Rattle.sum_ranges.specs.Working.{HasRoom, HasSmallParts}
use Rattle.cob_program.proofs.SumLoops.{factors_from, parts_from}
use Rattle.sum_forms.specs.declared.front.Front.TheVariants.{Empty}
use Rattle.sum_forms.specs.Constants.{constant_form}
use Rattle.sum_forms.specs.SumForms.{product_form_from, sum_form_from}
use Rattle.sum_forms.specs.Values.{IsForm}
use Rattle.sum_forms.proofs.sums.+form.Given as goal

abbrev pub invariant-product_form-loop-factor : goal.invariant-product_form-loop-factor
invariant-product_form-loop-factor g l = record {
  whole : product_form_from (g.C.PackCells.decimals_of l.pack) (g.C.PackCells.cell_at l.pack) (g.R.Ranges.range_at l.ranges) l.front l.range l.form (factors_from l.factors l.factor-index) ≡ product_form_from (g.C.PackCells.decimals_of l.pack) (g.C.PackCells.cell_at l.pack) (g.R.Ranges.range_at l.ranges) Empty (point (whole_number (pos 1))) None (factors_from l.factors 0);
  room : HasRoom (g.R.Ranges.bound_at l.ranges) l.range (factors_from l.factors l.factor-index);
  good : IfSome l.form IsForm;
}

abbrev pub invariant-parts_form-loop-part : goal.invariant-parts_form-loop-part
invariant-parts_form-loop-part g l = record {
  whole : sum_form_from (g.C.PackCells.decimals_of l.pack) (g.C.PackCells.cell_at l.pack) (g.R.Ranges.range_at l.ranges) l.total (parts_from l.parts l.part-index) ≡ sum_form_from (g.C.PackCells.decimals_of l.pack) (g.C.PackCells.cell_at l.pack) (g.R.Ranges.range_at l.ranges) (constant_form (interval (pos 0) (pos 0))) (parts_from l.parts 0);
  small : HasSmallParts (g.R.Ranges.bound_at l.ranges) (parts_from l.parts l.part-index);
  good : IsForm l.total;
}
