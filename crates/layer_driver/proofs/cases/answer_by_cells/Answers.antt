use Rattle.std.proofs.Common.{List, ℤ, sym, subst}
use Rattle.std.specs.Prelude.{IfSome}
use Rattle.dom_laws.specs.Lattice.{IsElement}
use Rattle.interval_domain.specs.Rows.{cells_lattice}
use Rattle.layer_driver.proofs.cases.answer_by_cells.Goals as goal

pub answer_with_cells-requires-clause-row : goal.answer_with_cells-requires-clause-row
answer_with_cells-requires-clause-row c = λ thresholds.
    let is = subst (λ read. IfSome read (λ row. (thresholds : List (List ℤ)) → IsElement (cells_lattice c.args.ranges.now thresholds) row.items)) c.in-Some.is c.in_ok-row.ensures in
    subst (λ ranges. IsElement (cells_lattice ranges thresholds) c.as_mut_slice.result.now) c.requires.ranges
    (subst (IsElement (cells_lattice c.args.ranges.now thresholds)) (sym c.as_mut_slice.ensures.value) (is thresholds))
