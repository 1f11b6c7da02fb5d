use Rattle.std.proofs.Common.{List, [], ℤ, sym, subst}
use Rattle.std.specs.Prelude.{IfSome}
use Rattle.dom_laws.specs.Lattice.{IsElement}
use Rattle.interval_domain.specs.Rows.{cells_lattice, IsRow}
use Rattle.layer_driver.proofs.cases.answer_in_packs.Goals as goal

pub answer_beside-requires-clause-row : goal.answer_beside-requires-clause-row
answer_beside-requires-clause-row c =
    let is = subst (λ read. IfSome read (λ row. (thresholds : List (List ℤ)) → IsElement (cells_lattice c.args.ranges.now thresholds) row.items)) c.in-Some-2.is c.in_ok-row.ensures in
    subst (λ ranges. IsRow ranges c.as_slice-2.result.now) c.requires.ranges (subst (IsRow c.args.ranges.now) (sym c.as_slice-2.ensures.value) (is []).formed)
