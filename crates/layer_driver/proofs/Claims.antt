-- Rows that claims mean are elements of the first layer's lattice.
use Rattle.std.proofs.Common.{◌≡◌, List, ℤ, sym, ap, subst}
use Rattle.interval_domain.specs.declared.bounds.Interval.{Interval}
use Rattle.dom_laws.specs.Lattice.{IsElement}
use Rattle.interval_domain.specs.Elements.{ElementFits}
use Rattle.interval_domain.specs.Rows.{cells_lattice, row_from, width_of}
use Rattle.interval_domain.proofs.Rows.{element_back, row_width}
use Rattle.cert_text.specs.View.{Place}
use Rattle.cert_text.specs.Claims.{claimed_element, claimed_row}
use Rattle.cell_ranges.proofs.Claims.{claims_fit}

element : (ranges : List Interval) (thresholds : List (List ℤ)) (place : Place) → IsElement (cells_lattice ranges thresholds) (claimed_row ranges place)
element ranges thresholds place =
    let e = claimed_element ranges place in
    let fits = claims_fit ranges place in
    let back = sym (element_back ranges e fits) in
    record {
      width = row_width ranges e fits;
      formed = record { said = ap (row_from (width_of ranges)) back; fits = subst (ElementFits ranges) back fits };
    }

pub rows_of_claims_are_elements : (owns : List Interval) (place : Place) (row : List ℤ) → row ≡ claimed_row owns place →
    (thresholds : List (List ℤ)) → IsElement (cells_lattice owns thresholds) row
rows_of_claims_are_elements owns place row is thresholds =
    subst (IsElement (cells_lattice owns thresholds)) (sym is) (element owns thresholds place)
