-- Rows of cells that are reached.
use Rattle.std.proofs.Common.{◌≡◌, Bool, true, if◌then◌else◌, List, ℤ, Some, None, sym, ap, subst, ◌∙◌}
use Rattle.interval_domain.specs.declared.bounds.Interval.{Interval}
use Rattle.interval_domain.specs.Elements.{CellsFit, ElementFits}
use Rattle.interval_domain.specs.Rows.{IsReached, IsRow, cells_of, element_of, is_reached, row_from, width_of}

module _ (ranges : List Interval) (row : List ℤ) (is_row : IsRow ranges row) (told : Bool) (is : told ≡ is_reached row) (there : told ≡ true) where
  element : element_of row ≡ Some (cells_of row)
  element = ap (λ (b : Bool). if b then Some (cells_of row) else None) (sym is ∙ there)

  pub row_is_reached : IsReached row
  row_is_reached = is_row.said ∙ ap (row_from (width_of ranges)) element

  pub row_fits : CellsFit ranges (cells_of row)
  row_fits = subst (ElementFits ranges) element is_row.fits
