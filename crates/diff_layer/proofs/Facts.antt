-- Rows of the first layer that are reached.
use Rattle.std.proofs.Common.{◌≡◌, true, false, List, length, ℤ, Some, None, ap, subst, ◌∙◌}
use Rattle.std.specs.Prelude.{if◌then◌else◌}
use Rattle.interval_domain.specs.declared.bounds.Interval.{Interval}
use Rattle.interval_domain.specs.Elements.{CellsFit, ElementFits}
use Rattle.interval_domain.specs.Rows.{IsReached, IsRow, cells_of, is_reached, element_of, row_from, width_of}
use Rattle.interval_domain.proofs.Rows.{row_width}

module _ (row : List ℤ) where
  pub element_there : is_reached row ≡ true → element_of row ≡ Some (cells_of row)
  element_there e = ap (λ b. if b then Some (cells_of row) else None) e

  pub element_missing : is_reached row ≡ false → element_of row ≡ None
  element_missing e = ap (λ b. if b then Some (cells_of row) else None) e

  module _ (owns : List Interval) (is : IsRow owns row) (e : is_reached row ≡ true) where
    pub is_there : IsReached row
    is_there = is.said ∙ ap (row_from (width_of owns)) (element_there e)

    pub cells_fit : CellsFit owns (cells_of row)
    cells_fit = subst (ElementFits owns) (element_there e) is.fits

-- ---- how many words

pub width_is : (owns : List Interval) (row : List ℤ) → IsRow owns row → length row ≡ width_of owns
width_is owns row is = ap length is.said ∙ row_width owns (element_of row) is.fits
