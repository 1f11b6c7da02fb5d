-- The shape of a certificate by two numbers.
use Rattle.std.specs.Prelude.{◌≡◌, ℕ, length}
use Rattle.cert_text.specs.View.{Certificate}
use Rattle.cert_check.specs.declared.ends.CheckEnd.{CheckEnd}
use Rattle.cert_check.specs.declared.ends.CheckEnd.TheVariants as check
use Rattle.cert_check.specs.declared.ends.Shape.TheVariants as shape

-- the certificate is of as many cells and nodes
pub record HasCounts (c : Certificate) (cells nodes : ℕ) : Type 0 where
  pub cells_are : c.cells ≡ cells
  pub nodes_are : length c.nodes ≡ nodes

-- how the certificate's counts differ, by which of them and by both numbers
abbrev pub MisfitsCounts : Certificate → ℕ → ℕ → CheckEnd → Type 0
MisfitsCounts c cells nodes (check.Shape shape.Cells found wanted) = (found ≡ c.cells) × (wanted ≡ cells) × ¬ (found ≡ wanted)
MisfitsCounts c cells nodes (check.Shape shape.Nodes found wanted) =
    (c.cells ≡ cells) × (found ≡ length c.nodes) × (wanted ≡ nodes) × ¬ (found ≡ wanted)
MisfitsCounts c cells nodes _ = ⊥
