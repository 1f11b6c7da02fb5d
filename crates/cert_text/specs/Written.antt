-- Bounds of a node, by rising pack.
use Rattle.std.specs.Prelude.{◌≡◌, ◌≤◌, ℕ, ◌+◌, ◌-◌, ◌/◌, ◌%◌, nat_eq, if◌then◌else◌, List, [], ◌∷◌, get_or, ℤ, pos}
use Rattle.std.specs.List.{AllByRecursion}
use Rattle.cert_text.specs.declared.cert.Bound.{Bound}

-- the same word at each place, but 0 on the diagonal
abbrev pub plain_word : ℤ → ℕ → ℕ → ℤ
plain_word x size k = if nat_eq (k / (size + 1)) (k % (size + 1)) then pos 0 else x

-- two places of a pack with so many cells
pub record HasPlaces (size : ℕ) (b : Bound) : Type 0 where
  pub row : b.row ≤ size
  pub column : b.column ≤ size
  pub different : ¬ (b.row ≡ b.column)

-- the bound is of this pack
pub record IsBoundOf (pack size : ℕ) (b : Bound) : Type 0 where
  pub same : b.pack ≡ pack
  pub places : HasPlaces size b

-- the packs don't fall below this one
abbrev pub PacksRise : ℕ → List Bound → Type 0
PacksRise pack [] = Unit {0}
PacksRise pack (b ∷ bounds) = (pack ≤ b.pack) × PacksRise b.pack bounds

-- bounds of packs by their sizes, from one of them on
pub record AreFrom (pack : ℕ) (sizes : List ℕ) (bounds : List Bound) : Type 0 where
  pub rise : PacksRise pack bounds
  pub places : AllByRecursion (λ b. HasPlaces (get_or sizes (b.pack - pack) 0) b) bounds
