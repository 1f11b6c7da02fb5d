-- What the working of forms needs.
use Rattle.std.specs.Prelude.{ℕ, Bool, Option}
use Rattle.cob_program.specs.Sum.{Factor, MkFactor}
use Rattle.cob_program.specs.Values.{◌>>=◌}
use Rattle.cob_program.specs.Bounds.{Bound, is_small_atom}
use Rattle.sum_ranges.specs.declared.ranged.Ranged.{Ranged}
use Rattle.sum_forms.specs.declared.products.Step.{Step}
use Rattle.sum_forms.specs.Literals.{whole_factor}
use Rattle.sum_forms.specs.SumForms.{turned_form, atom_form}

-- the factor's operand keeps the rule of bounds
abbrev pub is_small_factor : (ℕ → Bound) → Factor → Bool
is_small_factor bound (MkFactor over minus atom) = is_small_atom bound atom

module _ (f : ℕ) (cell : ℕ → Option ℕ) (range : ℕ → Ranged) where
  -- what a factor is to the product that it stands in
  abbrev pub step_of : Factor → Step
  step_of (MkFactor over minus atom) = record { whole = whole_factor over minus atom; over = over; own = atom_form f cell range atom >>= turned_form minus }
