-- What is known of a sum where it is taken for a statement.
use Rattle.std.specs.Prelude.{ℕ, Bool, true, false, Option, Some, None, option_map, pos}
use Rattle.cob_program.specs.Sum.{Sum}
use Rattle.cob_program.specs.Values.{whole_number, Root, root_of, ◌>>=◌}
use Rattle.cob_program.specs.Bounds.{Bound, is_small_sum, is_small_stored}
use Rattle.sum_ranges.specs.declared.ranged.Ranged.{Ranged}
use Rattle.sum_ranges.specs.declared.taking.Taken.{Taken}
use Rattle.sum_ranges.specs.Ranged.{point}
use Rattle.sum_ranges.specs.SumRanges.{turned, sum_range, product_range_from, atom_range}

abbrev pub taken : Ranged → Option Ranged → Taken
taken top under = record { top = top; under = under }

-- a range that nothing divides
abbrev pub alone : Ranged → Taken
alone r = taken r None

module _ (range : ℕ → Ranged) where
  -- what is divided, and what divides
  abbrev pub root_range : Root → Option Taken
  root_range r =
      product_range_from range (point (whole_number (pos 1))) r.above >>= λ n. atom_range range r.below >>= λ d. Some (taken n (Some (turned r.minus d)))

  -- a quotient that is the last operation stays exact
  abbrev pub taken_from : Sum → Option Root → Option Taken
  taken_from s None = option_map alone (sum_range range s)
  taken_from s (Some r) = root_range r

  -- A sum, whose whole is stored or not; nothing where a divisor in it is 0 alone.
  abbrev pub taken_sum : Bool → Sum → Option Taken
  taken_sum true s = taken_from s (root_of s)
  taken_sum false s = taken_from s None

-- it keeps the rule of bounds
abbrev pub is_small_taken : (ℕ → Bound) → Bool → Sum → Bool
is_small_taken bound true s = is_small_stored bound s
is_small_taken bound false s = is_small_sum bound s
