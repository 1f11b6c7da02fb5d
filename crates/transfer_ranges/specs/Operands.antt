-- What is known of a sum when it is taken, and of the amounts that are worked out of it.
use Rattle.std.specs.Prelude.{ℕ, Bool, true, false, Option, Some, None, pos}
use Rattle.std.specs.Option.{option_map}
use Rattle.cob_program.specs.declared.act.How.{How}
use Rattle.cob_program.specs.declared.act.How.TheVariants as how
use Rattle.cob_program.specs.Sum.{Sum}
use Rattle.cob_program.specs.Values.{whole_number, Root, root_of, ◌>>=◌}
use Rattle.sum_ranges.specs.declared.ranged.Ranged.{Ranged}
use Rattle.sum_ranges.specs.Ranged.{point}
use Rattle.sum_ranges.specs.SumRanges.{turned, plus_range, product_range, sum_range, product_range_from, atom_range}
use Rattle.transfer_ranges.specs.declared.amounts.Taken.{Taken}
use Rattle.transfer_ranges.specs.declared.amounts.AmountRange.{AmountRange}
use Rattle.transfer_ranges.specs.declared.amounts.AmountRange.TheVariants as range
use Rattle.transfer_ranges.specs.Amounts.{taken}

-- a range that nothing divides
abbrev pub alone : Ranged → Taken
alone r = taken r None

abbrev pub is_whole : How → Bool
is_whole how.Whole = true
is_whole _ = false

module _ (range_at : ℕ → Ranged) where
  -- a quotient that is the last operation stays exact
  abbrev pub taken_from : Sum → Option Root → Option Taken
  taken_from s None = option_map alone (sum_range range_at s)
  taken_from s (Some r) =
      product_range_from range_at (point (whole_number (pos 1))) r.above >>= λ n.
      atom_range range_at r.below >>= λ d. Some (taken n (Some (turned r.minus d)))

  -- A sum, whose whole is stored or not; nothing where a divisor in it is 0 alone.
  abbrev pub taken_sum : Bool → Sum → Option Taken
  taken_sum true s = taken_from s (root_of s)
  taken_sum false s = taken_from s None

-- ---- amounts

abbrev pub whole_range : Ranged → Option Ranged → AmountRange
whole_range top None = range.Decimal top
whole_range top (Some under) = range.Quotient top under

-- for a receiver whose own number lies in the first range
abbrev pub computed_range : How → Ranged → Taken → AmountRange
computed_range how.Whole own t = whole_range t.top t.under
computed_range how.Plus own t = range.Decimal (plus_range own t.top)
computed_range how.Minus own t = range.Decimal (plus_range own (turned true t.top))
computed_range how.Times own t = range.Decimal (product_range own t.top)
computed_range how.Under own t = range.Quotient own t.top

-- nothing where the whole is no quotient
abbrev pub remaining_range : ℕ → Taken → Option AmountRange
remaining_range scale t = option_map (λ under. range.Remainder t.top under scale) t.under

-- what a division of a sum's two operands leaves, where the quotient has so many decimals
abbrev pub remaining_sum : (ℕ → Ranged) → ℕ → Sum → Option AmountRange
remaining_sum range_at scale s = taken_sum range_at true s >>= remaining_range scale
