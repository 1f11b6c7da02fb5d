-- What a relation leaves of the numbers of its sides. Each side is cut beside the other as it was before.
use Rattle.std.specs.Prelude.{Bool, true, false, not, Option}
use Rattle.dec_num.specs.declared.types.Scaled.{Scaled}
use Rattle.interval_domain.specs.declared.bounds.Interval.{Interval}
use Rattle.cob_tree.specs.declared.token.Rel.{Rel}
use Rattle.cob_runs.specs.Deciding.{holds, number_order}
use Rattle.sum_ranges.specs.declared.ranged.Ranged.{Ranged}
use Rattle.transfer_ranges.specs.Kept.{some_in, kept_in}

-- whether an outcome is the one that is wanted
abbrev pub is_wanted : Bool → Bool → Bool
is_wanted true outcome = outcome
is_wanted false outcome = not outcome

-- Whether two numbers give a relation the outcome. They are compared by value, whatever their scales.
abbrev pub stands : Rel → Bool → Scaled → Scaled → Bool
stands r wanted x y = is_wanted wanted (holds r (number_order x y))

-- the least interval of the left side's numbers beside which some number of the right side stands so
abbrev pub left_kept : Rel → Bool → Ranged → Ranged → Option Interval
left_kept r wanted a b = kept_in (λ x. some_in (λ y. stands r wanted x y) b) a

-- the least interval of the right side's numbers beside which some number of the left side stands so
abbrev pub right_kept : Rel → Bool → Ranged → Ranged → Option Interval
right_kept r wanted a b = kept_in (λ y. some_in (λ x. stands r wanted x y) a) b
