-- What is taken of a sum is what a store is worked out of.
use Rattle.std.proofs.Common.{◌≡◌, ℕ, Bool, true, false, Option, Some, None, refl}
use Rattle.std.specs.Prelude.{option_map, pos}
use Rattle.cob_program.specs.Sum.{Sum}
use Rattle.cob_program.specs.Values.{whole_number, Root, root_of, ◌>>=◌}
use Rattle.sum_ranges.specs.declared.ranged.Ranged.{Ranged}
use Rattle.sum_ranges.specs.Ranged.{point}
use Rattle.sum_ranges.specs.SumRanges.{turned, sum_range, product_range_from, atom_range}
use Rattle.sum_ranges.specs.Taking as sum
use Rattle.transfer_ranges.specs.Amounts.{taken}
use Rattle.transfer_ranges.specs.Operands as store
use Rattle.cob_program.specs.declared.act.How.TheVariants as how
use Rattle.cob_edge_parts.specs.Parts.{Amount, moved, computed, remaining, augmented}
use Rattle.transfer_ranges.specs.declared.amounts.Taken.{Taken}
use Rattle.transfer_ranges.specs.EdgeOperands.{is_divided}
use Rattle.transfer_ranges.specs.Working.{for_store, CanSettle, CanSettleFor}

alone_is : (o : Option Ranged) → option_map for_store (option_map sum.alone o) ≡ option_map store.alone o
alone_is None = refl
alone_is (Some r) = refl

quotient_is : (minus : Bool) (o u : Option Ranged) →
    option_map for_store (o >>= λ n. u >>= λ d. Some (sum.taken n (Some (turned minus d))))
    ≡ (o >>= λ n. u >>= λ d. Some (taken n (Some (turned minus d))))
quotient_is minus None u = refl
quotient_is minus (Some n) None = refl
quotient_is minus (Some n) (Some d) = refl

module _ (range : ℕ → Ranged) where
  from_root : (s : Sum) (o : Option Root) → option_map for_store (sum.taken_from range s o) ≡ store.taken_from range s o
  from_root s None = alone_is (sum_range range s)
  from_root s (Some r) = quotient_is r.minus (product_range_from range (point (whole_number (pos 1))) r.above) (atom_range range r.below)

  pub taken_is : (whole : Bool) (s : Sum) → option_map for_store (sum.taken_sum range whole s) ≡ store.taken_sum range whole s
  taken_is true s = from_root s (root_of s)
  taken_is false s = from_root s None

-- ---- quotients that don't stay exact

pub divided_is_settled : (a : Amount) (t : Taken) → is_divided a ≡ true → CanSettleFor a t → CanSettle t
divided_is_settled (moved x) t divided can = absurd cc
divided_is_settled (computed s how.Whole) t divided can = absurd cc
divided_is_settled (computed s how.Plus) t divided can = absurd cc
divided_is_settled (computed s how.Minus) t divided can = absurd cc
divided_is_settled (computed s how.Times) t divided can = absurd cc
divided_is_settled (computed s how.Under) t divided can = can refl
divided_is_settled (remaining s scale) t divided can = absurd cc
divided_is_settled (augmented x) t divided can = absurd cc
