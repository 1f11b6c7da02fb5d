-- What can be worked out for an amount.
use Rattle.std.proofs.Common.{◌≡◌, ◌&&◌, ℕ, Bool, true, false, Option, Some, None, refl, sym, subst}
use Rattle.std.specs.Prelude.{IfSome}
use Rattle.cob_program.specs.declared.act.How.{How}
use Rattle.cob_program.specs.declared.act.How.TheVariants as how
use Rattle.cob_program.specs.Sum.{Sum, MkSum, no_parts, more_parts, MkPart, no_factors, more_factors, MkFactor, Atom}
use Rattle.cob_program.specs.Bounds.{Bound, exactly, sum_bound, factor_bound, part_most, atom_most, is_small, is_small_sum, is_small_sum_from, is_small_part, is_small_product, is_small_atom}
use Rattle.cob_program.proofs.Steps.{both}
use Rattle.cob_edge_parts.specs.Parts.{computed}
use Rattle.sum_ranges.specs.declared.ranged.Ranged.{Ranged}
use Rattle.sum_ranges.specs.SumRanges.{product_range}
use Rattle.sum_ranges.specs.Sizes.{IsSmallRange}
use Rattle.sum_ranges.specs.Working.{CanMultiplyRanges}
use Rattle.sum_forms.specs.Literals.{is_short}
use Rattle.sum_forms.proofs.Loops.{short_atom}
use Rattle.transfer_ranges.specs.declared.amounts.Taken.{Taken}
use Rattle.transfer_ranges.specs.Operands.{is_whole}
use Rattle.transfer_ranges.proofs.Working.{product_small}
use Rattle.transfer_ranges.specs.Working.{CanSettle, CanWork}
use Rattle.diff_layer.specs.Sizes.{is_short_whole}
use Rattle.diff_layer.specs.Working.{settled_if}

-- ---- operands whose last quotient is cut

pub can_settle : (s : Sum) (h : How) (own : Ranged) (common : Option Taken) → is_whole h ≡ false → IfSome common (CanWork (computed s h) own) → IfSome common CanSettle
can_settle s h own None e can = tt
can_settle s h own (Some t) e can = can.settled e

pub can_multiply : (s : Sum) (own : Ranged) (common : Option Taken) → IfSome common (CanWork (computed s how.Times) own) →
    IfSome (settled_if common) (λ t. CanMultiplyRanges own t.top)
can_multiply s own None can = tt
can_multiply s own (Some t) can = can.given

-- ---- literals

short_factor : (bound : ℕ → Bound) (over minus : Bool) (a : Atom) (b : Bound) → is_small_product bound b (more_factors (MkFactor over minus a) no_factors) ≡ true → is_short a ≡ true
short_factor bound over minus a b e =
    let next = factor_bound over b (atom_most bound a) in
    short_atom bound a (both (is_small_atom bound a) (is_small next && is_small_product bound next no_factors) e).0

pub short_whole : (bound : ℕ → Bound) (s : Sum) → is_small_sum bound s ≡ true → is_short_whole s ≡ true
short_whole bound (MkSum no_parts) e = refl
short_whole bound (MkSum (more_parts (MkPart minus no_factors) no_parts)) e = refl
short_whole bound (MkSum (more_parts (MkPart minus (more_factors (MkFactor over m a) no_factors)) no_parts)) e =
    let p = MkPart minus (more_factors (MkFactor over m a) no_factors) in
    let next = sum_bound (exactly 0) (part_most bound p) in
    short_factor bound over m a (exactly 1) (both (is_small_part bound p) (is_small next && is_small_sum_from bound next no_parts) e).0
short_whole bound (MkSum (more_parts (MkPart minus (more_factors (MkFactor over m a) (more_factors g fs))) no_parts)) e = refl
short_whole bound (MkSum (more_parts (MkPart minus no_factors) (more_parts q ps))) e = refl
short_whole bound (MkSum (more_parts (MkPart minus (more_factors (MkFactor over m a) no_factors)) (more_parts q ps))) e = refl
short_whole bound (MkSum (more_parts (MkPart minus (more_factors (MkFactor over m a) (more_factors g fs))) (more_parts q ps))) e = refl

-- ---- products

pub product_of_small : (own by : Ranged) (o : Option Ranged) → CanMultiplyRanges own by → o ≡ Some (product_range own by) → IfSome o IsSmallRange
product_of_small own by o can e = subst (λ (q : Option Ranged). IfSome q IsSmallRange) (sym e) (product_small own by (product_range own by) can refl)
