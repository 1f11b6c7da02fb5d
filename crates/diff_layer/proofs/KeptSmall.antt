-- What is kept of operands is small.
use Rattle.std.proofs.Common.{◌≡◌, ℕ, Bool, true, false, if◌then◌else◌, Option, Some, None, refl, sym, subst}
use Rattle.std.specs.Prelude.{pos, IfSome}
use Rattle.std.specs.Option.{option_map}
use Rattle.cob_program.specs.declared.act.How.TheVariants as how
use Rattle.cob_program.specs.Sum.{Sum, group}
use Rattle.cob_program.specs.Values.{whole_number, ◌>>=◌}
use Rattle.cob_program.specs.Bounds.{Bound, sum_most, is_small_sum, is_small_stored}
use Rattle.cob_program.specs.Act.{Act, Program}
use Rattle.cob_runs.specs.declared.action.Action.{Action}
use Rattle.cob_calc.specs.Contents.{bound_at}
use Rattle.cob_edge_parts.specs.Parts.{Amount, moved, computed, remaining, augmented}
use Rattle.sum_ranges.specs.declared.ranged.Ranged.{Ranged}
use Rattle.sum_ranges.specs.Ranged.{point}
use Rattle.sum_ranges.specs.SumRanges.{sum_range}
use Rattle.sum_ranges.specs.Working.{AreBounded}
use Rattle.sum_ranges.proofs.Bounded.{small_range_of, sum_range_within}
use Rattle.sum_ranges.proofs.Rooms.{small_atom_most}
use Rattle.transfer_ranges.specs.declared.amounts.Taken.{Taken}
use Rattle.transfer_ranges.specs.Operands.{alone, whole_range, taken_sum}
use Rattle.transfer_ranges.specs.Stores.{operands}
use Rattle.transfer_ranges.specs.Sizes.{IsSmallAmount}
use Rattle.transfer_ranges.specs.SmallAmounts.{is_small_amount, has_small_sum}
use Rattle.transfer_ranges.specs.Working.{amount_from}
use Rattle.transfer_ranges.specs.EdgeOperands.{edge_amount, edge_operands}
use Rattle.cell_steps.specs.Seen.{Seen}
use Rattle.cell_laws.specs.Sizes.{sends_small}
use Rattle.cell_laws.proofs.Senders.{moved_small}
use Rattle.cell_laws.proofs.Sums.{whole_small}
use Rattle.cell_layer.specs.Walks.{if_sent_small, CanStep}
use Rattle.cell_layer.proofs.ShortAnswers.{edge_is_small}
use Rattle.diff_layer.specs.Sizes.{HasSmallTop}

nowhere : Ranged
nowhere = point (whole_number (pos 0))

module _ (bound : ℕ → Bound) (range : ℕ → Ranged) (bounded : AreBounded range bound) where
  moved_top : (y : Amount) (o : Option Taken) → ((t : Taken) → IfSome (amount_from (Some t) y nowhere) IsSmallAmount → HasSmallTop t) →
      IfSome (amount_from o y nowhere) IsSmallAmount → IfSome o HasSmallTop
  moved_top y None top small = tt
  moved_top y (Some t) top small = top t small

  whole_top : (s : Sum) (t : Taken) → IfSome (amount_from (Some t) (computed s how.Whole) nowhere) IsSmallAmount → HasSmallTop t
  whole_top s t small = go t.under small
    where
      go : (o : Option Ranged) → IsSmallAmount (whole_range t.top o) → HasSmallTop t
      go None h = h
      go (Some under) h = h.0

  stored_top : (s : Sum) → is_small_stored bound s ≡ true → IfSome (taken_sum range true s) HasSmallTop
  stored_top s small = moved_top (computed s how.Whole) (taken_sum range true s) (whole_top s) (whole_small bound range bounded s small nowhere)

  sum_top : (s : Sum) → is_small_sum bound s ≡ true → IfSome (taken_sum range false s) HasSmallTop
  sum_top s small = go (sum_range range s) refl
    where
      go : (o : Option Ranged) → sum_range range s ≡ o → IfSome (option_map alone o) HasSmallTop
      go None e = tt
      go (Some r) e = small_range_of r (sum_most bound s) (sum_range_within range bound bounded.held s r e) (small_atom_most bound (group s) small)

  operands_small : (y : Amount) → is_small_amount bound y ≡ true → IfSome (operands range y) HasSmallTop
  operands_small (moved x) small = moved_top (moved x) (operands range (moved x)) (λ t h. h) (moved_small bound range bounded x nowhere small)
  operands_small (computed s how.Whole) small = stored_top s small
  operands_small (computed s how.Plus) small = sum_top s small
  operands_small (computed s how.Minus) small = sum_top s small
  operands_small (computed s how.Times) small = sum_top s small
  operands_small (computed s how.Under) small = sum_top s small
  operands_small (remaining s scale) small = stored_top s small
  operands_small (augmented x) small = moved_top (moved x) (operands range (moved x)) (λ t h. h) (moved_small bound range bounded x nowhere small)

-- ---- along an edge

module _ (p : Program) (a : Act) (x : Action) where
  edge_small : (range : ℕ → Ranged) → AreBounded range (bound_at p.layout) → has_small_sum (bound_at p.layout) a ≡ true → sends_small p a x ≡ true →
      IfSome (edge_operands range a x) HasSmallTop
  edge_small range bounded sum sends = go (edge_amount a x) refl
    where
      go : (o : Option Amount) → edge_amount a x ≡ o → IfSome (o >>= operands range) HasSmallTop
      go None e = tt
      go (Some y) e = operands_small (bound_at p.layout) range bounded y (edge_is_small p y a x e sum sends)

  sent_small : (range : ℕ → Ranged) → AreBounded range (bound_at p.layout) → has_small_sum (bound_at p.layout) a ≡ true →
      IfSome (if_sent_small p a x (edge_operands range a x)) HasSmallTop
  sent_small range bounded sum = go (sends_small p a x) refl
    where
      go : (b : Bool) → sends_small p a x ≡ b → IfSome (if b then edge_operands range a x else None) HasSmallTop
      go true e = edge_small range bounded sum e
      go false e = tt

  -- what operands were is small once they are taken
  pub kept_small : (s : Seen) → CanStep p a x s → s.written ≡ true → has_small_sum (bound_at p.layout) a ≡ true → IfSome s.common HasSmallTop
  kept_small s can written sum =
      let taken = can.taken written in
      subst (λ (o : Option Taken). IfSome o HasSmallTop) (sym taken.same) (sent_small taken.range taken.bounded sum)
