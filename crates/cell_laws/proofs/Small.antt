-- The numbers of each edge of a source's program are small.
use Rattle.std.proofs.Common.{◌≡◌, ℕ, ◌≤◌, true, false, Some, refl, sym, subst}
use Rattle.std.specs.Prelude.{IfSome}
use Rattle.cob_data.specs.declared.layout.Sender.{Sender}
use Rattle.cob_program.specs.declared.act.How.TheVariants as how
use Rattle.cob_program.specs.Sum.{Sum}
use Rattle.cob_program.specs.Values.{◌>>=◌}
use Rattle.cob_program.specs.Act.{Act, arith, Program}
use Rattle.cob_program.specs.Bounds.{is_small, is_small_stored}
use Rattle.cob_runs.specs.declared.action.Action.{Action}
use Rattle.cob_runs.specs.Contents.{form_at}
use Rattle.cob_runs.specs.Moves.{takes_number}
use Rattle.cob_store.specs.WellFormed.{HasWellFormedItems}
use Rattle.cob_calc.specs.Contents.{bound_at}
use Rattle.cob_calc.proofs.Bounded.{receiver_is_small}
use Rattle.cob_edge_parts.specs.Parts.{Amount, moved, computed, remaining, augmented, Part, index, divide, store, bytes_in, guard, set_count, parts_of}
use Rattle.sum_ranges.specs.declared.ranged.Ranged.{Ranged}
use Rattle.transfer_ranges.specs.Stores.{operands, sender_range}
use Rattle.transfer_ranges.specs.Sizes.{IsSmallAmount}
use Rattle.transfer_ranges.specs.EdgeOperands.{edge_amount}
use Rattle.transfer_ranges.specs.SmallAmounts.{has_small_sum}
use Rattle.transfer_ranges.specs.Working.{CanWork, amount_from}
use Rattle.cell_laws.proofs.Doing.{can_do_at}
use Rattle.cell_laws.proofs.PremiseDivisors.{result_is_stored}
use Rattle.cell_laws.proofs.PremiseParts.{is_arithmetic, IsSourceAmount, IsSourcePart, every, parts_are_kept}
use Rattle.cell_laws.specs.Sizes.{is_small_sent, IsSmallStore, IsSmallPart, EdgesAreSmallOfSources}
use Rattle.cell_laws.proofs.Short.{receiver_at, few_decimals, number_at_short, countable_small, number_small}
use Rattle.cell_laws.proofs.SizeTests.{test_small}
use Rattle.cell_laws.proofs.Sums.{computed_works, computed_small, rest_works, rest_small}
use Rattle.cell_laws.proofs.Senders.{moved_works, moved_small, number_sent, augmented_works, augmented_small}

module _ (p : Program) (sound : HasWellFormedItems p.layout) (a : Act) (x : Action) where
  -- ---- the statement's own sum

  plain_sum : (b : Act) → is_arithmetic b ≡ false → has_small_sum (bound_at p.layout) b ≡ true
  plain_sum (arith s ts remainder size fine) e = absurd cc
  plain_sum b e = refl

  moved_sum : (b : Act) (y : Sender) → edge_amount b x ≡ Some (moved y) → has_small_sum (bound_at p.layout) b ≡ true
  moved_sum (arith s ts remainder size fine) y its = absurd cc
  moved_sum b y its = refl

  augmented_sum : (b : Act) (y : Sender) → edge_amount b x ≡ Some (augmented y) → has_small_sum (bound_at p.layout) b ≡ true
  augmented_sum (arith s ts remainder size fine) y its = absurd cc
  augmented_sum b y its = refl

  computed_sum : (b : Act) (s : Sum) → edge_amount b x ≡ Some (computed s how.Whole) → is_small_stored (bound_at p.layout) s ≡ true → has_small_sum (bound_at p.layout) b ≡ true
  computed_sum (arith u ts remainder size fine) s its stored =
      let same : u ≡ s = cc in
      subst (λ v. is_small_stored (bound_at p.layout) v ≡ true) (sym same) stored
  computed_sum b s its stored = refl

  -- ---- what is asked of operands

  sent : (o : Amount) → edge_amount a x ≡ Some o → is_small_sent (bound_at p.layout) (Some o) ≡ true → is_small_sent (bound_at p.layout) (edge_amount a x) ≡ true
  sent o its small = subst (λ k. is_small_sent (bound_at p.layout) k ≡ true) (sym its) small

  works : (o y : Amount) (taken : ℕ → Ranged) (own : Ranged) → edge_amount a x ≡ Some o → IfSome (operands taken o) (CanWork y own) → IfSome (edge_amount a x >>= operands taken) (CanWork y own)
  works o y taken own its can = subst (λ k. IfSome (k >>= operands taken) (CanWork y own)) (sym its) can

  fits : (o y : Amount) (taken : ℕ → Ranged) (own : Ranged) → edge_amount a x ≡ Some o → IfSome (amount_from (operands taken o) y own) IsSmallAmount → IfSome (amount_from (edge_amount a x >>= operands taken) y own) IsSmallAmount
  fits o y taken own its small = subst (λ k. IfSome (amount_from (k >>= operands taken) y own) IsSmallAmount) (sym its) small

  -- ---- stores

  module _ (place : ℕ) (takes : takes_number (form_at p.layout place) ≡ true) where
    own_small : is_small (bound_at p.layout place) ≡ true
    own_small = receiver_is_small p.layout place sound takes

    store_small : (y : Amount) → IsSourceAmount p.layout a x place y → IsSmallStore p a x place y
    store_small (moved y) (its, can) =
        let small = countable_small p.layout sound y (can takes) in
        record {
          sum = moved_sum a y its;
          sender = sent (moved y) its small;
          receiver = receiver_at p.layout sound place takes;
          can = λ taken own t o. works (moved y) (moved y) taken (own place) its (moved_works (bound_at p.layout) taken t y (own place));
          small = λ taken own t o. fits (moved y) (moved y) taken (own place) its (moved_small (bound_at p.layout) taken t y (own place) small);
          own = own_small;
        }
    store_small (computed s h) (its, result) = record {
      sum = computed_sum a s its (result_is_stored (bound_at p.layout) s place h result);
      sender = sent (computed s how.Whole) its refl;
      receiver = receiver_at p.layout sound place takes;
      can = λ taken own t o.
          works (computed s how.Whole) (computed s h) taken (own place) its
          (computed_works (bound_at p.layout) taken t s place (own place) (o.held place) own_small h result);
      small = λ taken own t o.
          fits (computed s how.Whole) (computed s h) taken (own place) its
          (computed_small (bound_at p.layout) taken t s place (own place) (o.held place) own_small h result);
      own = own_small;
    }
    store_small (remaining s scale) (its, left) = record {
      sum = computed_sum a s its left.stored;
      sender = sent (computed s how.Whole) its refl;
      receiver = receiver_at p.layout sound place takes;
      can = λ taken own t o.
          works (computed s how.Whole) (remaining s scale) taken (own place) its (rest_works (bound_at p.layout) taken t s left.stored scale (own place));
      small = λ taken own t o.
          fits (computed s how.Whole) (remaining s scale) taken (own place) its
          (rest_small (bound_at p.layout) taken t s left.stored scale (own place) (subst (λ k. k ≤ 18) left.its (few_decimals p.layout sound left.item)) left.rest);
      own = own_small;
    }
    store_small (augmented y) (its, is, number) = record {
      sum = augmented_sum a y its;
      sender = sent (augmented y) its (number_small p.layout sound y number);
      receiver = receiver_at p.layout sound place takes;
      can = λ taken own t o.
          works (augmented y) (augmented y) taken (own place) its
          (augmented_works (own place) (bound_at p.layout place) (o.held place) (number_at_short p.layout sound place is) y (sender_range taken y) (number_sent p.layout sound taken t y number));
      small = λ taken own t o.
          fits (augmented y) (augmented y) taken (own place) its
          (augmented_small (own place) (bound_at p.layout place) (o.held place) (number_at_short p.layout sound place is) y (sender_range taken y) (number_sent p.layout sound taken t y number));
      own = own_small;
    }

  -- ---- parts

  part_small : (y : Part) → IsSourcePart p.layout a x y → IsSmallPart p a x y
  part_small (divide d) kept = kept
  part_small (store place mode y) kept = store_small place kept.0 y kept.1
  part_small (bytes_in offset count) kept = plain_sum a kept.1
  part_small (set_count n y) kept = (moved_sum a y kept.0, sent (moved y) kept.0 (number_small p.layout sound y kept.1))
  part_small (index last k count) kept = kept
  part_small (guard t wanted) kept = test_small p.layout sound t kept
  part_small y kept = tt

pub edges_are_small_of_sources : EdgesAreSmallOfSources
edges_are_small_of_sources p g source statement a x at =
    every (IsSourcePart p.layout a x) (IsSmallPart p a x) (part_small p source.items a x) (parts_of p statement a x)
    (parts_are_kept p source.items statement a x (can_do_at p source.statements statement a at))
