-- The operands of each edge of a source's program are its own, and can be worked with.
use Rattle.std.proofs.Common.{◌≡◌, ℕ, true, Some}
use Rattle.std.specs.List.{AllByRecursion}
use Rattle.std.proofs.lemmas.Bool.{and_parts}
use Rattle.cob_program.specs.declared.act.How.{How}
use Rattle.cob_program.specs.declared.act.How.TheVariants as how
use Rattle.cob_program.specs.Sum.{Sum}
use Rattle.cob_program.specs.Bounds.{is_small_sum}
use Rattle.cob_program.specs.Act.{Act, Program}
use Rattle.cob_runs.specs.declared.action.Action.{Action}
use Rattle.cob_runs.specs.Contents.{form_at}
use Rattle.cob_runs.specs.Effects.{act_at}
use Rattle.cob_runs.specs.Moves.{takes_number}
use Rattle.cob_store.specs.WellFormed.{HasWellFormedItems}
use Rattle.cob_calc.specs.Contents.{bound_at}
use Rattle.cob_calc.specs.Arithmetic.{is_small_result}
use Rattle.cob_edge_parts.specs.Parts.{Amount, moved, computed, remaining, augmented, Part, read, unread, subscript, index, divide, store, bytes_in, guard, read_count, set_count, count_down, guard_count, parts_of}
use Rattle.cob_graph.specs.declared.graph.Graph.{Graph}
use Rattle.graph_runs.specs.Sources.{IsSourceGraph}
use Rattle.sum_ranges.specs.Taking.{is_small_taken}
use Rattle.transfer_ranges.specs.Operands.{is_whole}
use Rattle.cell_laws.proofs.Doing.{can_do_at}
use Rattle.cell_laws.proofs.PremiseParts.{IsSourceAmount, IsSourcePart, every, parts_are_kept}
use Rattle.cell_laws.proofs.Short.{countable_small, number_small}
use Rattle.diff_layer.specs.Parts.{IsStoreOf, IsOfEdge}

module _ (p : Program) (sound : HasWellFormedItems p.layout) (a : Act) (x : Action) where
  result_taken : (s : Sum) (place : ℕ) (h : How) → is_small_result (bound_at p.layout) s place h ≡ true → is_small_taken (bound_at p.layout) (is_whole h) s ≡ true
  result_taken s place how.Whole e = e
  result_taken s place how.Plus e = (and_parts (is_small_sum (bound_at p.layout) s) _ e).0
  result_taken s place how.Minus e = (and_parts (is_small_sum (bound_at p.layout) s) _ e).0
  result_taken s place how.Times e = (and_parts (is_small_sum (bound_at p.layout) s) _ e).0
  result_taken s place how.Under e = e

  store_of : (place : ℕ) (y : Amount) → takes_number (form_at p.layout place) ≡ true → IsSourceAmount p.layout a x place y → IsStoreOf p a x y
  store_of place (moved y) takes (its, can) = record { operands = ∣ its ∣₁; small = countable_small p.layout sound y (can takes) }
  store_of place (computed s h) takes (its, result) = record { operands = ∣ its ∣₁; small = result_taken s place h result }
  store_of place (remaining s scale) takes (its, left) = record { operands = ∣ its ∣₁; small = left.stored }
  store_of place (augmented y) takes (its, is, number) = record { operands = ∣ its ∣₁; small = number_small p.layout sound y number }

  part_of : (y : Part) → IsSourcePart p.layout a x y → IsOfEdge p a x y
  part_of (read place) kept = tt
  part_of unread kept = tt
  part_of (subscript last k) kept = tt
  part_of (index last k count) kept = tt
  part_of (divide d) kept = tt
  part_of (store place mode y) kept = store_of place y kept.0 kept.1
  part_of (bytes_in offset count) kept = tt
  part_of (guard t wanted) kept = tt
  part_of (read_count n) kept = tt
  part_of (set_count n y) kept = ∣ kept.0 ∣₁
  part_of (count_down n) kept = tt
  part_of (guard_count n wanted) kept = tt

pub operands_of_sources : (p : Program) (g : Graph) → IsSourceGraph p g → (statement : ℕ) (a : Act) (x : Action) → act_at p statement ≡ Some a
    → AllByRecursion (IsOfEdge p a x) (parts_of p statement a x)
operands_of_sources p g source statement a x at =
    every (IsSourcePart p.layout a x) (IsOfEdge p a x) (part_of p source.items a x) (parts_of p statement a x)
    (parts_are_kept p source.items statement a x (can_do_at p source.statements statement a at))
