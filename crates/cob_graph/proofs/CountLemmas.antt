-- The cell of a statement's counter, by what is left of the counters.
use Rattle.std.proofs.Common.{◌≡◌, ◌≤◌, ℕ, ◌+◌, ◌-◌, List, length, Some, None, sym, ap, ◌∙◌, arith}
use Rattle.std.specs.declared.ops.ControlFlow.TheVariants.{Continue, Break}
use Rattle.cob_program.specs.Act.{Program}
use Rattle.cob_program.specs.Statements.{program_statements}
use Rattle.cob_runs.specs.declared.action.Cell.{Cell}
use Rattle.cob_graph.specs.Graphs.{cells_of}
use Rattle.cob_graph.specs.declared.homes.Home.TheVariants.{Item as of_item, Count as of_count}
use Rattle.cob_graph.specs.Homes.{item_homes, count_homes, homes_of}
use Rattle.cob_graph.specs.Numbers.{place_from, item_from, items_of, items_before, left_at, number_of}
use Rattle.cob_graph.proofs.LeftLemmas.{left_most, found_place, no_place}
use Rattle.cob_graph.proofs.Parallel.{items_first, as_many, items_passed, cells_same, item_place}
use Rattle.cob_graph.proofs.NumberLemmas.{number_is}

-- the cell of an item
pub item_number : (p : Program) (place : ℕ) → item_from 0 place (items_of (cells_of p)) ≡ number_of p (of_item place)
item_number p place = ap (item_from 0 place) (cells_same p) ∙ (item_place place 0 (homes_of p) ∙ number_is (of_item place) (homes_of p))

-- a program's cells, so many of them of items
module _ (p : Program) (statement : ℕ) (cells : List Cell) (items : ℕ) (same : cells ≡ cells_of p)
    (counted : items ≡ items_before (items_of cells)) where
  first : items ≡ length (item_homes 0 p.layout.items)
  first = counted ∙ (ap (λ cs. items_before (items_of cs)) same ∙ items_first p)

  all : length cells ≡ length (item_homes 0 p.layout.items) + length (count_homes (program_statements p))
  all = ap length same ∙ as_many p

  pub items_fit : items ≤ length cells
  items_fit = let a = first in let b = all in omega (arith, a, b)

  -- the counter is sought behind the cells of items
  counter_place : number_of p (of_count statement) ≡ place_from items (of_count statement) (count_homes (program_statements p))
  counter_place =
      let behind = count_homes (program_statements p) in
      let a = first in
      sym (number_is (of_count statement) (homes_of p))
      ∙ (items_passed statement 0 0 p.layout.items behind
      ∙ ap (λ k. place_from k (of_count statement) behind) (omega (arith, a)))

  module _ (left : ℕ) (are : left ≡ length cells - items) where
    as_left : length (count_homes (program_statements p)) ≡ left
    as_left = let a = first in let b = all in omega (arith, a, b, are)

    pub left_fits : (m : ℕ) → Break m ≡ left_at statement (count_homes (program_statements p)) left → m ≤ length cells
    left_fits m e =
        let most : m ≤ left = left_most statement (count_homes (program_statements p)) left m e in
        omega (arith, most, are)

    pub found_number : (m : ℕ) → Break m ≡ left_at statement (count_homes (program_statements p)) left →
        Some (length cells - m) ≡ number_of p (of_count statement)
    found_number m e =
        let behind = count_homes (program_statements p) in
        let most : m ≤ left = left_most statement behind left m e in
        let many = as_left in
        let a = first in
        let b = all in
        sym (counter_place
        ∙ (found_place statement behind items left m (omega (arith, many)) e ∙ ap Some (omega (arith, most, many, a, b))))

    pub no_number : (m : ℕ) → Continue m ≡ left_at statement (count_homes (program_statements p)) left →
        None ≡ number_of p (of_count statement)
    no_number m e =
        sym (counter_place ∙ no_place statement (count_homes (program_statements p)) items left m e)
