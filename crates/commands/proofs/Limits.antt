-- A program that isn't refused for its control flow nests its PERFORMs, and its graph is within the limits.
use Rattle.std.proofs.Common.{◌≡◌, ◌<◌, ◌≤◌, ℕ, zero, suc, length, min, inl, inr, refl, sym, ap, subst, arith}
use Rattle.std.specs.List.{Contains}
use Rattle.std.proofs.lemmas.Bool.{cases_lt}
use Rattle.cob_data.specs.declared.end.Rule.{Rule}
use Rattle.cob_data.specs.declared.end.Rule.TheVariants as rule
use Rattle.cob_data.specs.declared.end.Which.TheVariants as which
use Rattle.cob_program.specs.Act.{Program}
use Rattle.cob_graph.specs.declared.graph.Graph.{Graph}
use Rattle.cob_graph.specs.Nesting.{IsBroken, IsNested, before}
use Rattle.cob_graph.specs.Graphs.{IsGraph, cells_of, final_of}
use Rattle.cob_graph.specs.Limits.{most_told, most_cells, most_nodes}
use Rattle.cob_graph.proofs.Lengths.{final_is}
use Rattle.cob_graph_build.specs.Limits.{IsWithinLimits}
use Rattle.cob_front.specs.declared.refusal.Refusal.{Refusal}
use Rattle.cob_front.specs.declared.refusal.Refusal.TheVariants as end
use Rattle.cob_front.specs.Control.{IsControlCause}
use Rattle.commands.proofs.Control.{Turn, first, second, third, fourth, rule_of, turn_of}

at_most : (n m : ℕ) → (m < n → ⊥) → n ≤ m
at_most n m h = elim (cases_lt m n) [ inl l ↦ absurd (h l) | inr l ↦ l ]

module _ (p : Program) (none : (cause : Refusal) → IsControlCause p cause → ⊥) where
  -- ---- no rule is broken, since none is broken first

  abbrev IsKept : Rule → Type 0
  IsKept r = (line : ℕ) → IsBroken p r line → ⊥

  module _ (r : Rule) (kept : (other : Rule) (line : ℕ) → Contains (before r) other → IsBroken p other line → ⊥) where
    kept_below : (bound line : ℕ) → line < bound → IsBroken p r line → ⊥
    kept_below zero line l broken = omega (arith, l)
    kept_below (suc bound) line l broken =
        none (end.Outside r line) (record {
          broken = broken;
          first_line = λ other also.
              at_most line other (λ (less : other < line). kept_below bound other (omega (arith, l, less)) also);
          first_rule = kept;
        })

    kept_if : IsKept r
    kept_if line broken = kept_below (suc line) line (omega arith) broken

  abbrev IsKeptBefore : Rule → Type 0
  IsKeptBefore r = (other : Rule) (line : ℕ) → Contains (before r) other → IsBroken p other line → ⊥

  same_rule : (r other : Rule) (line : ℕ) → r ≡ other → IsKept r → IsBroken p other line → ⊥
  same_rule r other line same kept broken = kept line (subst (λ (x : Rule). IsBroken p x line) (sym same) broken)

  first_kept : IsKept rule.N1
  first_kept = kept_if rule.N1 (λ other line there broken. omega (arith, there.1))

  before_second : IsKeptBefore rule.N2
  before_second other line (zero, l, e) broken = same_rule rule.N1 other line e first_kept broken
  before_second other line (suc k, l, e) broken = omega (arith, l)

  second_kept : IsKept rule.N2
  second_kept = kept_if rule.N2 before_second

  before_third : IsKeptBefore rule.N3
  before_third other line (zero, l, e) broken = same_rule rule.N1 other line e first_kept broken
  before_third other line (suc zero, l, e) broken = same_rule rule.N2 other line e second_kept broken
  before_third other line (suc (suc k), l, e) broken = omega (arith, l)

  third_kept : IsKept rule.N3
  third_kept = kept_if rule.N3 before_third

  before_fourth : IsKeptBefore rule.N4
  before_fourth other line (zero, l, e) broken = same_rule rule.N1 other line e first_kept broken
  before_fourth other line (suc zero, l, e) broken = same_rule rule.N2 other line e second_kept broken
  before_fourth other line (suc (suc zero), l, e) broken = same_rule rule.N3 other line e third_kept broken
  before_fourth other line (suc (suc (suc k)), l, e) broken = omega (arith, l)

  kept_in_turn : (t : Turn) → IsKept (rule_of t)
  kept_in_turn first = first_kept
  kept_in_turn second = second_kept
  kept_in_turn third = third_kept
  kept_in_turn fourth = kept_if rule.N4 before_fourth

  is_nested : IsNested p
  is_nested = record {
    kept = λ r line broken.
        let t = turn_of p r line broken in
        same_rule (rule_of t.0) r line (sym t.1) (kept_in_turn t.0) broken;
  }

  -- ---- so no limit is exceeded

  module _ (g : Graph) (is : IsGraph p g) where
    few_cells : length (cells_of p) ≤ most_cells
    few_cells =
        at_most (length (cells_of p)) most_cells (λ (over : most_cells < length (cells_of p)).
        none (end.Limit which.Cells (length (cells_of p))) (is_nested, record { counted = refl; over = over }))

    few_nodes : final_of is.copies ≤ most_nodes
    few_nodes =
        at_most (final_of is.copies) most_nodes (λ (over : most_nodes < final_of is.copies).
        none (end.Limit which.Nodes (min (final_of is.copies) most_told)) (
          is_nested,
          record {
            cells = few_cells;
            nodes = final_of is.copies;
            counted = record { copies = is.copies; laid = is.laid; counted = refl };
            over = over;
            told = refl;
          },
        ))

    pub within_limits : IsWithinLimits g
    within_limits = record {
      cells = omega (arith, ap length is.cells, few_cells);
      nodes = omega (arith, final_is p g is, few_nodes);
    }
