-- The walk over the parts of an edge with what is kept of operands: nothing where the edge sends a number that the
-- arithmetic doesn't work with.
use Rattle.std.specs.Prelude.{◌≡◌, ℕ, ◌||◌, ◌&&◌, not, if◌then◌else◌, Bool, true, List, [], ◌∷◌, Option, Some, None}
use Rattle.std.specs.Option.{option_map_or}
use Rattle.cob_tree.specs.declared.fault.Kind.{Kind}
use Rattle.cob_tree.specs.declared.fault.Kind.TheVariants as kind
use Rattle.cob_program.specs.Values.{◌>>=◌}
use Rattle.cob_program.specs.Act.{Act, Program}
use Rattle.cob_runs.specs.declared.action.Action.{Action}
use Rattle.cob_calc.specs.Contents.{bound_at}
use Rattle.cob_edge_parts.specs.Parts.{Part, store, bytes_in, set_count, has_phrase}
use Rattle.sum_ranges.specs.declared.ranged.Ranged.{Ranged}
use Rattle.sum_ranges.specs.Working.{AreBounded}
use Rattle.transfer_ranges.specs.declared.amounts.Taken.{Taken}
use Rattle.interval_domain.specs.Elements.{CellsFit}
use Rattle.cell_steps.specs.OwnRanges.{owns}
use Rattle.transfer_ranges.specs.EdgeOperands.{edge_operands}
use Rattle.cell_steps.specs.Seen.{Seen}
use Rattle.cell_steps.specs.Stores.{taking, stored}
use Rattle.cell_steps.specs.Steps.{after_bytes, after_count, step}
use Rattle.cell_steps.specs.Clearing.{is_misfit, all_fit, all_count, clears_part}
use Rattle.cell_laws.specs.Sizes.{sends_small}

abbrev pub with_common : Seen → Option Taken → Seen
with_common s common =
    record { cells = s.cells; written = s.written; common = common; may_zero = s.may_zero; any_fail = s.any_fail }

module _ (p : Program) (a : Act) (x : Action) where
  -- what is kept of operands
  abbrev pub if_sent_small : Option Taken → Option Taken
  if_sent_small common = if sends_small p a x then common else None

  abbrev pub trimmed : Seen → Seen
  trimmed s = with_common s (if_sent_small s.common)

  -- ---- parts

  abbrev pub with_taken_small : Seen → Seen
  with_taken_small s = if s.written then s else trimmed (taking p a x s)

  -- Only a part that writes takes operands.
  abbrev pub step_small : Part → Seen → Option Seen
  step_small (store place mode y) s = stored p a x (with_taken_small s) place mode y
  step_small (bytes_in offset count) s = Some (after_bytes p offset count (with_taken_small s))
  step_small (set_count statement y) s = after_count p statement (with_taken_small s)
  step_small y s = step p a x y s

  abbrev pub clears_small : Part → Seen → Kind → Bool
  clears_small (store place mode y) s fault =
      has_phrase a || (not (is_misfit y fault) || all_fit p a x (with_taken_small s) place mode y)
  clears_small (set_count statement y) s kind.Size = all_count p a x (with_taken_small s)
  clears_small y s fault = clears_part p a x y s fault

  -- ---- lists of parts

  abbrev pub steps_small : List Part → Seen → Option Seen
  steps_small [] s = Some s
  steps_small (y ∷ ys) s = step_small y s >>= λ t. steps_small ys t

  abbrev pub clears_all_small : List Part → Seen → Kind → Bool
  clears_all_small [] s fault = true
  clears_all_small (y ∷ ys) s fault =
      clears_small y s fault && option_map_or (λ t. clears_all_small ys t fault) (step_small y s) true

  -- ---- what can be walked with

  -- what is kept of operands that were taken of some cells
  pub record IsTaken (common : Option Taken) : Type 0 where
    pub range : ℕ → Ranged
    pub bounded : AreBounded range (bound_at p.layout)
    pub same : common ≡ if_sent_small (edge_operands range a x)

  pub record CanStep (s : Seen) : Type 0 where
    pub fits : CellsFit (owns p) s.cells
    pub taken : s.written ≡ true → IsTaken s.common
