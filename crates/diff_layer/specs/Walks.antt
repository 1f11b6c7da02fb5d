-- What an edge of a statement makes of the matrices of packs, and what it clears.
use Rattle.std.specs.Prelude.{◌&&◌, if◌then◌else◌, Bool, true, List, [], ◌∷◌, ℤ, Option, Some, None}
use Rattle.std.specs.Option.{option_map_or}
use Rattle.cob_tree.specs.declared.fault.Kind.{Kind}
use Rattle.cob_data.specs.declared.extent.Extent.{Extent}
use Rattle.cob_program.specs.Values.{◌>>=◌}
use Rattle.cob_program.specs.Act.{Stmt, Act, Program}
use Rattle.cob_runs.specs.declared.action.Action.{Action}
use Rattle.cob_edge_parts.specs.Parts.{Part}
use Rattle.edge_parts.specs.PartView.{edge_parts}
use Rattle.interval_domain.specs.Known.{Known}
use Rattle.cell_steps.specs.Seen.{Seen, beginning}
use Rattle.cell_layer.specs.NumberedStatements.{act_in}
use Rattle.cell_layer.specs.Walks.{step_small}
use Rattle.diff_steps.specs.Packs.{Pack}
use Rattle.diff_steps.specs.Moments.{Seen2, with_packs}
use Rattle.diff_steps.specs.Steps.{all_closed, changed}
use Rattle.diff_steps.specs.Edges.{beginning2, steps2, finished2}
use Rattle.diff_steps.specs.Clearing.{clears_part2, clears_parts2}

abbrev pub seen2 : List Extent → List (List ℤ) → Seen2
seen2 wrote ms = record { wrote = wrote; packs = ms }

-- what is seen behind a part, if it is passed
abbrev pub passed_to : Bool → Seen → Seen2 → Option (Seen × Seen2)
passed_to passed t r = if passed then Some (t, r) else None

-- ---- one part, with what is kept of operands: nothing where the edge sends a number that the arithmetic doesn't work with

module _ (p : Program) (packs : List Pack) (a : Act) (x : Action) where
  abbrev pub step2_small : Part → Seen → Seen2 → Option (Seen × Seen2)
  step2_small y s r =
      step_small p a x y s >>= λ t.
      all_closed p t.cells packs (changed p a x packs y s r).packs >>= λ ms. Some (t, with_packs (changed p a x packs y s r) ms)

  abbrev pub steps2_small : List Part → Seen → Seen2 → Option (Seen × Seen2)
  steps2_small [] s r = Some (s, r)
  steps2_small (y ∷ ys) s r = step2_small y s r >>= λ t. steps2_small ys t.0 t.1

  abbrev pub clears_all2 : List Part → Seen → Seen2 → Kind → Bool
  clears_all2 [] s r fault = true
  clears_all2 (y ∷ ys) s r fault =
      clears_part2 p packs a x y s r fault && option_map_or (λ t. clears_all2 ys t.0 t.1 fault) (step2_small y s r) true

-- ---- the edge

module _ (p : Program) (packs : List Pack) (y : Stmt) (x : Action) where
  -- the same where the matrices are closed before the first part
  abbrev pub closed_walked : List Known → List (List ℤ) → Option (List (List ℤ))
  closed_walked cells cs =
      finished2 p packs (act_in y) x (steps2 p packs (act_in y) x (edge_parts p y x) (beginning cells) (beginning2 cs))

  abbrev pub closed_clears : List Known → Kind → List (List ℤ) → Bool
  closed_clears cells fault cs = clears_parts2 p packs (act_in y) x (edge_parts p y x) (beginning cells) (beginning2 cs) fault

  -- the matrices behind the edge; nothing where no run comes there
  abbrev pub statement_walked : List Known → List (List ℤ) → Option (List (List ℤ))
  statement_walked cells ms = all_closed p cells packs ms >>= λ cs. closed_walked cells cs

  abbrev pub statement_clears2 : List Known → List (List ℤ) → Kind → Bool
  statement_clears2 cells ms fault = option_map_or (closed_clears cells fault) (all_closed p cells packs ms) true
