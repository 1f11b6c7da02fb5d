-- A program keeps the rules on PERFORM and GO TO, and then has a graph within the limits or more cells or nodes; or it
-- breaks a first rule.
use Rattle.std.proofs.Common.{◌≤◌, ◌<◌, ◌⊎◌, ⊎_elim, ℕ, List, length, map, min, Option, Some, None, refl, sym, subst, inl, inr, arith}
use Rattle.std.proofs.lemmas.Bool.{cases_lt}
use Rattle.cob_data.specs.declared.end.Rule.{Rule}
use Rattle.cob_data.specs.declared.end.Which.TheVariants as which
use Rattle.cob_data.specs.Layouts.{layout}
use Rattle.cob_program.specs.Act.{Program}
use Rattle.cob_graph.specs.Broken.{IsFirst, told, cycle_at, crossings, leavings, reversed_at, least_below}
use Rattle.cob_graph.specs.Covering.{Covers}
use Rattle.cob_graph.specs.Graphs.{IsMainCopy, HasNodes, cells_of, all_nodes, as_node, edges_of, final_of}
use Rattle.cob_graph.specs.Limits.{most_told, most_cells, most_nodes}
use Rattle.cob_graph.specs.Laid.{LaidParas}
use Rattle.cob_graph.specs.Nesting.{Call, IsNested, IsOutside, found_all}
use Rattle.cob_graph.proofs.FirstLemmas.{first_is}
use Rattle.cob_graph.proofs.OneCopy.{one_count}
use Rattle.cob_graph_build.specs.MainCopies.{HasTargets}
use Rattle.cob_graph_build.proofs.Totality.{main_copies}
use Rattle.cob_front.specs.declared.refusal.Refusal.{Refusal}
use Rattle.cob_front.specs.declared.refusal.Refusal.TheVariants as end
use Rattle.cob_front.specs.Source.{data_of}
use Rattle.cob_front.specs.Control.{IsControlCause}
use Rattle.source_facts.specs.Control.{SourcesHaveTargets, HasGraph, SourcesHaveGraphsOrCauses}
use Rattle.source_facts.proofs.Targets.{has_targets}

-- ---- rules on PERFORM and GO TO

covers_itself : (cs : List Call) → Covers cs cs
covers_itself cs = record { stands = λ d h. h; like = λ c h. (c, h, record { para = refl; span = refl; line = omega arith }) }

by_first : (p : Program) (o : Option (Rule × ℕ)) → IsFirst (found_all p) o → IsNested p ⊎ ((rule : Rule) × (line : ℕ) × IsOutside p rule line)
by_first p None is = inl record { kept = is.kept refl }
by_first p (Some (rule, line)) is =
    let first = is.outside rule line refl in
    inr (rule, line, record { broken = first.broken; first_line = first.first_line; first_rule = first.first_rule })

nested_or_outside : (p : Program) → IsNested p ⊎ ((rule : Rule) × (line : ℕ) × IsOutside p rule line)
nested_or_outside p =
    let f = found_all p in
    let n = length f.calls in
    let a = least_below (cycle_at f.calls) n in
    let b = least_below (crossings f.calls) n in
    let c = least_below (leavings f.calls f.jumps) n in
    let d = least_below (reversed_at f.calls) n in
    by_first p (told a b c d) (first_is f f.calls n a b c d (told a b c d) (covers_itself f.calls) refl refl refl refl refl refl)

-- ---- limits

module _ (p : Program) (nested : IsNested p) (copies : LaidParas) (laid : IsMainCopy p copies) where
  none : length (cells_of p) ≤ most_cells → final_of copies ≤ most_nodes → (cause : Refusal) → IsControlCause p cause → ⊥
  none cells nodes (end.Outside rule line) is = nested.kept rule line is.broken
  none cells nodes (end.Limit which.Cells count) (kept, is) = omega (arith, cells, is.over, is.counted)
  none cells nodes (end.Limit which.Nodes count) (kept, is) =
      let has : HasNodes p (final_of copies) = record { copies = copies; laid = laid; counted = refl } in
      let same = one_count p is.nodes (final_of copies) is.counted has in
      omega (arith, nodes, is.over, same)
  none cells nodes (end.Limit which.Items count) (kept, is) = is
  none cells nodes (end.Limit which.Storage count) (kept, is) = is
  none cells nodes (end.Limit which.Files count) (kept, is) = is
  none cells nodes (end.Limit which.Nesting count) (kept, is) = is
  none cells nodes end.TooLong is = is
  none cells nodes (end.BadLine line column) is = is
  none cells nodes (end.BadToken line column) is = is
  none cells nodes (end.Syntax line) is = is
  none cells nodes (end.Nesting count) is = is
  none cells nodes end.Memory is = is

  within : length (cells_of p) ≤ most_cells → final_of copies ≤ most_nodes → HasGraph p
  within cells nodes = record {
    graph = record { nodes = map as_node (all_nodes p copies); edges = edges_of 1 (all_nodes p copies); cells = cells_of p };
    is_graph = record { copies = copies; laid = laid; nodes = refl; edges = refl; cells = refl };
    within = none cells nodes;
  }

  over_nodes : length (cells_of p) ≤ most_cells → most_nodes < final_of copies → (cause : Refusal) × IsControlCause p cause
  over_nodes cells over = (
    end.Limit which.Nodes (min (final_of copies) most_told),
    (
      nested,
      record {
        cells = cells;
        nodes = final_of copies;
        counted = record { copies = copies; laid = laid; counted = refl };
        over = over;
        told = refl;
      },
    ),
  )

  graph_or_limit : HasGraph p ⊎ ((cause : Refusal) × IsControlCause p cause)
  graph_or_limit = ⊎_elim
      (λ over. inr (end.Limit which.Cells (length (cells_of p)), (nested, record { counted = refl; over = over })))
      (λ cells. ⊎_elim (λ over. inr (over_nodes cells over)) (λ nodes. inl (within cells nodes)) (cases_lt most_nodes (final_of copies)))
      (cases_lt most_cells (length (cells_of p)))

graph_or_cause : (p : Program) → HasTargets p → HasGraph p ⊎ ((cause : Refusal) × IsControlCause p cause)
graph_or_cause p targets = ⊎_elim
    (λ nested. let main = main_copies p nested targets in graph_or_limit p nested main.0 main.1)
    (λ out. inr (end.Outside out.0 out.1, out.2))
    (nested_or_outside p)

-- ---- programs of sources

pub sources_have_targets : SourcesHaveTargets
sources_have_targets bytes p is = subst HasTargets (sym is.program) (has_targets (layout (data_of is.tree)) is.tree)

pub sources_have_graphs_or_causes : SourcesHaveGraphsOrCauses
sources_have_graphs_or_causes bytes p is = graph_or_cause p (sources_have_targets bytes p is)
