-- The pairs of statements and faults that are left open, by what each node of a graph clears.
use Rattle.std.specs.Prelude.{◌==◌, ◌||◌, not, ℕ, List, [], ◌∷◌, length, Bool, if◌then◌else◌}
use Rattle.std.specs.List.{flat_map, list_all, list_any, range_with_len}
use Rattle.cob_tree.specs.declared.fault.Kind.{Kind}
use Rattle.cob_tree.specs.declared.fault.Open.{Open}
use Rattle.cob_tree.specs.Kinds.{all_kinds}
use Rattle.cob_graph.specs.declared.graph.Graph.{Graph}
use Rattle.cell_laws.specs.Layer.{statement_at}

abbrev pub open_at : ℕ → Kind → Open
open_at statement fault = record { statement = statement; kind = fault }

abbrev pub if_open : Bool → ℕ → Kind → List Open
if_open is_cleared statement fault = if is_cleared then [] else open_at statement fault ∷ []

-- some layer shows that the node meets no such fault
abbrev pub some_layer_clears : List (ℕ → Kind → Bool) → ℕ → Kind → Bool
some_layer_clears layers node fault = list_any (λ layer. layer node fault) layers

module _ (g : Graph) (clears : ℕ → Kind → Bool) where
  abbrev pub node_clears_by : ℕ → Kind → ℕ → Bool
  node_clears_by statement fault node = not (statement_at g node == statement) || clears node fault

  -- each node of the statement clears the fault
  abbrev pub is_cleared_by : ℕ → Kind → Bool
  is_cleared_by statement fault = list_all (node_clears_by statement fault) (range_with_len 1 (length g.nodes))

  abbrev pub open_by : ℕ → Kind → List Open
  open_by statement fault = if_open (is_cleared_by statement fault) statement fault

  abbrev pub opens_by : ℕ → List Open
  opens_by statement = flat_map (open_by statement) all_kinds

  -- the faults that some node of the statement doesn't clear, by statement, then by kind
  abbrev pub pairs_by : ℕ → List Open
  pairs_by statements = flat_map opens_by (range_with_len 1 statements)
