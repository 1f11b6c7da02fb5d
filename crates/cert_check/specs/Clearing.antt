-- Which kinds of fault are cleared, by node and by statement.
use Rattle.std.specs.Prelude.{◌≡◌, ◌↔◌, ℕ, suc, ◌<◌, ◌==◌, List, Bool, true, get_or, length, if◌then◌else◌, ℤ}
use Rattle.std.specs.List.{flat_map, list_all, range_with_len}
use Rattle.cob_tree.specs.declared.fault.Kind.{Kind}
use Rattle.cob_tree.specs.declared.fault.Open.{Open}
use Rattle.cob_tree.specs.declared.kinds.Kinds.{Kinds}
use Rattle.cob_tree.specs.Kinds.{all_kinds, has, kinds_of, every_kind, both}
use Rattle.cob_graph.specs.declared.graph.Graph.{Graph}
use Rattle.dom_laws.specs.Flow.{Flow, IsNode}
use Rattle.dom_laws.specs.Meaning.{Meaning}
use Rattle.cert_check.specs.OpenPairs.{if_open, node_clears_by}

-- the pairs of a statement and these kinds that aren't cleared
abbrev pub left_of : Kinds → ℕ → List Kind → List Open
left_of cleared statement kinds = flat_map (λ fault. if_open (has cleared fault) statement fault) kinds

-- the pairs of a statement that aren't cleared
abbrev pub left_open : Kinds → ℕ → List Open
left_open cleared statement = left_of cleared statement all_kinds

-- what a node clears is noted at its statement
pub record IsNoted (statement : ℕ) (cleared : Kinds) (old new : List Kinds) : Type 0 where
  pub count : length new ≡ length old
  pub each : (k : ℕ) → k < length old →
      get_or new k every_kind ≡ (if statement == suc k then both (get_or old k every_kind) cleared else get_or old k every_kind)

-- The rows of a layer's nodes clear what these tests tell.
abbrev pub TestsTell : Flow → Meaning → (ℕ → List ℤ) → (ℕ → Kind → Bool) → Type 0
TestsTell f m rows clears =
    (node : ℕ) (fault : Kind) → IsNode f node → m.Clears node (rows node) fault ↔ (clears node fault ≡ true)

module _ (g : Graph) (clears : ℕ → Kind → Bool) where
  -- what those of the first nodes clear that are of the statement
  abbrev pub cleared_to : ℕ → ℕ → Kinds
  cleared_to nodes statement = kinds_of (λ fault. list_all (node_clears_by g clears statement fault) (range_with_len 1 nodes))

  -- what the first nodes clear is noted at each statement
  pub record AreClearedTo (nodes : ℕ) (noted : List Kinds) : Type 0 where
    pub each : (k : ℕ) → k < length noted → get_or noted k every_kind ≡ cleared_to nodes (suc k)
