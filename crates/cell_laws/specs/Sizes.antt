-- What the parts of an edge need, so that machine words hold the numbers that they are worked out by.
use Rattle.std.specs.Prelude.{◌≡◌, ℕ, Bool, true, Option, Some, IfSome}
use Rattle.std.specs.List.{AllByRecursion}
use Rattle.cob_program.specs.Act.{Act, Program}
use Rattle.cob_program.specs.Bounds.{Bound, is_small, is_small_atom}
use Rattle.cob_runs.specs.declared.action.Action.{Action}
use Rattle.cob_runs.specs.Contents.{form_at}
use Rattle.cob_runs.specs.Effects.{act_at}
use Rattle.cob_calc.specs.Contents.{bound_at}
use Rattle.cob_edge_parts.specs.Parts.{Amount, moved, augmented, Part, index, divide, store, bytes_in, guard, set_count, parts_of}
use Rattle.cob_graph.specs.declared.graph.Graph.{Graph}
use Rattle.graph_runs.specs.Sources.{IsSourceGraph}
use Rattle.sum_ranges.specs.declared.ranged.Ranged.{Ranged}
use Rattle.sum_ranges.specs.Working.{AreBounded}
use Rattle.transfer_ranges.specs.Receivers.{receiver_of}
use Rattle.transfer_ranges.specs.Sizes.{IsReceiver, IsSmallAmount}
use Rattle.transfer_ranges.specs.Small.{is_small_test}
use Rattle.transfer_ranges.specs.EdgeOperands.{edge_amount, edge_operands}
use Rattle.transfer_ranges.specs.SmallAmounts.{is_small_sender, has_small_sum}
use Rattle.transfer_ranges.specs.Working.{CanWork, amount_from}

-- the number that is sent is small; what is no sender's is asked elsewhere
abbrev pub is_small_sent : (ℕ → Bound) → Option Amount → Bool
is_small_sent bound (Some (moved y)) = is_small_sender bound y
is_small_sent bound (Some (augmented y)) = is_small_sender bound y
is_small_sent bound _ = true

-- The number that an edge sends is small. A text that isn't read as a number need not be.
abbrev pub sends_small : Program → Act → Action → Bool
sends_small p a x = is_small_sent (bound_at p.layout) (edge_amount a x)

-- A store's amount can be worked out, whatever is known of items within their pictures, when operands are taken and at
-- the receiver's turn.
pub record IsSmallStore (p : Program) (a : Act) (x : Action) (place : ℕ) (y : Amount) : Type 0 where
  pub sum : has_small_sum (bound_at p.layout) a ≡ true
  pub sender : sends_small p a x ≡ true
  pub receiver : IsReceiver (receiver_of (form_at p.layout place))
  pub can : (taken own : ℕ → Ranged) → AreBounded taken (bound_at p.layout) → AreBounded own (bound_at p.layout)
      → IfSome (edge_operands taken a x) (CanWork y (own place))
  pub small : (taken own : ℕ → Ranged) → AreBounded taken (bound_at p.layout) → AreBounded own (bound_at p.layout)
      → IfSome (amount_from (edge_operands taken a x) y (own place)) IsSmallAmount
  pub own : is_small (bound_at p.layout place) ≡ true

-- Operands are taken before the first part that writes, a change of bytes among them.
abbrev pub IsSmallPart : Program → Act → Action → Part → Type 0
IsSmallPart p a x (divide d) = is_small_atom (bound_at p.layout) d ≡ true
IsSmallPart p a x (store place mode y) = IsSmallStore p a x place y
IsSmallPart p a x (bytes_in offset count) = has_small_sum (bound_at p.layout) a ≡ true
IsSmallPart p a x (set_count n y) = (has_small_sum (bound_at p.layout) a ≡ true) × (sends_small p a x ≡ true)
-- the numbers of a subscript's item are compared with the table's
IsSmallPart p a x (index last k count) = is_small (bound_at p.layout k) ≡ true
IsSmallPart p a x (guard t wanted) = is_small_test (bound_at p.layout) p.layout t ≡ true
IsSmallPart p a x _ = Unit {0}

abbrev pub IsSmallEdge : Program → ℕ → Act → Action → Type 0
IsSmallEdge p statement a x = AllByRecursion (IsSmallPart p a x) (parts_of p statement a x)

-- Of each action of a statement, whether or not the graph has an edge with it.
abbrev pub EdgesAreSmallOfSources : Type 0
EdgesAreSmallOfSources =
    (p : Program) (g : Graph) → IsSourceGraph p g →
    (statement : ℕ) (a : Act) (x : Action) → act_at p statement ≡ Some a → IsSmallEdge p statement a x
