-- What holds of each edge of a program's graph: what is known behind it rises with what is known before it and is true of
-- what a run leaves; what is cleared isn't met.
use Rattle.std.specs.Prelude.{◌≡◌, ℕ, true, List, Option, ℤ}
use Rattle.dec_num.specs.declared.types.Mode.{Mode}
use Rattle.cob_tree.specs.declared.fault.Kind.{Kind}
use Rattle.cob_program.specs.Act.{Act, Program}
use Rattle.cob_runs.specs.declared.action.Action.{Action}
use Rattle.cob_edge_parts.specs.Parts.{Amount, is_handled, parts_of}
use Rattle.cob_edge_parts.specs.Meaning as run
use Rattle.cob_edge_parts.specs.Meaning.{Moment}
use Rattle.cob_edge_parts.specs.Edges.{fault_edge}
use Rattle.dom_laws.specs.Walking.{IsSound}
use Rattle.cob_edge_parts.specs.Counters.{PassesParts, MeetsAmong}
use Rattle.interval_domain.specs.Known.{Known}
use Rattle.interval_domain.specs.Elements.{CellsFit, ElementFits, CellsBelow, ElementBelow}
use Rattle.cell_steps.specs.OwnRanges.{owns}
use Rattle.cell_steps.specs.Storages.{storage, StandsIn, ElementStands}
use Rattle.cell_steps.specs.Seen.{Seen}
use Rattle.cell_steps.specs.Stores.{with_taken, may_fail, may_fit}
use Rattle.cell_steps.specs.Edges.{post_cells, clears_edge}
use Rattle.cell_steps.specs.Order.{SeenBelow}
use Rattle.cell_steps.specs.Agreeing.{IsSoundEdge, walking}

-- the four laws of a walk over an edge's parts
abbrev pub EdgesAreWalked : Type 0
EdgesAreWalked = (p : Program) (statement : ℕ) (a : Act) (x : Action) → IsSound (walking p statement a x) (parts_of p statement a x)

-- known cells keep lying in their own ranges
abbrev pub PostsFit : Type 0
PostsFit = (p : Program) (statement : ℕ) (a : Act) (x : Action) (cells : List Known)
    → CellsFit (owns p) cells → ElementFits (owns p) (post_cells p statement a x cells)

abbrev pub PostsRise : Type 0
PostsRise = (p : Program) (statement : ℕ) (a : Act) (x : Action) (less more : List Known)
    → CellsFit (owns p) less → CellsBelow less more → ElementBelow (post_cells p statement a x less) (post_cells p statement a x more)

abbrev pub ClearsStay : Type 0
ClearsStay = (p : Program) (statement : ℕ) (a : Act) (x : Action) (less more : List Known) (fault : Kind)
    → CellsFit (owns p) less → CellsBelow less more → clears_edge p statement a x more fault ≡ true → clears_edge p statement a x less fault ≡ true

-- Where less is seen before a store, it may keep or change its receiver only where it may above.
abbrev pub FlagsRise : Type 0
FlagsRise = (p : Program) (a : Act) (x : Action) (place : ℕ) (mode : Mode) (y : Amount) (less more : Seen) → SeenBelow p a x less more
    → (may_fail p a x (with_taken p a x less) place mode y ≡ true → may_fail p a x (with_taken p a x more) place mode y ≡ true)
    × (may_fit p a x (with_taken p a x less) place mode y ≡ true → may_fit p a x (with_taken p a x more) place mode y ≡ true)

-- The parts lead to a moment. On an edge to the list of ON SIZE ERROR some receiver has kept its value.
abbrev pub PostsStand : Type 0
PostsStand = (p : Program) (statement : ℕ) (a : Act) (x : Action) (cells : List Known) (bytes : List ℕ) (counts : List (Option ℤ)) (last : Moment)
    → IsSoundEdge p statement a x → StandsIn p cells (storage bytes counts)
    → PassesParts p.layout (is_handled a x) (parts_of p statement a x) (run.beginning bytes counts) last → last.failed ≡ is_handled a x
    → ElementStands p (post_cells p statement a x cells) (storage last.storage last.counts)

abbrev pub ClearedIsntMet : Type 0
ClearedIsntMet = (p : Program) (statement : ℕ) (a : Act) (x : Action) (cells : List Known) (bytes : List ℕ) (counts : List (Option ℤ)) (fault : Kind)
    → IsSoundEdge p statement a x → StandsIn p cells (storage bytes counts)
    → clears_edge p statement a x cells fault ≡ true → fault_edge a x ≡ x
    → ¬ MeetsAmong p.layout (is_handled a x) (parts_of p statement a x) (run.beginning bytes counts) fault
