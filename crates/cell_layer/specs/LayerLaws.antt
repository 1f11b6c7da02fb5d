-- What a layer's laws follow from.
use Rattle.std.proofs.Common.{List, [], ◌∷◌, ℤ}
use Rattle.std.specs.Coded.{×_prop, Unit-prop}
use Rattle.std.proofs.Props.{props}
use Rattle.std.proofs.Math.Logic.{∥∥₁_elim, ∥∥₁_prop}
use Rattle.cob_program.specs.Act.{Program}
use Rattle.cob_graph.specs.declared.graph.Graph.{Graph}
use Rattle.interval_domain.specs.declared.bounds.Interval.{Interval}
use Rattle.dom_laws.specs.Lattice.{IsLattice}
use Rattle.dom_laws.specs.Flow.{IsFlow}
use Rattle.dom_laws.specs.Meaning.{IsMeaning}
use Rattle.interval_domain.specs.Known.{HasEnds}
use Rattle.interval_domain.specs.Elements.{AreThresholds}
use Rattle.interval_domain.specs.Rows.{cells_lattice}
use Rattle.interval_domain.proofs.Rows.{cells_are_a_lattice}
use Rattle.graph_runs.specs.Sources.{IsSourceGraph}
use Rattle.cell_steps.specs.OwnRanges.{owns}
use Rattle.cell_laws.specs.Layer.{cell_flow, cell_meaning}
use Rattle.cell_laws.proofs.Flow.{cells_flow}
use Rattle.cell_laws.proofs.Meaning.{cells_mean}
use Rattle.cell_layer.specs.declared.layer.works.EdgeWorks.{EdgeWorks}
use Rattle.cell_layer.specs.Held.{IsHeld}

-- ---- thresholds

ends_prop : (own : Interval) (ts : List ℤ) → IsProp (HasEnds own ts)
ends_prop own ts = hlevel props

thresholds_prop : (owns_ : List Interval) (lists : List (List ℤ)) → IsProp (AreThresholds owns_ lists)
thresholds_prop [] [] = Unit-prop
thresholds_prop [] (ts ∷ lists) = λ a b. absurd a
thresholds_prop (own ∷ owns_) [] = λ a b. absurd a
thresholds_prop (own ∷ owns_) (ts ∷ lists) = ×_prop (ends_prop own ts) (thresholds_prop owns_ lists)

pub ends_of : (owns_ : List Interval) (lists : List (List ℤ)) → ∥ AreThresholds owns_ lists ∥₁ → AreThresholds owns_ lists
ends_of owns_ lists ends = ∥∥₁_elim ends (thresholds_prop owns_ lists) (λ a. a)

pub ordered_by : (owns_ : List Interval) (lists : List (List ℤ)) → ∥ AreThresholds owns_ lists ∥₁ → IsLattice (cells_lattice owns_ lists)
ordered_by owns_ lists ends = cells_are_a_lattice owns_ lists (ends_of owns_ lists ends)

-- ---- flow and meaning

module _ (p : Program) (g : Graph) (works : EdgeWorks) where
  source_of : ∥ IsHeld p g works ∥₁ → ∥ IsSourceGraph p g ∥₁
  source_of held = ∥∥₁_elim held ∥∥₁_prop (λ h. ∣ h.source ∣₁)

  pub flows_by : (lists : List (List ℤ)) → ∥ IsHeld p g works ∥₁ → IsFlow (cells_lattice (owns p) lists) (cell_flow p g)
  flows_by lists held = cells_flow p g lists (source_of held)

pub means_by : (p : Program) (g : Graph) (lists : List (List ℤ)) → IsMeaning (cells_lattice (owns p) lists) (cell_flow p g) (cell_meaning p g)
means_by p g lists = cells_mean p g lists
