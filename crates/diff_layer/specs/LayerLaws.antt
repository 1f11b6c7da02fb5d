-- What a layer's laws follow from.
use Rattle.std.proofs.Common.{◌≡◌, ◌≤◌, ℕ, List, length, ℤ, Vec, Some, None, sym, ap, ◌∙◌}
use Rattle.std.specs.Coded.{Unit-prop}
use Rattle.std.specs.declared.alloc.Global.{Global}
use Rattle.std.specs.List.{AllByRecursion, AllByRecursion-prop}
use Rattle.std.proofs.Props.{props}
use Rattle.std.proofs.Math.Logic.{∥∥₁_elim, ∥∥₁_prop}
use Rattle.std.proofs.lemmas.List.{length-map}
use Rattle.cob_program.specs.Act.{Program}
use Rattle.cob_graph.specs.declared.graph.Graph.{Graph}
use Rattle.interval_domain.specs.declared.bounds.Interval.{Interval}
use Rattle.dom_laws.specs.Lattice.{IsLattice}
use Rattle.dom_laws.specs.Flow.{IsFlow}
use Rattle.dom_laws.specs.Meaning.{IsMeaning}
use Rattle.graph_runs.specs.Sources.{IsSourceGraph}
use Rattle.interval_domain.specs.Elements.{Element, ElementFits}
use Rattle.interval_domain.specs.Rows.{IsRow}
use Rattle.cob_graph.specs.Homes.{homes_of}
use Rattle.cell_layer.proofs.FirstCells.{homes_many}
use Rattle.cell_layer.specs.declared.layer.works.EdgeWorks.{EdgeWorks}
use Rattle.cell_layer.specs.Held.{IsHeld}
use Rattle.diff_bounds.specs.declared.Pack as declared
use Rattle.diff_bounds.specs.Widening.{AreThresholds}
use Rattle.diff_steps.specs.Packs.{Pack}
use Rattle.diff_bounds.specs.PackRows.{lists_of}
use Rattle.diff_bounds.proofs.PackRows.{packs_are_a_lattice}
use Rattle.pack_laws.specs.Layer.{Facts, AreFacts, ArePacks, sizes_of, diff_lattice, diff_flow, diff_meaning}
use Rattle.pack_laws.proofs.Flow.{packs_flow}
use Rattle.pack_laws.proofs.Meaning.{packs_mean}
use Rattle.pack_laws.specs.Packs.{packs_of, AreRisingNumbers, ArePacksOfCells}
use Rattle.pack_laws.proofs.Distinct.{homes_of_sources_are_distinct, sources_have_no_tables}
use Rattle.pack_laws.proofs.Packed.{HasDistinctHomes, HasPlainItems, are_packs}
use Rattle.diff_layer.specs.AtMostOne.{cells_prop}

-- ---- what has one proof at most

numbers_prop : (count : ℕ) (numbers : List ℕ) → IsProp (AreRisingNumbers count numbers)
numbers_prop count numbers = hlevel props

pub packs_prop : (count : ℕ) (packs : List declared.Pack) → IsProp (ArePacksOfCells count packs)
packs_prop count packs = AllByRecursion-prop (λ (pack : declared.Pack). AreRisingNumbers count pack.cells.items) (λ pack. numbers_prop count pack.cells.items) packs

thresholds_prop : (ts : List ℤ) → IsProp (AreThresholds ts)
thresholds_prop ts = hlevel props

element_prop : (owns_ : List Interval) (e : Element) → IsProp (ElementFits owns_ e)
element_prop owns_ None = Unit-prop
element_prop owns_ (Some cs) = cells_prop owns_ cs

row_prop : (owns_ : List Interval) (row : List ℤ) → IsProp (IsRow owns_ row)
row_prop owns_ row = hlevel (props, element_prop)

facts_prop : (p : Program) (g : Graph) (facts : Facts) → IsProp (AreFacts p g facts)
facts_prop p g facts = hlevel (props, row_prop)

-- ---- facts and thresholds

pub facts_of : (p : Program) (g : Graph) (facts : Facts) → ∥ AreFacts p g facts ∥₁ → AreFacts p g facts
facts_of p g facts known = ∥∥₁_elim known (facts_prop p g facts) (λ a. a)

pub thresholds_of : (lists : List (List ℤ)) → ∥ AllByRecursion AreThresholds lists ∥₁ → AllByRecursion AreThresholds lists
thresholds_of lists ends = ∥∥₁_elim ends (AllByRecursion-prop AreThresholds thresholds_prop lists) (λ a. a)

pub lists_within : (lists : List (Vec ℤ Global)) → ∥ AllByRecursion (λ list. length list.items ≤ 2048) lists ∥₁ → AllByRecursion (λ list. length list.items ≤ 2048) lists
lists_within lists few =
    ∥∥₁_elim few (AllByRecursion-prop (λ (list : Vec ℤ Global). length list.items ≤ 2048) (λ list. hlevel props) lists) (λ a. a)

pub ordered_by : (packs : List Pack) (lists : List (List ℤ)) → ∥ AllByRecursion AreThresholds lists ∥₁ → IsLattice (diff_lattice packs lists)
ordered_by packs lists ends = packs_are_a_lattice (sizes_of packs) lists (thresholds_of lists ends)

-- ---- packs

module _ (p : Program) (g : Graph) (works : EdgeWorks) (held : ∥ IsHeld p g works ∥₁) where
  pub source_of : ∥ IsSourceGraph p g ∥₁
  source_of = ∥∥₁_elim held ∥∥₁_prop (λ h. ∣ h.source ∣₁)

  distinct_homes : HasDistinctHomes p
  distinct_homes j k h e f =
      ∥∥₁_elim held (hlevel props) (λ s. homes_of_sources_are_distinct p g s.source j k h e f)

  plain_items : HasPlainItems p.layout
  plain_items place = ∥∥₁_elim held (hlevel props) (λ s. sources_have_no_tables p g s.source place)

  pub cells_for_homes : length g.cells ≡ length (homes_of p)
  cells_for_homes = ∥∥₁_elim held (hlevel props) (λ h. ap length h.source.graph.cells ∙ sym (homes_many p))

  module _ (packs : List declared.Pack) (cells : ∥ ArePacksOfCells (length g.cells) packs ∥₁) where
    pub packs_are : (lists : List (List ℤ)) → length lists ≡ length packs → ArePacks p (packs_of p packs) lists
    packs_are lists listed =
        are_packs p (length g.cells) cells_for_homes distinct_homes plain_items packs lists
        (∥∥₁_elim cells (packs_prop (length g.cells) packs) (λ a. a)) listed

    module _ (thresholds : List (Vec ℤ Global)) (listed : length thresholds ≡ length packs) where
      pub its_packs : ArePacks p (packs_of p packs) (lists_of thresholds)
      its_packs = packs_are (lists_of thresholds) (length-map thresholds (λ list. list.items) ∙ listed)

      -- ---- flow and meaning

      module _ (facts : Facts) (known : ∥ AreFacts p g facts ∥₁) where
        pub flows_by : IsFlow (diff_lattice (packs_of p packs) (lists_of thresholds)) (diff_flow p g (packs_of p packs) facts)
        flows_by = packs_flow p g (packs_of p packs) (lists_of thresholds) facts source_of its_packs (facts_of p g facts known)

        pub means_by : IsMeaning (diff_lattice (packs_of p packs) (lists_of thresholds)) (diff_flow p g (packs_of p packs) facts)
            (diff_meaning p g (packs_of p packs) facts)
        means_by = packs_mean p g (packs_of p packs) (lists_of thresholds) facts its_packs (facts_of p g facts known)
