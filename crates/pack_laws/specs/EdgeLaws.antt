-- What holds of each edge of a program's graph, beside what is known of cells.
use Rattle.std.specs.Prelude.{◌≡◌, ℕ, true, List, [], ◌∷◌, Option, Some, ℤ}
use Rattle.cob_tree.specs.declared.fault.Kind.{Kind}
use Rattle.cob_program.specs.Act.{Act, Program}
use Rattle.cob_runs.specs.declared.action.Action.{Action}
use Rattle.cob_edge_parts.specs.Parts.{is_handled, parts_of}
use Rattle.cob_edge_parts.specs.Meaning as run
use Rattle.cob_edge_parts.specs.Meaning.{Moment}
use Rattle.cob_edge_parts.specs.Edges.{fault_edge}
use Rattle.cob_edge_parts.specs.Counters.{PassesParts, MeetsAmong}
use Rattle.interval_domain.specs.Known.{Known}
use Rattle.interval_domain.specs.Elements.{CellsFit, CellsBelow}
use Rattle.cell_steps.specs.OwnRanges.{owns}
use Rattle.cell_steps.specs.Storages.{storage, StandsIn}
use Rattle.cell_steps.specs.Agreeing.{IsSoundEdge}
use Rattle.diff_steps.specs.Packs.{Pack, size_of, PacksStand}
use Rattle.diff_steps.specs.Edges.{post_packs}
use Rattle.diff_steps.specs.Clearing.{clears_edge2}
use Rattle.pack_laws.specs.Orders.{AreLowerOff}
use Rattle.pack_laws.specs.Agreeing.{AreMatrices, ArePacksOf}

-- no word of a matrix is above that of the other one's
abbrev pub AreLowerEach : List Pack → List (List ℤ) → List (List ℤ) → Type 0
AreLowerEach [] [] [] = Unit {0}
AreLowerEach (pack ∷ packs) (a ∷ as_) (b ∷ bs) = AreLowerOff (size_of pack) a b × AreLowerEach packs as_ bs
AreLowerEach _ _ _ = ⊥

-- The parts lead to a moment. On an edge to the list of ON SIZE ERROR some receiver has kept its value.
abbrev pub PostsStand : Type 0
PostsStand = (p : Program) (packs : List Pack) (statement : ℕ) (a : Act) (x : Action) (cells : List Known) (ms : List (List ℤ))
    (bytes : List ℕ) (counts : List (Option ℤ)) (last : Moment)
    → ArePacksOf p packs → IsSoundEdge p statement a x → StandsIn p cells (storage bytes counts) → AreMatrices packs ms → PacksStand p.layout packs ms (storage bytes counts)
    → PassesParts p.layout (is_handled a x) (parts_of p statement a x) (run.beginning bytes counts) last → last.failed ≡ is_handled a x
    → PacksStand p.layout packs (post_packs p packs statement a x (Some cells) ms) (storage last.storage last.counts)

abbrev pub ClearedIsntMet : Type 0
ClearedIsntMet = (p : Program) (packs : List Pack) (statement : ℕ) (a : Act) (x : Action) (cells : List Known) (ms : List (List ℤ))
    (bytes : List ℕ) (counts : List (Option ℤ)) (fault : Kind)
    → ArePacksOf p packs → IsSoundEdge p statement a x → StandsIn p cells (storage bytes counts) → AreMatrices packs ms → PacksStand p.layout packs ms (storage bytes counts)
    → clears_edge2 p packs statement a x cells ms fault ≡ true → fault_edge a x ≡ x
    → ¬ MeetsAmong p.layout (is_handled a x) (parts_of p statement a x) (run.beginning bytes counts) fault

abbrev pub PostsFit : Type 0
PostsFit = (p : Program) (packs : List Pack) (statement : ℕ) (a : Act) (x : Action) (cells : List Known) (ms : List (List ℤ))
    → CellsFit (owns p) cells → AreMatrices packs ms → AreMatrices packs (post_packs p packs statement a x (Some cells) ms)

abbrev pub PostsRise : Type 0
PostsRise = (p : Program) (packs : List Pack) (statement : ℕ) (a : Act) (x : Action) (less more : List Known) (low high : List (List ℤ))
    → CellsFit (owns p) less → CellsBelow less more → AreMatrices packs low → AreMatrices packs high → AreLowerEach packs low high
    → AreLowerEach packs (post_packs p packs statement a x (Some less) low) (post_packs p packs statement a x (Some more) high)

abbrev pub ClearsStay : Type 0
ClearsStay = (p : Program) (packs : List Pack) (statement : ℕ) (a : Act) (x : Action) (less more : List Known) (low high : List (List ℤ)) (fault : Kind)
    → CellsFit (owns p) less → CellsBelow less more → AreMatrices packs low → AreMatrices packs high → AreLowerEach packs low high
    → clears_edge2 p packs statement a x more high fault ≡ true → clears_edge2 p packs statement a x less low fault ≡ true
