-- When what is known of differences between two parts of an edge is true of a moment of a run.
use Rattle.std.specs.Prelude.{◌≡◌, ◌<◌, ◌≤◌, ℕ, false, List, [], ◌∷◌, ℤ, slice_get, Some}
use Rattle.std.specs.List.{Contains}
use Rattle.cob_data.specs.declared.extent.Extent.{Extent}
use Rattle.cob_data.specs.declared.layout.Layout.{Layout}
use Rattle.cob_program.specs.Act.{Act, Program}
use Rattle.cob_runs.specs.declared.action.Action.{Action}
use Rattle.cob_runs.specs.Contents.{times_at, occurrence_number}
use Rattle.cob_edge_parts.specs.Parts.{Part}
use Rattle.cob_edge_parts.specs.Meaning.{Moment}
use Rattle.diff_bounds.specs.Matrix.{IsMatrix}
use Rattle.cob_graph.specs.declared.homes.Home.{Home}
use Rattle.cob_graph.specs.declared.homes.Home.TheVariants.{Item as of_item}
use Rattle.cob_graph.specs.Homes.{homes_of}
use Rattle.cell_steps.specs.Cells.{is_table}
use Rattle.cell_steps.specs.Storages.{storage}
use Rattle.cell_steps.specs.Seen.{Seen}
use Rattle.cell_steps.specs.Agreeing.{Agrees}
use Rattle.diff_steps.specs.Packs.{Pack, size_of, PacksStand}
use Rattle.diff_steps.specs.Moments.{Seen2, is_written}

-- Each occurrence of an item to none of whose bytes the edge has written has the number that it had where the edge began.
pub record IsTracked (l : Layout) (wrote : List Extent) (m : Moment) : Type 0 where
  pub same : (place n : ℕ) → n < times_at l place → is_written l wrote place ≡ false
      → occurrence_number l m.storage place n ≡ occurrence_number l m.first place n

-- each pack has 8 cells at most, and its own matrix
abbrev pub AreMatrices : List Pack → List (List ℤ) → Type 0
AreMatrices [] [] = Unit {0}
AreMatrices (pack ∷ packs) (m ∷ ms) = ((size_of pack ≤ 8) × IsMatrix (size_of pack) m) × AreMatrices packs ms
AreMatrices _ _ = ⊥

-- ---- packs of a program

-- Each cell is one of the program's, no two are of one home, and none is a table's.
pub record IsPackOf (p : Program) (pack : Pack) : Type 0 where
  pub homes : (k : ℕ) (h : Home) → slice_get pack k ≡ Some h → Contains (homes_of p) h
  pub distinct : (j k : ℕ) (h : Home) → slice_get pack j ≡ Some h → slice_get pack k ≡ Some h → j ≡ k
  pub plain : (k place : ℕ) → slice_get pack k ≡ Some (of_item place) → is_table p.layout place ≡ false

abbrev pub ArePacksOf : Program → List Pack → Type 0
ArePacksOf p [] = Unit {0}
ArePacksOf p (pack ∷ packs) = IsPackOf p pack × ArePacksOf p packs

-- ---- moments

module _ (p : Program) (packs : List Pack) (statement : ℕ) (a : Act) (x : Action) where
  -- a moment behind these parts agrees with what is known of cells and of their differences there
  pub record Agrees2 (done : List Part) (s : Seen) (r : Seen2) (m : Moment) : Type 0 where
    pub cells : Agrees p statement a x done s m
    pub tracked : IsTracked p.layout r.wrote m
    pub matrices : AreMatrices packs r.packs
    pub stand : PacksStand p.layout packs r.packs (storage m.storage m.counts)
