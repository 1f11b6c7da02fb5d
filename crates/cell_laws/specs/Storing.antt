-- What is known of cells behind a store into one occurrence of an item, for any number of occurrences.
use Rattle.std.specs.Prelude.{◌≡◌, ◌<◌, ℕ, true, List, Option, ℤ, Some}
use Rattle.cob_data.specs.declared.layout.Layout.{Layout}
use Rattle.cob_program.specs.Act.{Program}
use Rattle.cob_runs.specs.Contents.{form_at, times_at, bytes_of, occurrence_filled}
use Rattle.cob_runs.specs.Moves.{takes_number}
use Rattle.interval_domain.specs.declared.bounds.Interval.{Interval}
use Rattle.interval_domain.specs.Bounds.{Holds}
use Rattle.interval_domain.specs.Known.{Known, KnownFits}
use Rattle.interval_domain.specs.Elements.{CellsFit, CellsBelow}
use Rattle.transfer_ranges.specs.Results.{IsInside}
use Rattle.cell_steps.specs.OwnRanges.{form_range, owns}
use Rattle.cell_steps.specs.Premises.{HasSoundItems}
use Rattle.cell_steps.specs.Storages.{storage, StandsIn}
use Rattle.cell_steps.specs.Stores.{stored_cells}

-- an occurrence of an item that takes numbers gets one of an interval
pub record IsStoredIn (l : Layout) (place n : ℕ) (z : ℤ) (i : Interval) : Type 0 where
  pub there : n < times_at l place
  pub takes : takes_number (form_at l place) ≡ true
  pub fits : KnownFits (form_range (form_at l place)) (Some i)
  pub held : Holds i z

-- Where the cells are true of the storage before, those behind the store are true of the storage behind it: of the
-- occurrence that is new, of its siblings, and of all other items.
abbrev pub StoresStand : Type 0
StoresStand =
    (p : Program) (cells : List Known) (bytes : List ℕ) (counts : List (Option ℤ)) (place n : ℕ) (z : ℤ) (i : Interval) →
    HasSoundItems p.layout → IsStoredIn p.layout place n z i → StandsIn p cells (storage bytes counts) →
    StandsIn p (stored_cells p place cells i) (storage (occurrence_filled p.layout bytes place n (bytes_of (form_at p.layout place) z)) counts)

-- They rise with the cells before and with the interval, and lie in their own ranges.
abbrev pub StoresRise : Type 0
StoresRise =
    (p : Program) (less more : List Known) (place : ℕ) (i j : Interval) → CellsFit (owns p) less → CellsBelow less more →
    KnownFits (form_range (form_at p.layout place)) (Some i) → IsInside i j →
    CellsFit (owns p) (stored_cells p place less i) × CellsBelow (stored_cells p place less i) (stored_cells p place more j)
