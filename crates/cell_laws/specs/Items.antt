-- What an analysis of cells relies on holds of each layout.
use Rattle.cob_data.specs.declared.layout.Layout.{Layout}
use Rattle.cob_store.specs.WellFormed.{HasWellFormedItems}
use Rattle.graph_runs.specs.Sources.{SeparateItemsHaveSigns}
use Rattle.cell_steps.specs.Premises.{HasSoundItems}

abbrev pub ItemsAreSound : Type 0
ItemsAreSound = (l : Layout) → HasWellFormedItems l → SeparateItemsHaveSigns l → HasSoundItems l
