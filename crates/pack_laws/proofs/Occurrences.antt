-- Each home has a first occurrence.
use Rattle.std.proofs.Common.{◌<◌, arith}
use Rattle.cob_data.specs.declared.layout.Layout.{Layout}
use Rattle.cob_graph.specs.declared.homes.Home.{Home}
use Rattle.cob_graph.specs.declared.homes.Home.TheVariants.{Item as of_item, Count as of_count}
use Rattle.cell_steps.specs.Storages.{occurrences_of}
use Rattle.cell_steps.specs.Premises.{HasSoundItems}
use Rattle.cell_laws.proofs.HomesHold.{some_times}

pub first_home : (l : Layout) → HasSoundItems l → (h : Home) → 0 < occurrences_of l h
first_home l sound (of_item place) = some_times l sound place
first_home l sound (of_count statement) = omega arith
