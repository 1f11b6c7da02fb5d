-- The bytes of items, in all their occurrences, and of record areas.
use Rattle.cob_data.specs.declared.layout.FileDecl.{FileDecl}
use Rattle.cob_data.specs.declared.layout.Item.{Item}
use Rattle.cob_data.specs.declared.extent.Extent.{Extent}

abbrev pub extent_of : Item → Extent
extent_of i = record { offset = i.offset; length = i.length; times = i.times; stride = i.stride }

abbrev pub area_of : FileDecl → Extent
area_of f = record { offset = f.offset; length = f.length; times = 1; stride = 0 }
