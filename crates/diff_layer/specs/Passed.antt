-- What contracts see of a part that the row of cells has passed.
use Rattle.std.specs.Prelude.{List}
use Rattle.cob_program.specs.Act.{Program}
use Rattle.interval_domain.specs.Known.{Known}
use Rattle.interval_domain.specs.Rows.{cells_of}
use Rattle.diff_layer.specs.Views.{program_of, known_in}
use Rattle.diff_layer.specs.declared.pack.passed.Passed.{Passed}

abbrev pub program_in : Passed → Program
program_in passed = program_of passed.moment.items

-- what is known of cells before the part, and behind it
abbrev pub known_before : Passed → List Known
known_before passed = known_in passed.moment.items

abbrev pub known_behind : Passed → List Known
known_behind passed = cells_of passed.row.now
