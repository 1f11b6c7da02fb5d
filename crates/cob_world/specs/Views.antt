-- What contracts see of files.
use Rattle.cob_world.specs.declared.files.FileMode.{FileMode}
use Rattle.cob_world.specs.declared.files.FileMode.TheVariants as variant
use Rattle.cob_runs.specs.Files.{Mode, closed, reading, writing}

abbrev pub plain_mode : FileMode → Mode
plain_mode variant.Closed = closed
plain_mode (variant.Reading ended) = reading ended
plain_mode variant.Writing = writing
