use Rattle.command_words.proofs.Readings.{one_reading}
use Rattle.command_words.proofs.reading.one_reading.Goals as goal

pub returns : goal.returns
returns c = one_reading
