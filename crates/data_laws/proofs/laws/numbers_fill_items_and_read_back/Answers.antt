use Rattle.data_laws.proofs.Lengths.{length-bytes_of}
use Rattle.data_laws.proofs.Own.{numbers_read_back}
use Rattle.data_laws.proofs.laws.numbers_fill_items_and_read_back.Goals as goal

pub returns-clause-fill : goal.returns-clause-fill
returns-clause-fill c = length-bytes_of

pub returns-clause-back : goal.returns-clause-back
returns-clause-back c = numbers_read_back
