use Rattle.data_laws.proofs.Stored.{first_storage_is_whole, values_stand_at_first, values_read_at_first}
use Rattle.data_laws.proofs.laws.values_stand_at_first.Goals as goal

pub returns-clause-whole : goal.returns-clause-whole
returns-clause-whole c = first_storage_is_whole

pub returns-clause-bytes : goal.returns-clause-bytes
returns-clause-bytes c = values_stand_at_first

pub returns-clause-number : goal.returns-clause-number
returns-clause-number c = values_read_at_first
