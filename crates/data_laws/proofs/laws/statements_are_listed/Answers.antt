use Rattle.data_laws.proofs.Listed.{found_is_listed, listed_is_found}
use Rattle.data_laws.proofs.laws.statements_are_listed.Goals as goal

pub returns-clause-listed : goal.returns-clause-listed
returns-clause-listed c = found_is_listed

pub returns-clause-found : goal.returns-clause-found
returns-clause-found c = listed_is_found
