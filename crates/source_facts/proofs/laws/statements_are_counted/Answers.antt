use Rattle.source_facts.proofs.Facts.{sources_number_statements, sources_count_statements}
use Rattle.source_facts.proofs.laws.statements_are_counted.Goals as goal

pub returns-clause-order : goal.returns-clause-order
returns-clause-order c = sources_number_statements

pub returns-clause-counted : goal.returns-clause-counted
returns-clause-counted c = sources_count_statements
