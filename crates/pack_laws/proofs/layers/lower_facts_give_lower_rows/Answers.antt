use Rattle.pack_laws.proofs.Flow.{posts_fall}
use Rattle.pack_laws.proofs.Clears.{cleared_stays}
use Rattle.pack_laws.proofs.layers.lower_facts_give_lower_rows.Goals as goal

pub returns-clause-posts : goal.returns-clause-posts
returns-clause-posts c = posts_fall

pub returns-clause-clears : goal.returns-clause-clears
returns-clause-clears c = cleared_stays
