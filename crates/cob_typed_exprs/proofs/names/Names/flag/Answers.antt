use Rattle.cob_typed_exprs.proofs.MeaningLemmas.{found_flag}
use Rattle.cob_typed_exprs.proofs.names.Names.flag.Goals as goal

pub returns : goal.returns
returns c = found_flag c.args.self.now c.args.reference.now _ (rw (c.get.ensures, c.get-2.ensures) at c.search.ensures)
