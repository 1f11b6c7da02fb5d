use Rattle.cob_typed_exprs.proofs.MeaningLemmas.{found_record}
use Rattle.cob_typed_exprs.proofs.names.Names.record.Goals as goal

pub returns : goal.returns
returns c = found_record c.args.self.now c.args.reference.now _ (rw (c.get.ensures, c.get-2.ensures) at c.search.ensures)
