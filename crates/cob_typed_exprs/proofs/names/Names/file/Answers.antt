use Rattle.cob_typed_exprs.proofs.MeaningLemmas.{found_file}
use Rattle.cob_typed_exprs.proofs.names.Names.file.Goals as goal

pub returns : goal.returns
returns c = found_file c.args.self.now c.args.name.now _ c.search.ensures
