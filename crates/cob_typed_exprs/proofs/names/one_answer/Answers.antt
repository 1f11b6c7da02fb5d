use Rattle.cob_typed_exprs.specs.Names.{NamesItem, NamesFlag, NamesFile, NamesRecord}
use Rattle.cob_typed_exprs.proofs.MeaningLemmas.{one_found}
use Rattle.cob_typed_exprs.proofs.names.one_answer.Goals as goal

pub returns : goal.returns
returns c = record {
  items = λ l r. one_found (NamesItem l r);
  flags = λ l r. one_found (NamesFlag l r);
  files = λ l text. one_found (NamesFile l text);
  records = λ l r. one_found (NamesRecord l r);
}
