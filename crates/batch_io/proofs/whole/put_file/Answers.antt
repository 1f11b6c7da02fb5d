use Rattle.batch_io.proofs.PutLemmas.{puts_file}
use Rattle.batch_io.proofs.whole.put_file.Goals as goal

pub returns : goal.returns
returns g c = puts_file _ _ _ c.in_ok-id.id _ _ c.in_ok-id.ensures.call c.put_and_close.result c.put_and_close.ensures
