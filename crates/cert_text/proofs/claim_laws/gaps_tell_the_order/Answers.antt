use Rattle.cert_text.proofs.Telling.{gaps_tell}
use Rattle.cert_text.proofs.claim_laws.gaps_tell_the_order.Goals as goal

pub returns : goal.returns
returns c = gaps_tell
