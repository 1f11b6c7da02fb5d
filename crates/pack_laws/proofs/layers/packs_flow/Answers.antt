use Rattle.pack_laws.proofs.Flow.{packs_flow}
use Rattle.pack_laws.proofs.layers.packs_flow.Goals as goal

pub returns : goal.returns
returns c = packs_flow
