use Rattle.pack_laws.proofs.Meaning.{packs_mean}
use Rattle.pack_laws.proofs.layers.packs_mean.Goals as goal

pub returns : goal.returns
returns c = packs_mean
