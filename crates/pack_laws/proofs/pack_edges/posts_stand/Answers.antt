use Rattle.pack_laws.proofs.PacksStand.{all_packs_stand}
use Rattle.pack_laws.proofs.pack_edges.posts_stand.Goals as goal

pub returns : goal.returns
returns c = all_packs_stand
