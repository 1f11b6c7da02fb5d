use Rattle.cell_laws.proofs.EachEdge.{all_posts_stand}
use Rattle.cell_laws.proofs.laws.posts_stand.Goals as goal

pub returns : goal.returns
returns c = all_posts_stand
