use Rattle.std.proofs.Common.{◌∙◌}
use Rattle.interval_domain.proofs.CellByCell.{list_is}
use Rattle.interval_domain.proofs.widening.list_at.Goals as goal

pub returns : goal.returns
returns c = c.as_slice.ensures.value ∙ list_is c.args.lists.now c.args.k c.index-lists-k.result c.requires c.index-lists-k.is
