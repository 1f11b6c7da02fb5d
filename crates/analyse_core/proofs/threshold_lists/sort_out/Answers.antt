use Rattle.std.proofs.Common.{◌∙◌}
use Rattle.std.proofs.lemmas.List.Filters.{dedup_is}
use Rattle.analyse_core.proofs.PackRising.{sorted_out}
use Rattle.analyse_core.proofs.threshold_lists.sort_out.Goals as goal

pub returns : goal.returns
returns c = dedup_is _ _ _ c.dedup.ensures.filtered ∙ sorted_out _ _ c.sort_unstable.ensures.permutation c.sort_unstable.ensures.sorted
