use Rattle.std.proofs.Common.{◌∙◌}
use Rattle.diff_layer.proofs.Sharing.{share_swapped}
use Rattle.diff_layer.proofs.pack.gone.share_bytes.Goals as goal

pub returns : goal.returns
returns c = c.share_extents.ensures ∙ share_swapped c.args.cell.now c.args.extent.now
