use Rattle.diff_layer.proofs.Places.{place_from_first}
use Rattle.diff_layer.proofs.forms.view.place_of.Goals as goal

pub loop-k-init : goal.loop-k-init
loop-k-init c = place_from_first c.args.sought c.args.cells.now
