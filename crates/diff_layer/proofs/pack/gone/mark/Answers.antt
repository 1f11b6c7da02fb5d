use Rattle.std.proofs.Common.{rules, refl}
use Rattle.diff_layer.specs.Gone.{is_gone}
use Rattle.diff_layer.proofs.Filling.{fill_goes_on, fill_ends}
use Rattle.diff_layer.proofs.pack.gone.mark.Goals as goal

pub loop-k-preserved : goal.loop-k-preserved
loop-k-preserved c =
    fill_goes_on (is_gone c.args.layout.now c.args.gone) c.args.cells.now c.loop-k.marks _ c.loop-k.k _ c.is_gone.result c.loop-k.invariant
    (search rules) refl c.is_gone.ensures

pub returns : goal.returns
returns c =
    fill_ends (is_gone c.args.layout.now c.args.gone) c.args.cells.now c.loop-k.marks c.loop-k.k c.loop-k.invariant (search rules)
