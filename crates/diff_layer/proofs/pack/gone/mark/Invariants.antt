use Rattle.diff_layer.specs.Gone.{is_gone}
use Rattle.diff_layer.proofs.Filling.{IsFilledTo}
use Rattle.diff_layer.proofs.pack.gone.mark.Given as goal

abbrev pub invariant-loop-k : goal.invariant-loop-k
invariant-loop-k l = IsFilledTo (is_gone l.layout l.gone) l.cells l.marks l.k
