use Rattle.std.proofs.Common.{◌≡◌, drop}
use Rattle.diff_steps.specs.Packs.{cell_of}
use Rattle.diff_layer.proofs.Places.{place_from}
use Rattle.diff_layer.proofs.forms.view.place_of.Given as goal

abbrev pub invariant-loop-k : goal.invariant-loop-k
invariant-loop-k l = place_from l.k l.sought (drop l.k l.cells) ≡ cell_of l.cells l.sought
