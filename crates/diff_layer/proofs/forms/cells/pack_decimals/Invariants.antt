use Rattle.std.proofs.Common.{◌≡◌, drop}
use Rattle.diff_steps.specs.Packs as packs
use Rattle.diff_layer.proofs.forms.cells.pack_decimals.Given as goal

abbrev pub invariant-loop-k : goal.invariant-loop-k
invariant-loop-k l = l.most ≡ packs.pack_decimals l.layout (drop l.k l.cells)
