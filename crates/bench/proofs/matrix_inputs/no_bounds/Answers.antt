use Rattle.std.proofs.Common.{refl}
use Rattle.diff_bounds.proofs.NoBounds.{cleared_first}
use Rattle.bench.proofs.matrix_inputs.no_bounds.Goals as goal

pub loop-place-init : goal.loop-place-init
loop-place-init c = cleared_first 8 81 refl
