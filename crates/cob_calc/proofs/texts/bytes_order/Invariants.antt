use Rattle.std.proofs.Common.{◌≡◌, max, length, drop}
use Rattle.cob_runs.specs.Contents.{fitted}
use Rattle.cob_runs.specs.Deciding.{bytes_order, text_order}
use Rattle.cob_calc.proofs.texts.bytes_order.Given as goal

abbrev pub invariant-loop-place : goal.invariant-loop-place
invariant-loop-place l =
    bytes_order (drop l.place (fitted (max (length l.a) (length l.b)) l.a)) (drop l.place (fitted (max (length l.a) (length l.b)) l.b))
    ≡ text_order l.a l.b
