use Rattle.std.proofs.Common.{◌≡◌, max, length, drop}
use Rattle.cob_runs.specs.Contents.{fitted}
use Rattle.cob_runs.specs.Deciding.{bytes_order, text_order}
use Rattle.cob_calc.specs.Comparing.{plain_text}
use Rattle.cob_calc.proofs.texts.Text.order_by_places.Given as goal

abbrev pub invariant-loop-place : goal.invariant-loop-place
invariant-loop-place l =
    bytes_order (drop l.place (fitted (max (length (plain_text l.self)) (length (plain_text l.other))) (plain_text l.self)))
    (drop l.place (fitted (max (length (plain_text l.self)) (length (plain_text l.other))) (plain_text l.other)))
    ≡ text_order (plain_text l.self) (plain_text l.other)
