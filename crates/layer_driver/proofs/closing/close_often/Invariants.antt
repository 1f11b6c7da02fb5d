use Rattle.std.proofs.Common.{◌≡◌, length}
use Rattle.layer_driver.proofs.closing.close_often.Given as goal

abbrev pub invariant-loop-turn : goal.invariant-loop-turn
invariant-loop-turn l = length l.out ≡ length l.m
