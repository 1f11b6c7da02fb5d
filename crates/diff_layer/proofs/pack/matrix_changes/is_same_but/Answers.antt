use Rattle.std.proofs.Common.{arith}
use Rattle.diff_layer.proofs.SameBut.{same_all}
use Rattle.diff_layer.proofs.pack.matrix_changes.is_same_but.Goals as goal

pub returns : goal.returns
returns c t =
    same_all c.args.size c.args.at c.loop-k.k c.args.old.now c.args.new.now (omega (arith, c.requires.new)) (record { same = c.loop-k.invariant.same })
