use Rattle.std.proofs.Common.{◌+◌, refl}
use Rattle.diff_bounds.specs.Matrix.{word}
use Rattle.diff_layer.proofs.SameBut.{tight_of}
use Rattle.diff_layer.proofs.pack.matrix_closing.close_changed.Goals as goal

pub close_one_row-requires-clause-tight : goal.close_one_row-requires-clause-tight
close_one_row-requires-clause-tight c =
    let n = c.args.size + 1 in
    tight_of c.args.size c.in-Some.at (word n c.args.last.now) (word n c.args.m.now) c.in-Some.ensures.1 (c.requires.tight.tight (c.if-settled.ensures.0 refl) c.in-Some.at)
