use Rattle.diff_layer.proofs.SameWords.{forgotten_is}
use Rattle.diff_layer.proofs.pack.matrix_images.forget_cell.Goals as goal

pub returns-clause-value : goal.returns-clause-value
returns-clause-value c = forgotten_is c.args.size c.args.cell c.args.m.now c.forget.new.m c.requires.m c.forget.ensures.matrix c.forget.ensures.words
