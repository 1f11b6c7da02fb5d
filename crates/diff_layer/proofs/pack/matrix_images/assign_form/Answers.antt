use Rattle.diff_layer.proofs.SameWords.{assigned_is}
use Rattle.diff_layer.proofs.pack.matrix_images.assign_form.Goals as goal

pub returns-clause-value : goal.returns-clause-value
returns-clause-value c =
    assigned_is c.args.size c.args.to c.args.form.now c.args.m.now c.assign.new.m c.requires.m c.assign.ensures.matrix c.assign.ensures.words
