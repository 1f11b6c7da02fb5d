use Rattle.diff_layer.proofs.SameWords.{demanded_is}
use Rattle.diff_layer.proofs.pack.matrix_images.demand_form.Goals as goal

pub returns-clause-value : goal.returns-clause-value
returns-clause-value c = demanded_is c.args.size c.args.form.now c.args.m.now c.demand.new.m c.demand.ensures.matrix c.demand.ensures.words
