use Rattle.std.proofs.Common.{◌+◌, arith}
use Rattle.diff_bounds.specs.Matrix.{word}
use Rattle.diff_bounds.proofs.Demanded.{stands_demanded}
use Rattle.diff_bounds.proofs.Lowered.{words_demanded, demanded_is_matrix}
use Rattle.diff_bounds.proofs.form.demands.demand.Goals as goal

pub returns-clause-words : goal.returns-clause-words
returns-clause-words c = words_demanded c.args.size c.args.m.now c.lower_words.new.m c.args.form.now c.requires.m.width c.lower_words.ensures

pub returns-clause-matrix : goal.returns-clause-matrix
returns-clause-matrix c =
    demanded_is_matrix c.args.size c.args.m.now c.lower_words.new.m c.args.form.now c.requires.m (omega (arith, c.requires.m.width))
    (words_demanded c.args.size c.args.m.now c.lower_words.new.m c.args.form.now c.requires.m.width c.lower_words.ensures)

pub returns-clause-meaning : goal.returns-clause-meaning
returns-clause-meaning c cells stands met =
    let n = c.args.size + 1 in
    stands_demanded c.args.size (word n c.args.m.now) (word n c.lower_words.new.m) cells c.args.form.now c.requires.size c.requires.over stands met
    (words_demanded c.args.size c.args.m.now c.lower_words.new.m c.args.form.now c.requires.m.width c.lower_words.ensures)
