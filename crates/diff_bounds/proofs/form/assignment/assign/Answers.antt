use Rattle.std.proofs.Common.{◌+◌, ◌∙◌, arith}
use Rattle.diff_bounds.specs.Matrix.{word}
use Rattle.diff_bounds.proofs.Assigned.{stands_assigned}
use Rattle.diff_bounds.proofs.Matrices.{put_is_assigned, assigned_is_matrix}
use Rattle.diff_bounds.proofs.form.assignment.assign.Goals as goal

pub returns-clause-matrix : goal.returns-clause-matrix
returns-clause-matrix c =
    assigned_is_matrix c.args.size c.args.to c.args.m.now c.put_column.new.m c.args.form.now c.requires.m (omega (arith, c.requires.m.width)) (c.put_column.ensures.diagonal ∙ c.put_row.ensures.diagonal) c.requires.last
    (put_is_assigned c.args.size c.args.to c.args.m.now c.put_row.new.m c.put_column.new.m c.row_words.new.words c.column_words.new.words c.args.form.now c.requires.last c.row_words.ensures c.column_words.ensures
    (record { done = c.put_row.ensures.row; others = c.put_row.ensures.others; diagonal = c.put_row.ensures.diagonal })
    (record { done = c.put_column.ensures.column; others = c.put_column.ensures.others; diagonal = c.put_column.ensures.diagonal }))

pub returns-clause-meaning : goal.returns-clause-meaning
returns-clause-meaning c cells z stands is =
    let n = c.args.size + 1 in
    stands_assigned c.args.size (word n c.args.m.now) (word n c.put_column.new.m) cells c.args.to c.args.form.now z c.requires.size c.requires.over (omega arith) c.requires.last stands is
    (put_is_assigned c.args.size c.args.to c.args.m.now c.put_row.new.m c.put_column.new.m c.row_words.new.words c.column_words.new.words c.args.form.now c.requires.last c.row_words.ensures c.column_words.ensures
    (record { done = c.put_row.ensures.row; others = c.put_row.ensures.others; diagonal = c.put_row.ensures.diagonal })
    (record { done = c.put_column.ensures.column; others = c.put_column.ensures.others; diagonal = c.put_column.ensures.diagonal }))
