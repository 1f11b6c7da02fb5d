use Rattle.std.proofs.Common.{◌+◌, ◌∙◌, arith}
use Rattle.diff_bounds.specs.Matrix.{word}
use Rattle.diff_bounds.proofs.Forgotten.{put_is_forgotten, forgotten_is_matrix, stands_forgotten}
use Rattle.diff_bounds.proofs.form.forgetting.forget.Goals as goal

pub returns-clause-words : goal.returns-clause-words
returns-clause-words c =
    put_is_forgotten c.args.size c.args.cell c.args.m.now c.put_row.new.m c.put_column.new.m c.requires.size c.requires.last
    (record { done = c.put_row.ensures.row; others = c.put_row.ensures.others; diagonal = c.put_row.ensures.diagonal })
    (record { done = c.put_column.ensures.column; others = c.put_column.ensures.others; diagonal = c.put_column.ensures.diagonal })

pub returns-clause-matrix : goal.returns-clause-matrix
returns-clause-matrix c =
    forgotten_is_matrix c.args.size c.args.cell c.args.m.now c.put_column.new.m c.requires.m (omega (arith, c.requires.m.width)) (c.put_column.ensures.diagonal ∙ c.put_row.ensures.diagonal) c.requires.last
    (put_is_forgotten c.args.size c.args.cell c.args.m.now c.put_row.new.m c.put_column.new.m c.requires.size c.requires.last
    (record { done = c.put_row.ensures.row; others = c.put_row.ensures.others; diagonal = c.put_row.ensures.diagonal })
    (record { done = c.put_column.ensures.column; others = c.put_column.ensures.others; diagonal = c.put_column.ensures.diagonal }))

pub returns-clause-meaning : goal.returns-clause-meaning
returns-clause-meaning c cells other stands agree =
    stands_forgotten c.args.size c.args.cell (word (c.args.size + 1) c.args.m.now) (word (c.args.size + 1) c.put_column.new.m) cells other c.requires.last
    (put_is_forgotten c.args.size c.args.cell c.args.m.now c.put_row.new.m c.put_column.new.m c.requires.size c.requires.last
    (record { done = c.put_row.ensures.row; others = c.put_row.ensures.others; diagonal = c.put_row.ensures.diagonal })
    (record { done = c.put_column.ensures.column; others = c.put_column.ensures.others; diagonal = c.put_column.ensures.diagonal }))
    stands agree
