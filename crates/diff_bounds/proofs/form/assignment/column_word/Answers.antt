use Rattle.std.proofs.Common.{sym, ◌∙◌, rules}
use Rattle.std.specs.Int.{w128}
use Rattle.std.proofs.lemmas.Int.{to_z-of_z}
use Rattle.diff_bounds.proofs.Same.{column_word_is}
use Rattle.diff_bounds.proofs.form.assignment.column_word.Goals as goal

pub returns-then-has_less : goal.returns-then-has_less
returns-then-has_less c =
    to_z-of_z w128 c.upper.result (search rules) ∙ c.upper.ensures.bound
    ∙ column_word_is c.args.size c.args.m.now c.args.form.now c.less.result c.negated.result c.args.place c.requires.size c.requires.ordered (sym c.if-has_less.ensures) c.less.ensures c.negated.ensures.value
