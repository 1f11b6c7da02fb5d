use Rattle.std.proofs.Common.{◌∙◌}
use Rattle.cob_program.specs.SumView.{plain_sum}
use Rattle.cob_calc.proofs.OperandLemmas.{left_unread, right_unread, both_read, read_compare}
use Rattle.cob_calc.proofs.contents.Contents.compare_sums.Goals as goal

pub returns-in-None : goal.returns-in-None
returns-in-None c = left_unread c.args.self.now (plain_sum c.args.left.now) (plain_sum c.args.right.now) c.args.rel c.in-None.ensures

pub returns-in-None-total : goal.returns-in-None-total
returns-in-None-total c =
    right_unread c.args.self.now (plain_sum c.args.left.now) (plain_sum c.args.right.now) c.args.rel c.in-Some.a c.in-Some.ensures c.in-None-total.ensures

pub decide-requires : goal.decide-requires
decide-requires c =
    read_compare c.args.self.now (plain_sum c.args.left.now) (plain_sum c.args.right.now) c.args.rel c.in-Some.a c.in-Some-total.b c.requires.sound c.requires.small
    c.in-Some.ensures c.in-Some-total.ensures

pub returns-in-Some-total : goal.returns-in-Some-total
returns-in-Some-total c =
    c.decide.ensures
    ∙ both_read c.args.self.now (plain_sum c.args.left.now) (plain_sum c.args.right.now) c.args.rel c.in-Some.a c.in-Some-total.b c.requires.left c.requires.right
    c.in-Some.ensures c.in-Some-total.ensures
