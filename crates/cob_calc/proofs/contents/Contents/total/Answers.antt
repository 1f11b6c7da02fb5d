use Rattle.std.proofs.Common.{◌∙◌, ap}
use Rattle.cob_program.specs.SumView.{plain_sum}
use Rattle.cob_calc.specs.Operand.{plain_operand, only}
use Rattle.cob_calc.proofs.OperandLemmas.{item_read, number_read}
use Rattle.cob_calc.proofs.contents.Contents.total.Goals as goal

pub returns-in-Some-Item : goal.returns-in-Some-Item
returns-in-Some-Item c =
    let is = c.in-Some-Item.ensures ∙ ap (λ o. only (plain_operand o)) c.in-Some-Item.field-0-is in
    c.read.ensures ∙ item_read c.args.self.now (plain_sum c.args.sum.now) c.in-Some-Item.place is c.requires.numbers _ c.item_number.ensures.value

pub returns-in-Some-Number : goal.returns-in-Some-Number
returns-in-Some-Number c =
    let is = c.in-Some-Number.ensures ∙ ap (λ o. only (plain_operand o)) c.in-Some-Number.field-0-is in
    number_read c.args.self.now (plain_sum c.args.sum.now) c.in-Some-Number.number.now _ is c.literal.ensures.value
