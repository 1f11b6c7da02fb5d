use Rattle.std.proofs.Common.{ap, inl, inr, ◌∙◌}
use Rattle.cob_program.specs.ActView.{plain_act, plain_program}
use Rattle.cob_edge_parts.specs.Parts.{parts_of}
use Rattle.edge_parts.specs.PartView.{plain_part, act_test}
use Rattle.edge_parts.proofs.HandingLaws.{takes_same}
use Rattle.edge_parts.proofs.part_edges.push_act.Goals as goal

pub returns-in-Assign : goal.returns-in-Assign
returns-in-Assign c = λ given.
    takes_same plain_part _ _ _ _ _ (ap (parts_of (plain_program c.args.program.now) c.args.number (plain_act c.args.act.now)) c.in-Assign.is)
    (c.push_assigning.ensures c.args.number)

pub returns-in-Write : goal.returns-in-Write
returns-in-Write c = λ given.
    takes_same plain_part _ _ _ _ _ (ap (parts_of (plain_program c.args.program.now) c.args.number (plain_act c.args.act.now)) c.in-Write.is)
    (c.push_call.ensures c.args.number)

pub returns-in-Done : goal.returns-in-Done
returns-in-Done c = λ given.
    elim c.in-Done.is [
      | inl e ↦ takes_same plain_part _ _ _ _ _ (ap (parts_of (plain_program c.args.program.now) c.args.number (plain_act c.args.act.now)) e)
          (c.push_computing.ensures c.args.number)
      | inr e ↦ takes_same plain_part _ _ _ _ _ (ap (parts_of (plain_program c.args.program.now) c.args.number (plain_act c.args.act.now)) e)
          (c.push_computing.ensures c.args.number)
    ]

pub returns-in-Take : goal.returns-in-Take
returns-in-Take c = λ given.
    elim c.in-Take.is [
      | inl e ↦ takes_same plain_part _ _ _ _ _ (ap (parts_of (plain_program c.args.program.now) c.args.number (plain_act c.args.act.now)) e)
          (c.push_reading.ensures c.args.number)
      | inr e ↦ takes_same plain_part _ _ _ _ _ (ap (parts_of (plain_program c.args.program.now) c.args.number (plain_act c.args.act.now)) e)
          (c.push_reading.ensures c.args.number)
    ]

pub returns-in-Open : goal.returns-in-Open
returns-in-Open c = λ given.
    elim c.in-Open.is [
      | inl e ↦ takes_same plain_part _ _ _ _ _ (ap (parts_of (plain_program c.args.program.now) c.args.number (plain_act c.args.act.now)) e)
          (c.push_call-in-Open.ensures c.args.number)
      | inr e ↦ takes_same plain_part _ _ _ _ _ (ap (parts_of (plain_program c.args.program.now) c.args.number (plain_act c.args.act.now)) e)
          (c.push_call-in-Open.ensures c.args.number)
    ]

pub returns-in-SetCount : goal.returns-in-SetCount
returns-in-SetCount c = λ given.
    takes_same plain_part _ _ _ _ _ (ap (parts_of (plain_program c.args.program.now) c.args.number (plain_act c.args.act.now)) c.in-SetCount.is)
    (c.push_counting.ensures (plain_program c.args.program.now))

pub returns-in-True : goal.returns-in-True
returns-in-True c = λ given.
    takes_same plain_part _ _ _ _ _ (ap (parts_of (plain_program c.args.program.now) c.args.number (plain_act c.args.act.now)) c.in-True.is)
    (c.push_condition.ensures c.in-True.field-0 (given ∙ ap (act_test (plain_act c.args.act.now)) c.in-True.is))

pub returns-in-False : goal.returns-in-False
returns-in-False c = λ given.
    takes_same plain_part _ _ _ _ _ (ap (parts_of (plain_program c.args.program.now) c.args.number (plain_act c.args.act.now)) c.in-False.is)
    (c.push_condition-in-False.ensures c.in-False.field-0 (given ∙ ap (act_test (plain_act c.args.act.now)) c.in-False.is))
