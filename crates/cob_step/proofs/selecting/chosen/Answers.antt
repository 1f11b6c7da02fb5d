use Rattle.std.proofs.Common.{◌+◌, ◌∙◌, sym, ap, subst, Ok, drop}
use Rattle.cob_program.specs.Act.{Whens}
use Rattle.cob_program.specs.ActView.{plain_program, plain_when, plain_stmts, plain_whens}
use Rattle.cob_runs.specs.Steps.{chosen}
use Rattle.cob_world.specs.Doing.{CanDoWhens}
use Rattle.cob_step.proofs.Whens.{chosen_here, chosen_later, chosen_broken, whens_step, whens_end, can_first, can_others}
use Rattle.cob_step.proofs.selecting.chosen.Goals as goal

pub returns-in-Err : goal.returns-in-Err
returns-in-Err c = λ ch.
    let p = plain_program c.args.world.now.program in
    let v = c.args.world.now.world in
    let o = plain_stmts c.args.other.now in
    let i = c.loop-when.when-index in
    sym (c.loop-when.invariant.0 ch)
    ∙ ap (λ xs. chosen p ch v xs o)
    (whens_step c.args.whens.now i c.when-item.result c.loop-when-test.true c.when-item.is)
    ∙ chosen_broken p ch v o (plain_when c.when-item.result) (plain_whens (drop (i + 1) c.args.whens.now)) c.in-Err.kind
    (sym c.when_holds.ensures ∙ c.in-Err.is)

pub returns-in-Ok-true : goal.returns-in-Ok-true
returns-in-Ok-true c = λ ch.
    let p = plain_program c.args.world.now.program in
    let v = c.args.world.now.world in
    let o = plain_stmts c.args.other.now in
    let i = c.loop-when.when-index in
    sym (c.loop-when.invariant.0 ch)
    ∙ ap (λ xs. chosen p ch v xs o)
    (whens_step c.args.whens.now i c.when-item.result c.loop-when-test.true c.when-item.is)
    ∙ chosen_here p ch v o (plain_when c.when-item.result) (plain_whens (drop (i + 1) c.args.whens.now))
    (sym c.when_holds.ensures ∙ c.in-Ok-true.is ∙ ap Ok c.in-Ok-true.field-0-test)
    ∙ ap Ok (sym c.list_in.ensures)

pub loop-when-preserved : goal.loop-when-preserved
loop-when-preserved c =
    let p = plain_program c.args.world.now.program in
    let v = c.args.world.now.world in
    let o = plain_stmts c.args.other.now in
    let i = c.loop-when.when-index in
    let step = whens_step c.args.whens.now i c.when-item.result c.loop-when-test.true c.when-item.is in
    let behind = plain_whens (drop (i + 1) c.args.whens.now) in
    let P : Whens → Type 0 = λ ws. CanDoWhens c.args.world.now.program.layout ws in (
      λ ch. sym (chosen_later p ch v o (plain_when c.when-item.result) behind
          (sym c.when_holds.ensures ∙ c.in-Ok-false.is ∙ ap Ok c.in-Ok-false.field-0-test))
          ∙ ap (λ xs. chosen p ch v xs o) (sym step) ∙ c.loop-when.invariant.0 ch,
      can_others c.args.world.now.program.layout (plain_when c.when-item.result) behind
          (subst P step c.loop-when.invariant.1),
    )

pub returns : goal.returns
returns c = λ ch.
    sym (c.loop-when.invariant.0 ch)
    ∙ ap (λ xs. chosen (plain_program c.args.world.now.program) ch c.args.world.now.world xs (plain_stmts c.args.other.now))
    (whens_end c.args.whens.now c.loop-when.when-index c.loop-when-test.false)

pub when_holds-requires : goal.when_holds-requires
when_holds-requires c =
    let i = c.loop-when.when-index in
    let step = whens_step c.args.whens.now i c.when-item.result c.loop-when-test.true c.when-item.is in
    let P : Whens → Type 0 = λ ws. CanDoWhens c.args.world.now.program.layout ws in
    record {
      able = can_first c.args.world.now.program.layout (plain_when c.when-item.result)
          (plain_whens (drop (i + 1) c.args.whens.now)) (subst P step c.loop-when.invariant.1);
    }
