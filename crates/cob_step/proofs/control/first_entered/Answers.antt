use Rattle.std.proofs.Common.{◌≤◌, length, map, sym, ◌∙◌, rules, arith}
use Rattle.std.proofs.lemmas.List.{length-map}
use Rattle.cob_program.specs.ActView.{plain_program, plain_para}
use Rattle.cob_step.proofs.Entering.{entered_none, entered_past, entered_full, entered_empty}
use Rattle.cob_step.proofs.control.first_entered.Goals as goal

pub returns-then-place-last : goal.returns-then-place-last
returns-then-place-last c = record {
  value = λ ds behind. sym (c.loop-place.invariant ds behind)
      ∙ entered_past (plain_program c.args.program.now) ds behind c.loop-place.place c.args.last (omega arith);
  fits = search rules;
}

pub returns-then-not-is_empty : goal.returns-then-not-is_empty
returns-then-not-is_empty c = record {
  value = λ ds behind.
      sym (c.loop-place.invariant ds behind)
      ∙ entered_full (plain_program c.args.program.now) ds behind c.body_at.result.now c.loop-place.place c.args.last
      c.if-place-last.false c.body_at.ensures (sym c.is_empty.ensures ∙ c.if-not-is_empty.true);
  fits = omega arith;
}

pub loop-place-preserved : goal.loop-place-preserved
loop-place-preserved c = λ ds behind.
    sym (entered_empty (plain_program c.args.program.now) ds behind c.body_at.result.now c.loop-place.place c.args.last
    c.if-place-last.false c.body_at.ensures (sym c.is_empty.ensures ∙ c.if-not-is_empty.false))
    ∙ c.loop-place.invariant ds behind

pub returns : goal.returns
returns c =
    let e : length c.get-place-end.result.now ≤ c.loop-place.place = omega arith in
    let past : length (map plain_para c.args.program.now.paras) ≤ c.loop-place.place =
    rw (length-map c.args.program.now.paras plain_para, ← c.get-place-end.ensures) e in
    record {
      value = λ ds behind. sym (c.loop-place.invariant ds behind)
          ∙ entered_none (plain_program c.args.program.now) ds behind _ c.loop-place.place c.args.last past;
      fits = search rules;
    }
