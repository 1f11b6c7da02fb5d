use Rattle.std.specs.Option.{option_copied, option_map}
use Rattle.std.proofs.Common.{ap}
use Rattle.cob_tree.specs.StmtView.{plain_verb, plain_loop}
use Rattle.cob_typed.proofs.HeadLemmas.{on_ok_alike}
use Rattle.cob_typed.proofs.VerbHeads.{told_value, told_noted, move_head, set_head, display_head, add_to_head, add_giving_head, subtract_from_head, subtract_giving_head, multiply_by_head, multiply_giving_head, divide_into_head, divide_giving_head, compute_head, if_head, evaluate_head, perform_range_head, perform_inline_head, go_head, open_head, close_head, read_head, write_head}
use Rattle.cob_typed.proofs.heads.head_of.Goals as goal

pub returns-in-Move-clause-value : goal.returns-in-Move-clause-value
returns-in-Move-clause-value c =
    let s = c.args.scope.now in
    let v = c.args.verb.now in
    told_value s (plain_verb v) _ c.done.result (move_head s v c.in-Move.from c.in-Move.to c.get.result.now
    c.in-Move.is c.get.ensures) (c.done.ensures.value _ c.move_act.ensures.value)

pub returns-in-Move-clause-noted : goal.returns-in-Move-clause-noted
returns-in-Move-clause-noted c =
    let s = c.args.scope.now in
    let v = c.args.verb.now in
    on_ok_alike c.done.result c.move_act.result _ c.done.ensures.ends (told_noted s (plain_verb v) _ c.move_act.result
    c.args.line c.args.findings.now.items c.move_act.new.findings.items (move_head s v c.in-Move.from c.in-Move.to
    c.get.result.now c.in-Move.is c.get.ensures) c.move_act.ensures.noted)

pub returns-in-Set-clause-value : goal.returns-in-Set-clause-value
returns-in-Set-clause-value c =
    let s = c.args.scope.now in
    let v = c.args.verb.now in
    told_value s (plain_verb v) _ c.done-in-Set.result (set_head s v c.in-Set.name c.in-Set.is)
    (c.done-in-Set.ensures.value _ c.set_act.ensures.value)

pub returns-in-Set-clause-noted : goal.returns-in-Set-clause-noted
returns-in-Set-clause-noted c =
    let s = c.args.scope.now in
    let v = c.args.verb.now in
    on_ok_alike c.done-in-Set.result c.set_act.result _ c.done-in-Set.ensures.ends (told_noted s (plain_verb v) _
    c.set_act.result c.args.line c.args.findings.now.items c.set_act.new.findings.items (set_head s v
    c.in-Set.name c.in-Set.is) c.set_act.ensures.noted)

pub returns-in-Display-clause-value : goal.returns-in-Display-clause-value
returns-in-Display-clause-value c =
    let s = c.args.scope.now in
    let v = c.args.verb.now in
    told_value s (plain_verb v) _ c.done-in-Display.result (display_head s v c.in-Display.operands
    c.get-in-Display.result.now c.in-Display.is c.get-in-Display.ensures) (c.done-in-Display.ensures.value _
    c.show_act.ensures.value)

pub returns-in-Display-clause-noted : goal.returns-in-Display-clause-noted
returns-in-Display-clause-noted c =
    let s = c.args.scope.now in
    let v = c.args.verb.now in
    on_ok_alike c.done-in-Display.result c.show_act.result _ c.done-in-Display.ensures.ends (told_noted s (plain_verb
    v) _ c.show_act.result c.args.line c.args.findings.now.items c.show_act.new.findings.items (display_head s v
    c.in-Display.operands c.get-in-Display.result.now c.in-Display.is c.get-in-Display.ensures)
    c.show_act.ensures.noted)

pub returns-in-AddTo-clause-value : goal.returns-in-AddTo-clause-value
returns-in-AddTo-clause-value c =
    let s = c.args.scope.now in
    let v = c.args.verb.now in
    told_value s (plain_verb v) _ c.worked.result (add_to_head s v c.in-AddTo.addends c.get-in-AddTo.result.now
    c.in-AddTo.to c.get-in-AddTo-2.result.now c.in-AddTo.tail c.in-AddTo.is c.get-in-AddTo.ensures
    c.get-in-AddTo-2.ensures) (c.worked.ensures.value _ c.add_to.ensures.value)

pub returns-in-AddTo-clause-noted : goal.returns-in-AddTo-clause-noted
returns-in-AddTo-clause-noted c =
    let s = c.args.scope.now in
    let v = c.args.verb.now in
    on_ok_alike c.worked.result c.add_to.result _ c.worked.ensures.ends (told_noted s (plain_verb v) _ c.add_to.result
    c.args.line c.args.findings.now.items c.add_to.new.findings.items (add_to_head s v c.in-AddTo.addends
    c.get-in-AddTo.result.now c.in-AddTo.to c.get-in-AddTo-2.result.now c.in-AddTo.tail c.in-AddTo.is
    c.get-in-AddTo.ensures c.get-in-AddTo-2.ensures) c.add_to.ensures.noted)

pub returns-in-AddGiving-clause-value : goal.returns-in-AddGiving-clause-value
returns-in-AddGiving-clause-value c =
    let s = c.args.scope.now in
    let v = c.args.verb.now in
    told_value s (plain_verb v) _ c.worked-in-AddGiving.result (add_giving_head s v c.in-AddGiving.addends
    c.get-in-AddGiving.result.now c.in-AddGiving.to (option_copied c.as_ref-to.result) c.in-AddGiving.giving
    c.get-in-AddGiving-2.result.now c.in-AddGiving.tail c.in-AddGiving.is c.get-in-AddGiving.ensures
    c.as_ref-to.ensures.value c.get-in-AddGiving-2.ensures) (c.worked-in-AddGiving.ensures.value _
    c.add_giving.ensures.value)

pub returns-in-AddGiving-clause-noted : goal.returns-in-AddGiving-clause-noted
returns-in-AddGiving-clause-noted c =
    let s = c.args.scope.now in
    let v = c.args.verb.now in
    on_ok_alike c.worked-in-AddGiving.result c.add_giving.result _ c.worked-in-AddGiving.ensures.ends (told_noted s
    (plain_verb v) _ c.add_giving.result c.args.line c.args.findings.now.items c.add_giving.new.findings.items
    (add_giving_head s v c.in-AddGiving.addends c.get-in-AddGiving.result.now c.in-AddGiving.to (option_copied
    c.as_ref-to.result) c.in-AddGiving.giving c.get-in-AddGiving-2.result.now c.in-AddGiving.tail
    c.in-AddGiving.is c.get-in-AddGiving.ensures c.as_ref-to.ensures.value c.get-in-AddGiving-2.ensures)
    c.add_giving.ensures.noted)

pub returns-in-SubtractFrom-clause-value : goal.returns-in-SubtractFrom-clause-value
returns-in-SubtractFrom-clause-value c =
    let s = c.args.scope.now in
    let v = c.args.verb.now in
    told_value s (plain_verb v) _ c.worked-in-SubtractFrom.result (subtract_from_head s v c.in-SubtractFrom.less
    c.get-in-SubtractFrom.result.now c.in-SubtractFrom.from c.get-in-SubtractFrom-2.result.now
    c.in-SubtractFrom.tail c.in-SubtractFrom.is c.get-in-SubtractFrom.ensures c.get-in-SubtractFrom-2.ensures)
    (c.worked-in-SubtractFrom.ensures.value _ c.subtract_from.ensures.value)

pub returns-in-SubtractFrom-clause-noted : goal.returns-in-SubtractFrom-clause-noted
returns-in-SubtractFrom-clause-noted c =
    let s = c.args.scope.now in
    let v = c.args.verb.now in
    on_ok_alike c.worked-in-SubtractFrom.result c.subtract_from.result _ c.worked-in-SubtractFrom.ensures.ends
    (told_noted s (plain_verb v) _ c.subtract_from.result c.args.line c.args.findings.now.items
    c.subtract_from.new.findings.items (subtract_from_head s v c.in-SubtractFrom.less
    c.get-in-SubtractFrom.result.now c.in-SubtractFrom.from c.get-in-SubtractFrom-2.result.now
    c.in-SubtractFrom.tail c.in-SubtractFrom.is c.get-in-SubtractFrom.ensures c.get-in-SubtractFrom-2.ensures)
    c.subtract_from.ensures.noted)

pub returns-in-SubtractGiving-clause-value : goal.returns-in-SubtractGiving-clause-value
returns-in-SubtractGiving-clause-value c =
    let s = c.args.scope.now in
    let v = c.args.verb.now in
    told_value s (plain_verb v) _ c.worked-in-SubtractGiving.result (subtract_giving_head s v c.in-SubtractGiving.less
    c.get-in-SubtractGiving.result.now c.in-SubtractGiving.from c.in-SubtractGiving.giving
    c.get-in-SubtractGiving-2.result.now c.in-SubtractGiving.tail c.in-SubtractGiving.is
    c.get-in-SubtractGiving.ensures c.get-in-SubtractGiving-2.ensures) (c.worked-in-SubtractGiving.ensures.value _
    c.subtract_giving.ensures.value)

pub returns-in-SubtractGiving-clause-noted : goal.returns-in-SubtractGiving-clause-noted
returns-in-SubtractGiving-clause-noted c =
    let s = c.args.scope.now in
    let v = c.args.verb.now in
    on_ok_alike c.worked-in-SubtractGiving.result c.subtract_giving.result _ c.worked-in-SubtractGiving.ensures.ends
    (told_noted s (plain_verb v) _ c.subtract_giving.result c.args.line c.args.findings.now.items
    c.subtract_giving.new.findings.items (subtract_giving_head s v c.in-SubtractGiving.less
    c.get-in-SubtractGiving.result.now c.in-SubtractGiving.from c.in-SubtractGiving.giving
    c.get-in-SubtractGiving-2.result.now c.in-SubtractGiving.tail c.in-SubtractGiving.is
    c.get-in-SubtractGiving.ensures c.get-in-SubtractGiving-2.ensures) c.subtract_giving.ensures.noted)

pub returns-in-MultiplyBy-clause-value : goal.returns-in-MultiplyBy-clause-value
returns-in-MultiplyBy-clause-value c =
    let s = c.args.scope.now in
    let v = c.args.verb.now in
    told_value s (plain_verb v) _ c.worked-in-MultiplyBy.result (multiply_by_head s v c.in-MultiplyBy.factor
    c.in-MultiplyBy.by c.get-in-MultiplyBy.result.now c.in-MultiplyBy.tail c.in-MultiplyBy.is
    c.get-in-MultiplyBy.ensures) (c.worked-in-MultiplyBy.ensures.value _ c.multiply_by.ensures.value)

pub returns-in-MultiplyBy-clause-noted : goal.returns-in-MultiplyBy-clause-noted
returns-in-MultiplyBy-clause-noted c =
    let s = c.args.scope.now in
    let v = c.args.verb.now in
    on_ok_alike c.worked-in-MultiplyBy.result c.multiply_by.result _ c.worked-in-MultiplyBy.ensures.ends (told_noted s
    (plain_verb v) _ c.multiply_by.result c.args.line c.args.findings.now.items c.multiply_by.new.findings.items
    (multiply_by_head s v c.in-MultiplyBy.factor c.in-MultiplyBy.by c.get-in-MultiplyBy.result.now
    c.in-MultiplyBy.tail c.in-MultiplyBy.is c.get-in-MultiplyBy.ensures) c.multiply_by.ensures.noted)

pub returns-in-MultiplyGiving-clause-value : goal.returns-in-MultiplyGiving-clause-value
returns-in-MultiplyGiving-clause-value c =
    let s = c.args.scope.now in
    let v = c.args.verb.now in
    told_value s (plain_verb v) _ c.worked-in-MultiplyGiving.result (multiply_giving_head s v
    c.in-MultiplyGiving.factor c.in-MultiplyGiving.by c.in-MultiplyGiving.giving
    c.get-in-MultiplyGiving.result.now c.in-MultiplyGiving.tail c.in-MultiplyGiving.is
    c.get-in-MultiplyGiving.ensures) (c.worked-in-MultiplyGiving.ensures.value _ c.multiply_giving.ensures.value)

pub returns-in-MultiplyGiving-clause-noted : goal.returns-in-MultiplyGiving-clause-noted
returns-in-MultiplyGiving-clause-noted c =
    let s = c.args.scope.now in
    let v = c.args.verb.now in
    on_ok_alike c.worked-in-MultiplyGiving.result c.multiply_giving.result _ c.worked-in-MultiplyGiving.ensures.ends
    (told_noted s (plain_verb v) _ c.multiply_giving.result c.args.line c.args.findings.now.items
    c.multiply_giving.new.findings.items (multiply_giving_head s v c.in-MultiplyGiving.factor
    c.in-MultiplyGiving.by c.in-MultiplyGiving.giving c.get-in-MultiplyGiving.result.now c.in-MultiplyGiving.tail
    c.in-MultiplyGiving.is c.get-in-MultiplyGiving.ensures) c.multiply_giving.ensures.noted)

pub returns-in-DivideInto-clause-value : goal.returns-in-DivideInto-clause-value
returns-in-DivideInto-clause-value c =
    let s = c.args.scope.now in
    let v = c.args.verb.now in
    told_value s (plain_verb v) _ c.worked-in-DivideInto.result (divide_into_head s v c.in-DivideInto.divisor
    c.in-DivideInto.into c.get-in-DivideInto.result.now c.in-DivideInto.tail c.in-DivideInto.is
    c.get-in-DivideInto.ensures) (c.worked-in-DivideInto.ensures.value _ c.divide_into.ensures.value)

pub returns-in-DivideInto-clause-noted : goal.returns-in-DivideInto-clause-noted
returns-in-DivideInto-clause-noted c =
    let s = c.args.scope.now in
    let v = c.args.verb.now in
    on_ok_alike c.worked-in-DivideInto.result c.divide_into.result _ c.worked-in-DivideInto.ensures.ends (told_noted s
    (plain_verb v) _ c.divide_into.result c.args.line c.args.findings.now.items c.divide_into.new.findings.items
    (divide_into_head s v c.in-DivideInto.divisor c.in-DivideInto.into c.get-in-DivideInto.result.now
    c.in-DivideInto.tail c.in-DivideInto.is c.get-in-DivideInto.ensures) c.divide_into.ensures.noted)

pub returns-in-DivideGiving-clause-value : goal.returns-in-DivideGiving-clause-value
returns-in-DivideGiving-clause-value c =
    let s = c.args.scope.now in
    let v = c.args.verb.now in
    told_value s (plain_verb v) _ c.worked-in-DivideGiving.result (divide_giving_head s v c.in-DivideGiving.first
    c.in-DivideGiving.way c.in-DivideGiving.second c.in-DivideGiving.giving c.get-giving.result.now
    c.in-DivideGiving.remainder (option_copied c.as_ref-rest.result) c.in-DivideGiving.tail c.in-DivideGiving.is
    c.get-giving.ensures c.as_ref-rest.ensures.value) (c.worked-in-DivideGiving.ensures.value _
    c.divide_giving.ensures.value)

pub returns-in-DivideGiving-clause-noted : goal.returns-in-DivideGiving-clause-noted
returns-in-DivideGiving-clause-noted c =
    let s = c.args.scope.now in
    let v = c.args.verb.now in
    on_ok_alike c.worked-in-DivideGiving.result c.divide_giving.result _ c.worked-in-DivideGiving.ensures.ends
    (told_noted s (plain_verb v) _ c.divide_giving.result c.args.line c.args.findings.now.items
    c.divide_giving.new.findings.items (divide_giving_head s v c.in-DivideGiving.first c.in-DivideGiving.way
    c.in-DivideGiving.second c.in-DivideGiving.giving c.get-giving.result.now c.in-DivideGiving.remainder
    (option_copied c.as_ref-rest.result) c.in-DivideGiving.tail c.in-DivideGiving.is c.get-giving.ensures
    c.as_ref-rest.ensures.value) c.divide_giving.ensures.noted)

pub returns-in-Compute-clause-value : goal.returns-in-Compute-clause-value
returns-in-Compute-clause-value c =
    let s = c.args.scope.now in
    let v = c.args.verb.now in
    told_value s (plain_verb v) _ c.worked-in-Compute.result (compute_head s v c.in-Compute.to
    c.get-in-Compute.result.now c.in-Compute.value c.in-Compute.tail c.in-Compute.is c.get-in-Compute.ensures)
    (c.worked-in-Compute.ensures.value _ c.compute.ensures.value)

pub returns-in-Compute-clause-noted : goal.returns-in-Compute-clause-noted
returns-in-Compute-clause-noted c =
    let s = c.args.scope.now in
    let v = c.args.verb.now in
    on_ok_alike c.worked-in-Compute.result c.compute.result _ c.worked-in-Compute.ensures.ends (told_noted s
    (plain_verb v) _ c.compute.result c.args.line c.args.findings.now.items c.compute.new.findings.items
    (compute_head s v c.in-Compute.to c.get-in-Compute.result.now c.in-Compute.value c.in-Compute.tail
    c.in-Compute.is c.get-in-Compute.ensures) c.compute.ensures.noted)

pub returns-in-If-clause-value : goal.returns-in-If-clause-value
returns-in-If-clause-value c =
    let s = c.args.scope.now in
    let v = c.args.verb.now in
    told_value s (plain_verb v) _ c.tested.result (if_head s v c.in-If.test c.in-If.yes c.in-If.other c.in-If.ended
    c.in-If.is) (c.tested.ensures.value _ c.condition.ensures.value)

pub returns-in-If-clause-noted : goal.returns-in-If-clause-noted
returns-in-If-clause-noted c =
    let s = c.args.scope.now in
    let v = c.args.verb.now in
    on_ok_alike c.tested.result c.condition.result _ c.tested.ensures.ends (told_noted s (plain_verb v) _
    c.condition.result c.args.line c.args.findings.now.items c.condition.new.findings.items (if_head s v
    c.in-If.test c.in-If.yes c.in-If.other c.in-If.ended c.in-If.is) c.condition.ensures.noted)

pub returns-in-Evaluate-clause-value : goal.returns-in-Evaluate-clause-value
returns-in-Evaluate-clause-value c =
    let s = c.args.scope.now in
    let v = c.args.verb.now in
    told_value s (plain_verb v) _ c.looked.result (evaluate_head s v c.in-Evaluate.subject c.in-Evaluate.whens
    c.in-Evaluate.other c.in-Evaluate.ended c.in-Evaluate.is) (c.looked.ensures.value _ c.looked_at.ensures.value)

pub returns-in-Evaluate-clause-noted : goal.returns-in-Evaluate-clause-noted
returns-in-Evaluate-clause-noted c =
    let s = c.args.scope.now in
    let v = c.args.verb.now in
    on_ok_alike c.looked.result c.looked_at.result _ c.looked.ensures.ends (told_noted s (plain_verb v) _
    c.looked_at.result c.args.line c.args.findings.now.items c.looked_at.new.findings.items (evaluate_head s v
    c.in-Evaluate.subject c.in-Evaluate.whens c.in-Evaluate.other c.in-Evaluate.ended c.in-Evaluate.is)
    c.looked_at.ensures.noted)

pub returns-in-PerformRange-clause-value : goal.returns-in-PerformRange-clause-value
returns-in-PerformRange-clause-value c =
    let s = c.args.scope.now in
    let v = c.args.verb.now in
    told_value s (plain_verb v) _ c.done-in-PerformRange.result (perform_range_head s v c.in-PerformRange.first
    c.in-PerformRange.thru (option_copied c.as_ref-thru.result) c.in-PerformRange.turns (option_map plain_loop
    (option_copied c.as_ref.result)) c.in-PerformRange.is c.as_ref-thru.ensures.value (ap (option_map plain_loop)
    c.as_ref.ensures.value)) (c.done-in-PerformRange.ensures.value _ c.range_act.ensures.value)

pub returns-in-PerformRange-clause-noted : goal.returns-in-PerformRange-clause-noted
returns-in-PerformRange-clause-noted c =
    let s = c.args.scope.now in
    let v = c.args.verb.now in
    on_ok_alike c.done-in-PerformRange.result c.range_act.result _ c.done-in-PerformRange.ensures.ends (told_noted s
    (plain_verb v) _ c.range_act.result c.args.line c.args.findings.now.items c.range_act.new.findings.items
    (perform_range_head s v c.in-PerformRange.first c.in-PerformRange.thru (option_copied c.as_ref-thru.result)
    c.in-PerformRange.turns (option_map plain_loop (option_copied c.as_ref.result)) c.in-PerformRange.is
    c.as_ref-thru.ensures.value (ap (option_map plain_loop) c.as_ref.ensures.value)) c.range_act.ensures.noted)

pub returns-in-PerformInline-clause-value : goal.returns-in-PerformInline-clause-value
returns-in-PerformInline-clause-value c =
    let s = c.args.scope.now in
    let v = c.args.verb.now in
    told_value s (plain_verb v) _ c.turned.result (perform_inline_head s v c.in-PerformInline.turns (option_map
    plain_loop (option_copied c.as_ref-in-PerformInline.result)) c.in-PerformInline.body c.in-PerformInline.is (ap
    (option_map plain_loop) c.as_ref-in-PerformInline.ensures.value)) (c.turned.ensures.value _
    c.turns_of.ensures.value)

pub returns-in-PerformInline-clause-noted : goal.returns-in-PerformInline-clause-noted
returns-in-PerformInline-clause-noted c =
    let s = c.args.scope.now in
    let v = c.args.verb.now in
    on_ok_alike c.turned.result c.turns_of.result _ c.turned.ensures.ends (told_noted s (plain_verb v) _
    c.turns_of.result c.args.line c.args.findings.now.items c.turns_of.new.findings.items (perform_inline_head s v
    c.in-PerformInline.turns (option_map plain_loop (option_copied c.as_ref-in-PerformInline.result))
    c.in-PerformInline.body c.in-PerformInline.is (ap (option_map plain_loop)
    c.as_ref-in-PerformInline.ensures.value)) c.turns_of.ensures.noted)

pub returns-in-Go-clause-value : goal.returns-in-Go-clause-value
returns-in-Go-clause-value c =
    let s = c.args.scope.now in
    let v = c.args.verb.now in
    told_value s (plain_verb v) _ c.done-in-Go.result (go_head s v c.in-Go.name c.in-Go.is)
    (c.done-in-Go.ensures.value _ c.go_act.ensures.value)

pub returns-in-Go-clause-noted : goal.returns-in-Go-clause-noted
returns-in-Go-clause-noted c =
    let s = c.args.scope.now in
    let v = c.args.verb.now in
    on_ok_alike c.done-in-Go.result c.go_act.result _ c.done-in-Go.ensures.ends (told_noted s (plain_verb v) _
    c.go_act.result c.args.line c.args.findings.now.items c.go_act.new.findings.items (go_head s v c.in-Go.name
    c.in-Go.is) c.go_act.ensures.noted)

pub returns-in-Open-clause-value : goal.returns-in-Open-clause-value
returns-in-Open-clause-value c =
    let s = c.args.scope.now in
    let v = c.args.verb.now in
    told_value s (plain_verb v) _ c.done-in-Open.result (open_head s v c.in-Open.opens c.get-in-Open.result.now
    c.in-Open.is c.get-in-Open.ensures) (c.done-in-Open.ensures.value _ c.open_act.ensures.value)

pub returns-in-Open-clause-noted : goal.returns-in-Open-clause-noted
returns-in-Open-clause-noted c =
    let s = c.args.scope.now in
    let v = c.args.verb.now in
    on_ok_alike c.done-in-Open.result c.open_act.result _ c.done-in-Open.ensures.ends (told_noted s (plain_verb v) _
    c.open_act.result c.args.line c.args.findings.now.items c.open_act.new.findings.items (open_head s v
    c.in-Open.opens c.get-in-Open.result.now c.in-Open.is c.get-in-Open.ensures) c.open_act.ensures.noted)

pub returns-in-Close-clause-value : goal.returns-in-Close-clause-value
returns-in-Close-clause-value c =
    let s = c.args.scope.now in
    let v = c.args.verb.now in
    told_value s (plain_verb v) _ c.done-in-Close.result (close_head s v c.in-Close.names c.get-in-Close.result.now
    c.in-Close.is c.get-in-Close.ensures) (c.done-in-Close.ensures.value _ c.close_act.ensures.value)

pub returns-in-Close-clause-noted : goal.returns-in-Close-clause-noted
returns-in-Close-clause-noted c =
    let s = c.args.scope.now in
    let v = c.args.verb.now in
    on_ok_alike c.done-in-Close.result c.close_act.result _ c.done-in-Close.ensures.ends (told_noted s (plain_verb v)
    _ c.close_act.result c.args.line c.args.findings.now.items c.close_act.new.findings.items (close_head s v
    c.in-Close.names c.get-in-Close.result.now c.in-Close.is c.get-in-Close.ensures) c.close_act.ensures.noted)

pub returns-in-Read-clause-value : goal.returns-in-Read-clause-value
returns-in-Read-clause-value c =
    let s = c.args.scope.now in
    let v = c.args.verb.now in
    told_value s (plain_verb v) _ c.reads.result (read_head s v c.in-Read.file c.in-Read.into (option_copied
    c.as_ref-in-Read.result) c.in-Read.end c.in-Read.not_end c.in-Read.ended c.in-Read.is
    c.as_ref-in-Read.ensures.value) (c.reads.ensures.value _ c.read_parts.ensures.value)

pub returns-in-Read-clause-noted : goal.returns-in-Read-clause-noted
returns-in-Read-clause-noted c =
    let s = c.args.scope.now in
    let v = c.args.verb.now in
    on_ok_alike c.reads.result c.read_parts.result _ c.reads.ensures.ends (told_noted s (plain_verb v) _
    c.read_parts.result c.args.line c.args.findings.now.items c.read_parts.new.findings.items (read_head s v
    c.in-Read.file c.in-Read.into (option_copied c.as_ref-in-Read.result) c.in-Read.end c.in-Read.not_end
    c.in-Read.ended c.in-Read.is c.as_ref-in-Read.ensures.value) c.read_parts.ensures.noted)

pub returns-in-Write-clause-value : goal.returns-in-Write-clause-value
returns-in-Write-clause-value c =
    let s = c.args.scope.now in
    let v = c.args.verb.now in
    told_value s (plain_verb v) _ c.done-in-Write.result (write_head s v c.in-Write.record c.in-Write.from
    (option_copied c.as_ref-in-Write.result) c.in-Write.ended c.in-Write.is c.as_ref-in-Write.ensures.value)
    (c.done-in-Write.ensures.value _ c.write_act.ensures.value)

pub returns-in-Write-clause-noted : goal.returns-in-Write-clause-noted
returns-in-Write-clause-noted c =
    let s = c.args.scope.now in
    let v = c.args.verb.now in
    on_ok_alike c.done-in-Write.result c.write_act.result _ c.done-in-Write.ensures.ends (told_noted s (plain_verb v)
    _ c.write_act.result c.args.line c.args.findings.now.items c.write_act.new.findings.items (write_head s v
    c.in-Write.record c.in-Write.from (option_copied c.as_ref-in-Write.result) c.in-Write.ended c.in-Write.is
    c.as_ref-in-Write.ensures.value) c.write_act.ensures.noted)
