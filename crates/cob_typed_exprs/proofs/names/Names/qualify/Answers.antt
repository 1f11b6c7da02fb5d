use Rattle.std.proofs.Common.{◌≡◌, ◌+◌, ◌-◌, ◌∙◌, sym, ap, arith, slice_get}
use Rattle.cob_data.specs.declared.layout.Layout.{Layout}
use Rattle.cob_typed_exprs.specs.Names.{item_name, item_parent}
use Rattle.cob_typed_exprs.specs.Search.{left_behind}
use Rattle.cob_typed_exprs.proofs.AboveLemmas.{group_step, file_step}
use Rattle.cob_typed_exprs.proofs.names.Names.qualify.Goals as goal

pub loop-step-preserved : goal.loop-step-preserved
loop-step-preserved c =
    let items = c.get-items.ensures ∙ ap (λ (l : Layout). l.items) c.self.view_is in
    group_step c.args.self.now c.loop-step.left.now c.left_behind-left.result.now (c.args.most - c.loop-step.step) (c.args.most - (c.loop-step.step + 1)) c.loop-step.below c.in-Some.group c.loop-step.above c.parent_of-above.result (omega arith) c.in-Some.is
    (c.left_behind-left.ensures ∙ ap (λ is. left_behind c.loop-step.left.now (item_name (slice_get is c.in-Some.group))) items)
    (c.parent_of-above.ensures ∙ ap (λ is. item_parent (slice_get is c.in-Some.group)) items) ∙ c.loop-step.invariant
