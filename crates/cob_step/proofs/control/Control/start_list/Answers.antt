use Rattle.std.proofs.Common.{◌∙◌, sym, refl}
use Rattle.cob_step.proofs.Entering.{begun_full, begun_empty}
use Rattle.cob_step.proofs.control.Control.start_list.Goals as goal

pub returns-then-is_empty : goal.returns-then-is_empty
returns-then-is_empty c = λ p.
    (begun_empty c.args.list.now _ _ (sym c.is_empty.ensures ∙ c.if-is_empty.true), refl)

pub returns : goal.returns
returns c = λ p.
    begun_full c.args.list.now _ _ (sym c.is_empty.ensures ∙ c.if-is_empty.false) ∙ sym c.in_ok-push.ensures
