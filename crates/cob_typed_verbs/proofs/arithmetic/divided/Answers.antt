use Rattle.std.proofs.Common.{◌≡◌, ◌∙◌, true, ap, subst}
use Rattle.std.specs.Prelude.{IfOk, OnOk}
use Rattle.std.specs.Option.{option_copied}
use Rattle.cob_program.specs.SumView.{plain_atom}
use Rattle.cob_program.specs.declared.act.How.TheVariants as how
use Rattle.cob_typed_exprs.specs.Judged.{noted}
use Rattle.cob_typed_verbs.specs.Arithmetic.{one_by_other, worked, with_remainder}
use Rattle.cob_typed_verbs.specs.Workings.{plain_worked}
use Rattle.cob_typed_verbs.proofs.arithmetic.divided.Goals as goal

pub returns-clause-value : goal.returns-clause-value
returns-clause-value c =
    let s = c.args.scope.now in
    let n = plain_atom c.args.n in
    let d = plain_atom c.args.d in
    let giving = c.args.giving.now in
    let made : plain_worked c.in-Ok-work_for.given ≡ (worked s how.Whole (one_by_other true n d) giving).value =
    c.in-Ok-work_for.ensures.value ∙ ap (λ x. (worked s how.Whole x giving).value) c.in-Ok.ensures in
    subst (λ w. IfOk c.with_remainder.result (λ x. plain_worked x ≡ (with_remainder s n d giving w (option_copied c.args.remainder)).value)) made
    (c.with_remainder.ensures.value n d c.atom_size-above.ensures c.atom_size-below.ensures)

pub returns-clause-noted : goal.returns-clause-noted
returns-clause-noted c =
    let s = c.args.scope.now in
    let n = plain_atom c.args.n in
    let d = plain_atom c.args.d in
    let giving = c.args.giving.now in
    let rest = option_copied c.args.remainder in
    let line = c.args.line in
    let old = c.args.findings.now.items in
    let mid = c.work_for.new.findings.items in
    let new = c.with_remainder.new.findings.items in
    let common = one_by_other true n d in
    let made : plain_worked c.in-Ok-work_for.given ≡ (worked s how.Whole common giving).value =
    c.in-Ok-work_for.ensures.value ∙ ap (λ x. (worked s how.Whole x giving).value) c.in-Ok.ensures in
    let first : mid ≡ noted line old (worked s how.Whole common giving).broken =
    c.in-Ok-work_for.ensures.noted ∙ ap (λ x. noted line old (worked s how.Whole x giving).broken) c.in-Ok.ensures in
    subst (λ fs. OnOk c.with_remainder.result (new ≡ noted line fs (with_remainder s n d giving (worked s how.Whole common giving).value rest).broken)) first
    (subst (λ w. OnOk c.with_remainder.result (new ≡ noted line mid (with_remainder s n d giving w rest).broken)) made
    (c.with_remainder.ensures.noted n d c.atom_size-above.ensures c.atom_size-below.ensures))
