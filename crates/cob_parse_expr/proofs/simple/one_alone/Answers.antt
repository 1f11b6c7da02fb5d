use Rattle.std.proofs.Common.{◌≡◌, ap, sym, ◌∙◌, length, arith}
use Rattle.std.proofs.lemmas.Bool.{eqb-true, eqb-false}
use Rattle.cob_tree.specs.declared.cond.Cond.{out-Cond}
use Rattle.cob_parse_expr.proofs.AloneLemmas.{cond_by_conj, cond_of_more}
use Rattle.cob_parse_expr.proofs.simple.one_alone.Goals as goal

pub returns-then-not-is_empty-clause-other : goal.returns-then-not-is_empty-clause-other
returns-then-not-is_empty-clause-other c = cond_of_more c.args.cond (λ e. eqb-false _ _ (sym c.is_empty.ensures ∙ c.if-not-is_empty.true) (omega (arith, ap length c.as_slice.ensures.value)))

pub returns-in-Ok-clause-alone : goal.returns-in-Ok-clause-alone
returns-in-Ok-clause-alone c =
    let none : length (out-Cond c.args.cond).others.items ≡ 0 = omega (arith, ap length c.as_slice.ensures.value, eqb-true _ _ (sym c.is_empty.ensures ∙ c.if-not-is_empty.false)) in
    cond_by_conj c.args.cond none ∙ c.in-Ok.ensures.alone

pub returns-in-Err-clause-other : goal.returns-in-Err-clause-other
returns-in-Err-clause-other c =
    let none : length (out-Cond c.args.cond).others.items ≡ 0 = omega (arith, ap length c.as_slice.ensures.value, eqb-true _ _ (sym c.is_empty.ensures ∙ c.if-not-is_empty.false)) in
    cond_by_conj c.args.cond none ∙ c.in-Err.ensures.other
