use Rattle.std.proofs.Common.{◌∙◌, ap, sym, if◌then◌else◌, None}
use Rattle.cob_tree.specs.declared.expr.Expr.{out-Expr}
use Rattle.cob_tree.specs.declared.expr.Term.{out-Term}
use Rattle.cob_tree.specs.ExprView.{plain_term, plain_fact}
use Rattle.cob_typed_exprs.specs.Sums.{lone_term, lone_fact}
use Rattle.cob_typed_exprs.proofs.Loops.{lone_of, lone_term_of}
use Rattle.cob_typed_exprs.proofs.shapes.+lone.Goals as goal

pub lone-returns-then-none_added : goal.lone-returns-then-none_added
lone-returns-then-none_added t c =
    let e = c.args.expr.now in
    c.lone_term.ensures ∙ ap (λ b. if b then lone_term (plain_term (out-Expr e).first) else None) (sym c.if-none_added.true)
    ∙ sym (lone_of e c.none_added.result _ c.none_added.ensures c.deref.ensures.value)

pub lone-returns-else-none_added : goal.lone-returns-else-none_added
lone-returns-else-none_added t c =
    let e = c.args.expr.now in
    ap (λ b. if b then lone_term (plain_term (out-Expr e).first) else None) (sym c.if-none_added.false)
    ∙ sym (lone_of e c.none_added.result _ c.none_added.ensures c.deref.ensures.value)

pub lone_term-returns-then-none_multiplied : goal.lone_term-returns-then-none_multiplied
lone_term-returns-then-none_multiplied t c =
    let e = c.args.term.now in
    c.lone_fact.ensures ∙ ap (λ b. if b then lone_fact (plain_fact (out-Term e).first) else None) (sym c.if-none_multiplied.true)
    ∙ sym (lone_term_of e c.none_multiplied.result _ c.none_multiplied.ensures c.deref.ensures.value)

pub lone_term-returns-else-none_multiplied : goal.lone_term-returns-else-none_multiplied
lone_term-returns-else-none_multiplied t c =
    let e = c.args.term.now in
    ap (λ b. if b then lone_fact (plain_fact (out-Term e).first) else None) (sym c.if-none_multiplied.false)
    ∙ sym (lone_term_of e c.none_multiplied.result _ c.none_multiplied.ensures c.deref.ensures.value)
