use Rattle.std.proofs.Common.{◌∙◌, ap, sym, if◌then◌else◌, None}
use Rattle.cob_tree.specs.declared.expr.Expr.{out-Expr}
use Rattle.cob_tree.specs.declared.expr.Term.{out-Term}
use Rattle.cob_tree.specs.ExprView.{plain_term, plain_fact}
use Rattle.cob_typed_exprs.specs.Sums.{inside_term, inside_fact}
use Rattle.cob_typed_exprs.proofs.Loops.{inside_of, inside_term_of}
use Rattle.cob_typed_exprs.proofs.shapes.+inside.Goals as goal

pub inside-returns-then-none_added : goal.inside-returns-then-none_added
inside-returns-then-none_added t c =
    let e = c.args.expr.now in
    c.inside_term.ensures ∙ ap (λ b. if b then inside_term (plain_term (out-Expr e).first) else None) (sym c.if-none_added.true)
    ∙ sym (inside_of e c.none_added.result _ c.none_added.ensures c.deref.ensures.value)

pub inside-returns-else-none_added : goal.inside-returns-else-none_added
inside-returns-else-none_added t c =
    let e = c.args.expr.now in
    ap (λ b. if b then inside_term (plain_term (out-Expr e).first) else None) (sym c.if-none_added.false)
    ∙ sym (inside_of e c.none_added.result _ c.none_added.ensures c.deref.ensures.value)

pub inside_term-returns-then-none_multiplied : goal.inside_term-returns-then-none_multiplied
inside_term-returns-then-none_multiplied t c =
    let e = c.args.term.now in
    c.inside_fact.ensures ∙ ap (λ b. if b then inside_fact (plain_fact (out-Term e).first) else None) (sym c.if-none_multiplied.true)
    ∙ sym (inside_term_of e c.none_multiplied.result _ c.none_multiplied.ensures c.deref.ensures.value)

pub inside_term-returns-else-none_multiplied : goal.inside_term-returns-else-none_multiplied
inside_term-returns-else-none_multiplied t c =
    let e = c.args.term.now in
    ap (λ b. if b then inside_fact (plain_fact (out-Term e).first) else None) (sym c.if-none_multiplied.false)
    ∙ sym (inside_term_of e c.none_multiplied.result _ c.none_multiplied.ensures c.deref.ensures.value)
