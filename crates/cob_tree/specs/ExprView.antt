-- What contracts see of an expression: each type's layer, with what its children are seen as in their place.
use Rattle.cob_tree.specs.declared.expr.Sign.{Sign}
use Rattle.cob_tree.specs.declared.expr.Scaling.{Scaling}
use Rattle.cob_tree.specs.declared.expr.Expr as declared_expr
use Rattle.cob_tree.specs.declared.expr.Term as declared_term
use Rattle.cob_tree.specs.declared.expr.Fact as declared_fact
use Rattle.cob_tree.specs.declared.expr.Primary as declared_prim
use Rattle.cob_tree.specs.declared.expr.Primary.TheOpen as layer
use Rattle.cob_tree.specs.declared.expr.Primary.TheFolds.{fold-Expr, fold-Term, fold-Fact, fold-Primary}
use Rattle.cob_tree.specs.Expr.{Expr, MkExpr, terms_of, Term, MkTerm, facts_of, Fact, MkFact, Primary, operand, group}

abbrev prim_step : layer.Primary-F Primary Expr Fact Term → Primary
prim_step (layer.Opnd o) = operand o
prim_step (layer.Expr b) = group b.value

abbrev expr_step : layer.Expr-F Primary Expr Fact Term → Expr
expr_step e = MkExpr e.first (terms_of e.others.items)

abbrev fact_step : layer.Fact-F Primary Expr Fact Term → Fact
fact_step f = MkFact f.sign f.prim

abbrev term_step : layer.Term-F Primary Expr Fact Term → Term
term_step t = MkTerm t.first (facts_of t.others.items)

abbrev pub plain_expr : declared_expr.Expr → Expr
plain_expr = fold-Expr Primary Expr Fact Term prim_step expr_step fact_step term_step

abbrev pub plain_term : declared_term.Term → Term
plain_term = fold-Term Primary Expr Fact Term prim_step expr_step fact_step term_step

abbrev pub plain_fact : declared_fact.Fact → Fact
plain_fact = fold-Fact Primary Expr Fact Term prim_step expr_step fact_step term_step

abbrev pub plain_prim : declared_prim.Primary → Primary
plain_prim = fold-Primary Primary Expr Fact Term prim_step expr_step fact_step term_step

abbrev pub added : Sign × declared_term.Term → Sign × Term
added x = (x.0, plain_term x.1)

abbrev pub multiplied : Scaling × declared_fact.Fact → Scaling × Fact
multiplied x = (x.0, plain_fact x.1)
