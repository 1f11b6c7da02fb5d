-- What contracts see of a condition: each type's layer, with what its children are seen as in their place.
use Rattle.cob_tree.specs.declared.cond.Cond as declared_cond
use Rattle.cob_tree.specs.declared.cond.Conj as declared_conj
use Rattle.cob_tree.specs.declared.cond.Neg as declared_neg
use Rattle.cob_tree.specs.declared.cond.Simple as declared_simple
use Rattle.cob_tree.specs.declared.cond.Simple.TheOpen as layer
use Rattle.cob_tree.specs.declared.cond.Simple.TheFolds.{fold-Cond, fold-Conj, fold-Neg, fold-Simple}
use Rattle.cob_tree.specs.ExprView.{plain_expr}
use Rattle.cob_tree.specs.Cond.{Cond, MkCond, conjs_of, Conj, MkConj, negs_of, Neg, MkNeg, Simple, parenthesised, relation, abbreviated, numeric, sign, alone}

abbrev simple_step : layer.Simple-F Simple Cond Conj Neg → Simple
simple_step (layer.Cond b) = parenthesised b.value
simple_step (layer.Relation left not_ rel right) = relation (plain_expr left) not_ rel (plain_expr right)
simple_step (layer.Abbreviated not_ rel right) = abbreviated not_ rel (plain_expr right)
simple_step (layer.Numeric value not_) = numeric (plain_expr value) not_
simple_step (layer.Sign value not_ test) = sign (plain_expr value) not_ test
simple_step (layer.Expr e) = alone (plain_expr e)

abbrev cond_step : layer.Cond-F Simple Cond Conj Neg → Cond
cond_step c = MkCond c.first (conjs_of c.others.items)

abbrev conj_step : layer.Conj-F Simple Cond Conj Neg → Conj
conj_step c = MkConj c.first (negs_of c.others.items)

abbrev neg_step : layer.Neg-F Simple Cond Conj Neg → Neg
neg_step n = MkNeg n.not n.simple

abbrev pub plain_cond : declared_cond.Cond → Cond
plain_cond = fold-Cond Simple Cond Conj Neg simple_step cond_step conj_step neg_step

abbrev pub plain_conj : declared_conj.Conj → Conj
plain_conj = fold-Conj Simple Cond Conj Neg simple_step cond_step conj_step neg_step

abbrev pub plain_neg : declared_neg.Neg → Neg
plain_neg = fold-Neg Simple Cond Conj Neg simple_step cond_step conj_step neg_step

abbrev pub plain_simple : declared_simple.Simple → Simple
plain_simple = fold-Simple Simple Cond Conj Neg simple_step cond_step conj_step neg_step
