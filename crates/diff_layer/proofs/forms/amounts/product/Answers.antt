use Rattle.diff_layer.proofs.Premises.{product_of_small}
use Rattle.diff_layer.proofs.forms.amounts.product.Goals as goal

pub returns-clause-small : goal.returns-clause-small
returns-clause-small c = product_of_small c.args.own c.args.by c.factor_range.result c.requires c.factor_range.ensures
