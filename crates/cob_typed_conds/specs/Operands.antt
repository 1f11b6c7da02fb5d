-- What contracts see of a side of a relation, and of a relation that may be abbreviated.
use Rattle.std.specs.Prelude.{Option, Some, None}
use Rattle.cob_tree.specs.Expr.{Expr}
use Rattle.cob_tree.specs.Cond.{Simple}
use Rattle.cob_tree.specs.Cond as cond
use Rattle.cob_tree.specs.ExprView.{plain_expr}
use Rattle.cob_typed_conds.specs.declared.operand.Operand as declared_operand
use Rattle.cob_typed_conds.specs.declared.operand.Operand.TheVariants as variant
use Rattle.cob_typed_conds.specs.declared.carry.Carry as declared_carry
use Rattle.cob_typed_conds.specs.Conditions.{Operand, alone, worked_out, Carry}
use Rattle.cob_typed_conds.specs.declared.selections.Value as declared_value
use Rattle.cob_typed_conds.specs.declared.selections.Value.TheVariants as form
use Rattle.cob_typed_conds.specs.Selections.{Value, plain_value, denied_value, no_value}

abbrev pub plain_operand : declared_operand.Operand → Operand
plain_operand (variant.Alone x) = alone x
plain_operand (variant.WorkedOut e) = worked_out (plain_expr e.now)

abbrev pub plain_carry : declared_carry.Carry → Carry
plain_carry c = record { subject = plain_expr c.subject.now; not = c.not; rel = c.rel; denied = c.denied }

abbrev pub seen_value : declared_value.Value → Value
seen_value (form.Plain e) = plain_value (plain_expr e.now)
seen_value (form.Denied e) = denied_value (plain_expr e.now)
seen_value form.Other = no_value

-- the expression that a simple condition is
abbrev pub alone_in : Simple → Option Expr
alone_in (cond.alone e) = Some e
alone_in _ = None
