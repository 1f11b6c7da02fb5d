use Rattle.std.proofs.Common.{List, sym, subst, ◌∙◌, arith}
use Rattle.cob_tree.specs.declared.front.Range.{Range}
use Rattle.cob_parse_expr.specs.Classes.{const_as}
use Rattle.cob_parse_data.specs.Reading.{range}
use Rattle.cob_parse_data.proofs.ListLoop.{Kept, kept_start, kept_on, kept_end, kept_fail}
use Rattle.cob_parse_data.proofs.entry.more_ranges.Goals as goal

pub values-init : goal.values-init
values-init c = record { kept = subst (λ (xs : List Range). Kept const_as range xs c.args.lexemes.now c.args.lexemes.now) (sym c.new-values.ensures.items) (kept_start const_as range c.args.lexemes.now); shorter = omega arith }

pub returns-in-Err-clause-gives : goal.returns-in-Err-clause-gives
returns-in-Err-clause-gives c = kept_fail const_as range c.values.values.items c.values.left.now c.args.lexemes.now c.in-Err.halt c.values.invariant.kept (sym c.stands_constant.ensures ∙ c.values-test.true) c.in-Err.ensures.gives

pub values-preserved : goal.values-preserved
values-preserved c = record {
  kept = subst (λ (xs : List Range). Kept const_as range xs c.in-Ok.given.1.now c.args.lexemes.now) (sym c.in_ok-push.ensures.items)
      (kept_on const_as range c.values.values.items c.values.left.now c.args.lexemes.now c.in-Ok.given.1.now c.in-Ok.given.0 c.values.invariant.kept (sym c.stands_constant.ensures ∙ c.values-test.true) c.in-Ok.ensures.gives c.in-Ok.ensures.rest);
  shorter = omega (arith, c.in-Ok.ensures.rest, c.values.invariant.shorter);
}

pub returns-clause-gives : goal.returns-clause-gives
returns-clause-gives c = kept_end const_as range c.values.values.items c.values.left.now c.args.lexemes.now c.values.invariant.kept (sym c.stands_constant.ensures ∙ c.values-test.false)
