use Rattle.std.proofs.Common.{List, sym, subst, ◌∙◌, arith}
use Rattle.cob_tree.specs.declared.front.Select.{Select}
use Rattle.cob_tree.specs.declared.keyword.Keyword.TheVariants as key
use Rattle.cob_parse_expr.specs.LexemeClasses.{the}
use Rattle.cob_parse_data.specs.Reading.{select}
use Rattle.cob_parse_data.proofs.ListLoop.{Kept, kept_start, kept_on, kept_end, kept_fail}
use Rattle.cob_parse_data.proofs.select.selects.Goals as goal

pub selects-init : goal.selects-init
selects-init c = record { kept = subst (λ (xs : List Select). Kept (the key.Select) select xs c.args.lexemes.now c.args.lexemes.now) (sym c.new-selects.ensures.items) (kept_start (the key.Select) select c.args.lexemes.now); shorter = omega arith }

pub returns-in-Err-clause-gives : goal.returns-in-Err-clause-gives
returns-in-Err-clause-gives c = kept_fail (the key.Select) select c.selects.selects.items c.selects.left.now c.args.lexemes.now c.in-Err.halt c.selects.invariant.kept (sym c.stands.ensures.begins ∙ c.selects-test.true) c.in-Err.ensures.gives

pub selects-preserved : goal.selects-preserved
selects-preserved c = record {
  kept = subst (λ (xs : List Select). Kept (the key.Select) select xs c.in-Ok.given.1.now c.args.lexemes.now) (sym c.in_ok-push.ensures.items)
      (kept_on (the key.Select) select c.selects.selects.items c.selects.left.now c.args.lexemes.now c.in-Ok.given.1.now c.in-Ok.given.0 c.selects.invariant.kept (sym c.stands.ensures.begins ∙ c.selects-test.true) c.in-Ok.ensures.gives c.in-Ok.ensures.rest);
  shorter = omega (arith, c.in-Ok.ensures.rest, c.selects.invariant.shorter);
}

pub returns-clause-gives : goal.returns-clause-gives
returns-clause-gives c = kept_end (the key.Select) select c.selects.selects.items c.selects.left.now c.args.lexemes.now c.selects.invariant.kept (sym c.stands.ensures.begins ∙ c.selects-test.false)
