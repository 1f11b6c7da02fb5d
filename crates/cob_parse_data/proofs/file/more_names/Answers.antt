use Rattle.std.proofs.Common.{ℕ, List, sym, subst, ◌∙◌, arith}
use Rattle.cob_parse_expr.specs.LexemeClasses.{name_symbol}
use Rattle.cob_parse_data.specs.Reading.{name}
use Rattle.cob_parse_data.proofs.ListLoop.{Kept, kept_start, kept_on, kept_end, kept_fail}
use Rattle.cob_parse_data.proofs.file.more_names.Goals as goal

pub names-init : goal.names-init
names-init c = record { kept = subst (λ (xs : List (List ℕ)). Kept name_symbol name xs c.args.lexemes.now c.args.lexemes.now) (sym c.new-names.ensures.items) (kept_start name_symbol name c.args.lexemes.now); shorter = omega arith }

pub returns-in-Err-clause-gives : goal.returns-in-Err-clause-gives
returns-in-Err-clause-gives c = kept_fail name_symbol name c.names.names.items c.names.left.now c.args.lexemes.now c.in-Err.halt c.names.invariant.kept (sym c.stands_name.ensures ∙ c.names-test.true) c.in-Err.ensures.gives

pub names-preserved : goal.names-preserved
names-preserved c = record {
  kept = subst (λ (xs : List (List ℕ)). Kept name_symbol name xs c.in-Ok.given.1.now c.args.lexemes.now) (sym c.in_ok-push.ensures.items)
      (kept_on name_symbol name c.names.names.items c.names.left.now c.args.lexemes.now c.in-Ok.given.1.now c.in-Ok.given.0 c.names.invariant.kept (sym c.stands_name.ensures ∙ c.names-test.true) c.in-Ok.ensures.gives c.in-Ok.ensures.rest);
  shorter = omega (arith, c.in-Ok.ensures.rest, c.names.invariant.shorter);
}

pub returns-clause-gives : goal.returns-clause-gives
returns-clause-gives c = kept_end name_symbol name c.names.names.items c.names.left.now c.args.lexemes.now c.names.invariant.kept (sym c.stands_name.ensures ∙ c.names-test.false)
