use Rattle.std.proofs.Common.{List, sym, subst, ◌∙◌, arith}
use Rattle.cob_tree.specs.declared.front.Fd.{Fd}
use Rattle.cob_tree.specs.declared.keyword.Keyword.TheVariants as key
use Rattle.cob_parse_expr.specs.LexemeClasses.{the}
use Rattle.cob_parse_data.specs.Reading.{fd}
use Rattle.cob_parse_data.proofs.ListLoop.{Kept, kept_start, kept_on, kept_end, kept_fail}
use Rattle.cob_parse_data.proofs.file.fds.Goals as goal

pub fds-init : goal.fds-init
fds-init c = record { kept = subst (λ (xs : List Fd). Kept (the key.Fd) fd xs c.args.lexemes.now c.args.lexemes.now) (sym c.new-fds.ensures.items) (kept_start (the key.Fd) fd c.args.lexemes.now); shorter = omega arith }

pub returns-in-Err-clause-gives : goal.returns-in-Err-clause-gives
returns-in-Err-clause-gives c = kept_fail (the key.Fd) fd c.fds.fds.items c.fds.left.now c.args.lexemes.now c.in-Err.halt c.fds.invariant.kept (sym c.stands.ensures.begins ∙ c.fds-test.true) c.in-Err.ensures.gives

pub fds-preserved : goal.fds-preserved
fds-preserved c = record {
  kept = subst (λ (xs : List Fd). Kept (the key.Fd) fd xs c.in-Ok.given.1.now c.args.lexemes.now) (sym c.in_ok-push.ensures.items)
      (kept_on (the key.Fd) fd c.fds.fds.items c.fds.left.now c.args.lexemes.now c.in-Ok.given.1.now c.in-Ok.given.0 c.fds.invariant.kept (sym c.stands.ensures.begins ∙ c.fds-test.true) c.in-Ok.ensures.gives c.in-Ok.ensures.rest);
  shorter = omega (arith, c.in-Ok.ensures.rest, c.fds.invariant.shorter);
}

pub returns-clause-gives : goal.returns-clause-gives
returns-clause-gives c = kept_end (the key.Fd) fd c.fds.fds.items c.fds.left.now c.args.lexemes.now c.fds.invariant.kept (sym c.stands.ensures.begins ∙ c.fds-test.false)
