use Rattle.std.proofs.Common.{List, Ok, sym, ap, ◌∙◌}
use Rattle.cob_tree.specs.declared.front.Clause.TheVariants as made
use Rattle.cob_tree.specs.declared.front.Range.{Range}
use Rattle.cob_parse_expr.specs.Steps.{signs}
use Rattle.cob_parse_data.specs.Reading.{first_and}
use Rattle.cob_parse_data.specs.Reading as reading
use Rattle.cob_parse_data.proofs.ListLoop.{seen_read, seen_fails}
use Rattle.cob_parse_data.proofs.entry.value_behind.Goals as goal

pub returns-in-Err-clause-gives : goal.returns-in-Err-clause-gives
returns-in-Err-clause-gives c = seen_fails (λ (xs : List Range). made.Value xs) first_and reading.ranges (signs c.args.lexemes.now) c.in-Err.halt c.in-Err.ensures.gives

pub returns-clause-gives : goal.returns-clause-gives
returns-clause-gives c = seen_read (λ (xs : List Range). made.Value xs) first_and reading.ranges (signs c.args.lexemes.now) c.in-Ok.given.0.items (signs c.in-Ok.given.1.now) c.in-Ok.ensures.gives ∙ ap (λ (xs : List Range). Ok (made.Value xs, signs c.in-Ok.given.1.now)) (sym c.of-ranges.ensures)
