use Rattle.std.proofs.Common.{sym, ◌∙◌, arith}
use Rattle.std.proofs.lemmas.List.{length-map}
use Rattle.cob_tree.specs.Cues.{is, Names}
use Rattle.reading.specs.Readers.{lead}
use Rattle.cob_parse_expr.specs.Classes.{name_of}
use Rattle.cob_parse_expr.specs.Steps.{signs}
use Rattle.cob_parse_verb.proofs.ListSteps.{list_first, list_on, list_fails, list_end}
use Rattle.cob_parse_verb.proofs.list.names_in.Goals as goal

pub names-init : goal.names-init
names-init c = record {
  goes = rw (c.in_ok-push.ensures.items, c.new-names.ensures.items) (list_first (is Names) (lead name_of) (signs c.args.lexemes.now) (signs c.in-Ok.given.1.now) c.in-Ok.given.0 c.in-Ok.ensures.gives);
  shorter = omega (arith, c.in-Ok.ensures.rest);
}

pub names-preserved : goal.names-preserved
names-preserved c = record {
  goes = rw c.in_ok-push-2.ensures.items (list_on (is Names) (lead name_of) (signs c.args.lexemes.now) (signs c.names.left.now) (signs c.in-Ok-name_at.given.1.now) c.names.names.items c.in-Ok-name_at.given.0 (sym c.name_begins.ensures ∙ c.names-test.true) c.in-Ok-name_at.ensures.gives (simp length-map (omega (arith, c.in-Ok-name_at.ensures.rest))) c.names.invariant.goes);
  shorter = omega (arith, c.in-Ok-name_at.ensures.rest, c.names.invariant.shorter);
}

pub returns-in-Err-name_at-clause-gives : goal.returns-in-Err-name_at-clause-gives
returns-in-Err-name_at-clause-gives c = list_fails (is Names) (lead name_of) (signs c.args.lexemes.now) (signs c.names.left.now) c.names.names.items c.in-Err-name_at.halt (sym c.name_begins.ensures ∙ c.names-test.true) c.in-Err-name_at.ensures.gives c.names.invariant.goes

pub returns-clause-gives : goal.returns-clause-gives
returns-clause-gives c = list_end (is Names) (lead name_of) (signs c.args.lexemes.now) (signs c.names.left.now) c.names.names.items (sym c.name_begins.ensures ∙ c.names-test.false) c.names.invariant.goes
