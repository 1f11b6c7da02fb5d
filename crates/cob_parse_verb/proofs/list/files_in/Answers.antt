use Rattle.std.proofs.Common.{sym, ◌∙◌, arith}
use Rattle.std.proofs.lemmas.List.{length-map}
use Rattle.cob_tree.specs.Cues.{is, Modes}
use Rattle.cob_parse_expr.specs.Steps.{signs}
use Rattle.cob_parse_verb.specs.Lists.{opens_at}
use Rattle.cob_parse_verb.proofs.ListSteps.{list_first, list_on, list_fails, list_end}
use Rattle.cob_parse_verb.proofs.list.files_in.Goals as goal

pub files-init : goal.files-init
files-init c = record {
  goes = rw (c.in_ok-push.ensures.items, c.new-files.ensures.items) (list_first (is Modes) opens_at (signs c.args.lexemes.now) (signs c.in-Ok.given.1.now) c.in-Ok.given.0 c.in-Ok.ensures.gives);
  shorter = omega (arith, c.in-Ok.ensures.rest);
}

pub files-preserved : goal.files-preserved
files-preserved c = record {
  goes = rw c.in_ok-push-2.ensures.items (list_on (is Modes) opens_at (signs c.args.lexemes.now) (signs c.files.left.now) (signs c.in-Ok-opens_in.given.1.now) c.files.files.items c.in-Ok-opens_in.given.0 (sym c.mode_begins.ensures ∙ c.files-test.true) c.in-Ok-opens_in.ensures.gives (simp length-map (omega (arith, c.in-Ok-opens_in.ensures.rest))) c.files.invariant.goes);
  shorter = omega (arith, c.in-Ok-opens_in.ensures.rest, c.files.invariant.shorter);
}

pub returns-in-Err-opens_in-clause-gives : goal.returns-in-Err-opens_in-clause-gives
returns-in-Err-opens_in-clause-gives c = list_fails (is Modes) opens_at (signs c.args.lexemes.now) (signs c.files.left.now) c.files.files.items c.in-Err-opens_in.halt (sym c.mode_begins.ensures ∙ c.files-test.true) c.in-Err-opens_in.ensures.gives c.files.invariant.goes

pub returns-clause-gives : goal.returns-clause-gives
returns-clause-gives c = list_end (is Modes) opens_at (signs c.args.lexemes.now) (signs c.files.left.now) c.files.files.items (sym c.mode_begins.ensures ∙ c.files-test.false) c.files.invariant.goes
