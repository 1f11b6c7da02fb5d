use Rattle.std.proofs.Common.{◌≡◌, ◌++◌, ◌∷◌, [], List, map, refl, sym, ap, ◌∙◌, arith}
use Rattle.std.proofs.lemmas.List.{map_push, length-map}
use Rattle.cob_tree.specs.Cues.{is, NotRelates, Whens}
use Rattle.cob_tree.specs.Stmt.{Sel}
use Rattle.cob_tree.specs.StmtView.{plain_sel}
use Rattle.cob_tree.specs.Takes.{takes_sel}
use Rattle.cob_parse_expr.specs.Steps.{signs}
use Rattle.cob_parse_verb.specs.Listed.{takes_listed}
use Rattle.cob_parse_verb.specs.Turning.{choice_at}
use Rattle.cob_parse_verb.proofs.ListSteps.{list_first, list_on, list_fails, list_end}
use Rattle.cob_parse_verb.proofs.VerbLemmas.{last_taken}
use Rattle.cob_parse_verb.proofs.select.choices_in.Goals as goal

pub choices-init : goal.choices-init
choices-init c =
    let pushed : map plain_sel c.push.new.self.items ≡ plain_sel c.in-Ok.given.0 ∷ [] = rw (c.in_ok-push.ensures.items, c.new-choices.ensures.items) refl in
    record {
      goes = rw pushed (list_first (is Whens) (choice_at c.args.room) (signs c.args.lexemes.now) (signs c.in-Ok.given.2.now) (plain_sel c.in-Ok.given.0) c.in-Ok.ensures.gives);
      shorter = omega (arith, c.in-Ok.ensures.rest);
      takes = c.in-Ok.ensures.takes ∙ sym (ap (λ (xs : List Sel). takes_listed takes_sel (is Whens) xs NotRelates) pushed ∙ last_taken [] (plain_sel c.in-Ok.given.0));
    }

pub choices-preserved : goal.choices-preserved
choices-preserved c =
    let pushed : map plain_sel c.push-in-choices.new.self.items ≡ map plain_sel c.choices.choices.items ++ plain_sel c.in-Ok-choice_in.given.0 ∷ [] = rw c.in_ok-push-2.ensures.items (map_push plain_sel c.choices.choices.items c.in-Ok-choice_in.given.0) in
    record {
      goes = rw pushed (list_on (is Whens) (choice_at c.args.room) (signs c.args.lexemes.now) (signs c.choices.left.now) (signs c.in-Ok-choice_in.given.2.now) (map plain_sel c.choices.choices.items) (plain_sel c.in-Ok-choice_in.given.0) (sym c.when_begins.ensures ∙ c.choices-test.true) c.in-Ok-choice_in.ensures.gives (simp length-map (omega (arith, c.in-Ok-choice_in.ensures.rest))) c.choices.invariant.goes);
      shorter = omega (arith, c.in-Ok-choice_in.ensures.rest, c.choices.invariant.shorter);
      takes = c.in-Ok-choice_in.ensures.takes ∙ sym (ap (λ (xs : List Sel). takes_listed takes_sel (is Whens) xs NotRelates) pushed ∙ last_taken (map plain_sel c.choices.choices.items) (plain_sel c.in-Ok-choice_in.given.0));
    }

pub returns-in-Err-choice_in-clause-gives : goal.returns-in-Err-choice_in-clause-gives
returns-in-Err-choice_in-clause-gives c = list_fails (is Whens) (choice_at c.args.room) (signs c.args.lexemes.now) (signs c.choices.left.now) (map plain_sel c.choices.choices.items) c.in-Err-choice_in.halt (sym c.when_begins.ensures ∙ c.choices-test.true) c.in-Err-choice_in.ensures.gives c.choices.invariant.goes

pub returns-clause-gives : goal.returns-clause-gives
returns-clause-gives c = list_end (is Whens) (choice_at c.args.room) (signs c.args.lexemes.now) (signs c.choices.left.now) (map plain_sel c.choices.choices.items) (sym c.when_begins.ensures ∙ c.choices-test.false) c.choices.invariant.goes
