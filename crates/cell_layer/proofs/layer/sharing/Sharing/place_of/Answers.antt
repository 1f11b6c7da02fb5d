use Rattle.std.proofs.Common.{◌≡◌, ℕ, List, refl, ap, subst, ◌∙◌}
use Rattle.std.specs.List.{All}
use Rattle.std.specs.Prelude.{Contains}
use Rattle.cob_program.specs.ActView.{plain_program, plain_stmt}
use Rattle.cob_runs.specs.declared.action.Action.{Action}
use Rattle.edge_parts.specs.declared.statement_tests.StatementTests.{StatementTests}
use Rattle.cell_laws.specs.Layer.{left}
use Rattle.cell_layer.specs.NumberedStatements.{number_in}
use Rattle.cell_layer.specs.Statements.{stated}
use Rattle.cell_layer.specs.Works.{statement_of, StandsAt}
use Rattle.cell_layer.proofs.WorkPlaces.{place_here, no_place, of_program}
use Rattle.cell_layer.proofs.layer.sharing.Sharing.place_of.Goals as goal

pub returns-in-Some-clause-place : goal.returns-in-Some-clause-place
returns-in-Some-clause-place c =
    let s = c.args.self.now in
    let x = c.args.edge in
    place_here (plain_program s.program.now) s.graph.now s.works.items x c.in-Some.place
    (subst (λ (n : ℕ). StandsAt s.works.items n x.action c.in-Some.place) c.left_number-number.ensures c.in-Some.ensures) s.found

pub add-requires : goal.add-requires
add-requires c =
    let s = c.args.self.now in
    let t = c.in-Some-statement_with.tests.now in
    record {
      of_program =
          of_program (plain_program s.program.now) s.graph.now s.source s.statements.items s.listed c.in_ok-work-in-Some-statement_with.work t
          (subst (λ (ss : List StatementTests). Contains ss t) c.as_slice.ensures.value c.in-Some-statement_with.ensures.some.0)
          (ap plain_program c.in_ok-work-in-Some-statement_with.ensures.program) (ap plain_stmt c.in_ok-work-in-Some-statement_with.ensures.statement);
    }

pub returns-in_ok-add-in-Some-statement_with-clause-place : goal.returns-in_ok-add-in-Some-statement_with-clause-place
returns-in_ok-add-in-Some-statement_with-clause-place c =
    let s = c.args.self.now in
    let x = c.args.edge in
    let works = c.add.new.self.works.items in
    let work = c.in_ok-work-in-Some-statement_with in
    let at = c.in_ok-add-in-Some-statement_with in
    place_here (plain_program s.program.now) s.graph.now works x at.field-0
    (subst (λ (n : ℕ). StandsAt works n x.action at.field-0)
    (ap (λ y. number_in (plain_stmt y)) work.ensures.statement ∙ (c.in-Some-statement_with.ensures.some.1 ∙ c.left_number-number.ensures))
    (subst (λ (a : Action). StandsAt works (number_in (statement_of work.work)) a at.field-0) work.ensures.action at.ensures.place)) at.ensures.found

pub returns-in-None-clause-place : goal.returns-in-None-clause-place
returns-in-None-clause-place c =
    let s = c.args.self.now in
    let x = c.args.edge in
    no_place (plain_program s.program.now) s.graph.now s.source s.statements.items s.listed s.works.items x
    (subst (λ (ss : List StatementTests). All (λ y. ¬ number_in (stated y) ≡ left s.graph.now x) ss) c.as_slice.ensures.value
    (subst (λ (n : ℕ). All (λ y. ¬ number_in (stated y) ≡ n) c.as_slice.result.now) c.left_number-number.ensures (c.in-None.ensures.none refl)))
