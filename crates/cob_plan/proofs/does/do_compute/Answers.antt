use Rattle.std.proofs.Common.{ℕ, Option, refl, sym, subst, [], ◌∷◌}
use Rattle.cob_program.specs.ActView.{plain_act, plain_program}
use Rattle.cob_runs.specs.declared.action.Action.{Action}
use Rattle.cob_runs.specs.declared.action.Action.TheVariants as action
use Rattle.cob_plan.specs.declared.node.Op.TheVariants as op
use Rattle.cob_plan.specs.Doing.{Does}
use Rattle.cob_plan.specs.Fitting.{HandlesSize}
use Rattle.cob_plan.proofs.SizeErrors.{first_alone}
use Rattle.cob_plan.proofs.WayLemmas.{only, second}
use Rattle.cob_runs.specs.Effects.{edge_computed}
use Rattle.std.specs.Prelude.{true, false, Some, None, is_some}
use Rattle.cob_plan.proofs.does.do_compute.Goals as goal

pub without_second-requires : goal.without_second-requires
without_second-requires c =
    let p = plain_program c.args.world.now.program in
    let s = c.args.statement.now in
    let a = plain_act s.act.now in
    record {
      first = first_alone p s.number c.args.world.now.world c.compute-outcome.new.world.world a c.compute-outcome.result
          (subst (λ (o : Option ℕ). HandlesSize (is_some o) a) c.in-None.is c.requires.handles)
          (c.compute-outcome.ensures.value s.number);
    }

pub returns-in-None-clause-value : goal.returns-in-None-clause-value
returns-in-None-clause-value c =
    let p = plain_program c.args.world.now.program in
    let s = c.args.statement.now in
    let a = plain_act s.act.now in
    let w = c.args.world.now.world in
    subst (λ (o : Option ℕ). Does p s.number (op.Compute c.args.fine o) w c.compute-outcome.new.world.world c.next_by_one_way.result)
    (sym c.in-None.is)
    (c.next_by_one_way.ensures p s.number a (op.Compute c.args.fine None) action.Done w c.compute-outcome.new.world.world
    (record { its = c.requires.its.its; out = only (action.Done, c.args.fine) []; handled = refl })
    (c.without_second.ensures (edge_computed p s.number None w false a) (edge_computed p s.number None w true a) w c.compute-outcome.new.world.world
    (c.compute-outcome.ensures.value s.number)))

pub returns-in-Some-clause-value : goal.returns-in-Some-clause-value
returns-in-Some-clause-value c =
    let p = plain_program c.args.world.now.program in
    let s = c.args.statement.now in
    let fine : Action × ℕ = (action.Done, c.args.fine) in
    let size : Action × ℕ = (action.Size, c.in-Some.size) in
    subst
    (λ (o : Option ℕ). Does p s.number (op.Compute c.args.fine o) c.args.world.now.world c.compute-outcome.new.world.world
    c.next_of_two.result)
    (sym c.in-Some.is)
    (c.next_of_two.ensures p s.number (plain_act s.act.now) (op.Compute c.args.fine (Some c.in-Some.size)) action.Done action.Size
    c.args.world.now.world c.compute-outcome.new.world.world
    (record { its = c.requires.its.its; out = only fine (size ∷ []); handled = refl })
    (record { its = c.requires.its.its; out = second fine size []; handled = refl })
    (c.compute-outcome.ensures.value s.number))
