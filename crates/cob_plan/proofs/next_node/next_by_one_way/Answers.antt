use Rattle.std.proofs.Common.{Result, None, subst}
use Rattle.cob_runs.specs.Effects.{effect_of}
use Rattle.cob_plan.specs.declared.end.DoEnd.{DoEnd}
use Rattle.cob_plan.specs.Doing.{Meets}
use Rattle.cob_plan.proofs.WayLemmas.{fails}
use Rattle.cob_plan.proofs.next_node.next_by_one_way.Goals as goal

pub returns-in-Err : goal.returns-in-Err
returns-in-Err c = λ p number a o x old now l h.
    fails p number a o x old now c.args.to l c.in-Err.end
    (subst (λ (r : Result (Unit {0}) DoEnd). Meets (effect_of p number None old x a) old now r) c.in-Err.is h)
