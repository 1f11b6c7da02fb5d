use Rattle.std.proofs.Common.{◌∙◌, ap, Bool, Result, Ok, None, subst}
use Rattle.cob_runs.specs.Effects.{effect_of}
use Rattle.cob_plan.specs.declared.end.DoEnd.{DoEnd}
use Rattle.cob_plan.specs.Doing.{Forks}
use Rattle.cob_plan.proofs.WayLemmas.{goes, fails}
use Rattle.cob_plan.proofs.next_node.next_of_two.Goals as goal

pub returns-in-Ok-true : goal.returns-in-Ok-true
returns-in-Ok-true c = λ p number a o x y old now l m h.
    goes p number a o x old now c.args.first l
    (subst (λ (r : Result Bool DoEnd). Forks (effect_of p number None old x a) (effect_of p number None old y a) old now r)
    (c.in-Ok-true.is ∙ ap (λ b. Ok b) c.in-Ok-true.field-0-test) h)

pub returns-in-Err : goal.returns-in-Err
returns-in-Err c = λ p number a o x y old now l m h.
    fails p number a o x old now c.args.first l c.in-Err.end
    (subst (λ (r : Result Bool DoEnd). Forks (effect_of p number None old x a) (effect_of p number None old y a) old now r)
    c.in-Err.is h)
