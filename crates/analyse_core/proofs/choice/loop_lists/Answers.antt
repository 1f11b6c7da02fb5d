use Rattle.std.proofs.Common.{◌≡◌, suc, ◌+◌, ◌++◌, ap, drop, ◌∙◌, arith}
use Rattle.cob_program.specs.ActView.{plain_para, plain_paras}
use Rattle.cob_program.specs.Statements.{para_statements, plain_references}
use Rattle.cob_program.proofs.Loops.{item_step, added}
use Rattle.analyse_core.specs.Mentions.{lists_of}
use Rattle.analyse_core.specs.Choice.{all_loops, loops_mentions}
use Rattle.analyse_core.proofs.choice.loop_lists.Goals as goal

pub loop-home-preserved : goal.loop-home-preserved
loop-home-preserved c =
    let texts = lists_of c.args.texts.now in
    let home = c.loop-home.home in
    let lists = lists_of c.loop-home.lists.items in
    let para = c.index-paras-home.result in
    let rest = plain_paras (drop (home + 1) c.args.paras.now) in
    let next : suc home ≡ home + 1 = omega arith in
    added _ _ (loops_mentions texts home (para_statements (plain_para para))) (all_loops texts (home + 1) rest) _ _
    (c.in_ok-add_loops.ensures ∙ ap (λ ss. lists ++ loops_mentions texts home ss) (ap plain_references c.as_slice.ensures.value ∙ c.in_ok-statements.ensures))
    (ap (λ xs. all_loops texts home (plain_paras xs)) (item_step c.args.paras.now home para (omega arith) c.index-paras-home.is)
    ∙ ap (λ n. loops_mentions texts home (para_statements (plain_para para)) ++ all_loops texts n rest) next)
    c.loop-home.invariant
