use Rattle.std.proofs.Common.{◌+◌, drop}
use Rattle.std.proofs.lemmas.List.{drop_all, drop_more}
use Rattle.cob_program.proofs.Loops.{added, nothing_left}
use Rattle.analyse_core.proofs.reaching.add_all.Goals as goal

pub returns : goal.returns
returns c =
    let l = c.loop-mention in
    nothing_left _ _ (drop l.mention-index c.args.more.now) (drop_all l.mention-index c.args.more.now c.loop-mention-test.false) l.invariant

pub loop-mention-preserved : goal.loop-mention-preserved
loop-mention-preserved c =
    let l = c.loop-mention in
    added _ _ _ (drop (l.mention-index + 1) c.args.more.now) _ _ c.in_ok-push.ensures.items (drop_more c.args.more.now l.mention-index _ c.loop-mention-test.true)
    l.invariant
