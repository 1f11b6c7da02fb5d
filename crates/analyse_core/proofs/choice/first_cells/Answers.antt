use Rattle.std.proofs.Common.{◌+◌, ◌∙◌, drop}
use Rattle.std.proofs.lemmas.List.{drop_all, drop_more}
use Rattle.cob_program.specs.ActView.{plain_program}
use Rattle.analyse_core.specs.Choice.{noted_mention}
use Rattle.analyse_core.proofs.MentionNoting.{fold_done, fold_step}
use Rattle.analyse_core.proofs.Chosen.{first_are}
use Rattle.analyse_core.proofs.choice.first_cells.Goals as goal

pub returns : goal.returns
returns c =
    let l = c.loop-mention in
    let p = plain_program c.args.program.now in
    fold_done (noted_mention p) _ (drop l.mention-index c.args.mentions.now) _ (drop_all l.mention-index c.args.mentions.now c.loop-mention-test.false) l.invariant
    ∙ first_are p c.args.mentions.now

pub loop-mention-preserved : goal.loop-mention-preserved
loop-mention-preserved c =
    let l = c.loop-mention in
    fold_step (noted_mention (plain_program c.args.program.now)) l.list.items _ _ _ (drop (l.mention-index + 1) c.args.mentions.now) _ c.in_ok-note_mention.ensures
    (drop_more c.args.mentions.now l.mention-index _ c.loop-mention-test.true) l.invariant
