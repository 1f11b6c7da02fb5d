use Rattle.std.proofs.Common.{◌+◌, ap, ◌∙◌, drop, map}
use Rattle.std.proofs.lemmas.List.{drop_all}
use Rattle.cob_program.specs.ActView.{plain_program}
use Rattle.cob_program.proofs.Loops.{item_step}
use Rattle.analyse_core.specs.Mentions.{lists_of}
use Rattle.analyse_core.specs.Choice.{cells_together, noted_pack, numbers_of}
use Rattle.analyse_core.proofs.MentionNoting.{fold_step, fold_done}
use Rattle.analyse_core.proofs.choice.note_all.Goals as goal

pub loop-mentions-preserved : goal.loop-mentions-preserved
loop-mentions-preserved c =
    let l = c.loop-mentions in
    let p = plain_program c.args.program.now in
    fold_step noted_pack _ _ _ _ (map (cells_together p) (lists_of (drop (l.mentions-index + 1) c.args.lists.now))) _
    (c.in_ok-note_pack.ensures
    ∙ ap (noted_pack (numbers_of l.packs.items)) (c.in_ok-together.ensures ∙ ap (cells_together p) c.as_slice.ensures.value))
    (ap (λ xs. map (cells_together p) (lists_of xs))
    (item_step c.args.lists.now l.mentions-index c.mentions-item.result c.loop-mentions-test.true c.mentions-item.is))
    l.invariant

pub returns : goal.returns
returns c =
    let l = c.loop-mentions in
    let p = plain_program c.args.program.now in
    fold_done noted_pack _ (map (cells_together p) (lists_of (drop l.mentions-index c.args.lists.now))) _
    (ap (λ xs. map (cells_together p) (lists_of xs)) (drop_all l.mentions-index c.args.lists.now c.loop-mentions-test.false))
    l.invariant
