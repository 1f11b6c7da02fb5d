use Rattle.std.proofs.Common.{◌++◌, ap, sym, ◌∙◌}
use Rattle.std.proofs.lemmas.Result.{on_ok_weaker}
use Rattle.cob_program.specs.ActView.{plain_act}
use Rattle.analyse_core.specs.Mentions.{if_item, own_mentions, targets_mentions}
use Rattle.analyse_core.proofs.Adding.{both_added}
use Rattle.analyse_core.proofs.MentionCuts.{own_cut}
use Rattle.analyse_core.proofs.mentioned_statements.add_own.Goals as goal

pub returns-in_ok-add_targets-in-Arith : goal.returns-in_ok-add_targets-in-Arith
returns-in_ok-add_targets-in-Arith c =
    let x = c.in-Arith in
    on_ok_weaker c.add_if.result
    (both_added c.args.mentions.now.items c.add_targets.new.mentions.items c.add_if.new.mentions.items _ _ (own_mentions (plain_act c.args.act.now))
    (c.in_ok-add_targets-in-Arith).ensures
    (own_cut c.args.act.now x.common x.targets x.remainder x.size x.fine x.is ∙ sym (ap (λ ts. targets_mentions ts ++ if_item x.remainder) c.get.ensures)))
    c.add_if.ensures
