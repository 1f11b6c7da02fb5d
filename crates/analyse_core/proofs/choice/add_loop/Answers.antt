use Rattle.std.proofs.Common.{sym, ◌∙◌}
use Rattle.analyse_core.specs.Mentions.{lists_of}
use Rattle.analyse_core.proofs.Pushing.{loop_pushed}
use Rattle.analyse_core.proofs.choice.add_loop.Goals as goal

pub returns-in_ok-push : goal.returns-in_ok-push
returns-in_ok-push c =
    loop_pushed (lists_of c.args.texts.now) c.args.home c.args.statement.now _ _ _ _ _ c.in_ok-push.ensures.items c.in_ok-whole_mentions.ensures c.as_slice.ensures.value
    c.in_ok-own.ensures (sym c.loops.ensures ∙ c.if-loops.true)
