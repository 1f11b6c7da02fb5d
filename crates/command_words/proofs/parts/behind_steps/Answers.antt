use Rattle.std.proofs.Common.{◌≡◌, sym, ◌∙◌, inl, rules}
use Rattle.std.specs.Prelude.{codes}
use Rattle.command_words.proofs.Places.{two_and_rest}
use Rattle.command_words.proofs.parts.behind_steps.Goals as goal

pub returns-in-len2-up : goal.returns-in-len2-up
returns-in-len2-up c =
    let name : c.as_str.result.now ≡ codes "--steps" = search rules in
    inl (two_and_rest c.args.words.now c.option-item.result c.count-item.result (codes "--steps")
    c.as_str-in-len2-up.result.now c.in-len2-up.len_at_least c.option-item.is c.count-item.is
    (sym name ∙ c.as_str.ensures.value) c.as_str-in-len2-up.ensures.value)
