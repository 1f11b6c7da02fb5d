use Rattle.std.proofs.Common.{◌+◌, sym, ap, ◌∙◌}
use Rattle.std.specs.List.{enumerate_from}
use Rattle.std.specs.Str.Lines.{lines}
use Rattle.cob_lex.specs.Text.{bad_or, first_bad}
use Rattle.cob_lex.proofs.TextLemmas.{first_bad_more}
use Rattle.cob_lex.proofs.refusal.first_bad.Goals as goal

pub returns-in-Some : goal.returns-in-Some
returns-in-Some c =
    let number = c.loop-rest.number in
    let rest = lines c.first_line.result.1.now in
    ap (λ b. bad_or number b (first_bad (enumerate_from (number + 1) rest))) c.in-Some.ensures
    ∙ sym (first_bad_more number c.loop-rest.rest.now c.first_line.result.0.now rest c.first_line.ensures.cut)
    ∙ c.loop-rest.invariant.same
