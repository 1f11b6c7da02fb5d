use Rattle.std.proofs.Common.{◌≡◌, ◌+◌, sym, ap, subst, ◌∙◌, arith, List, Result, length}
use Rattle.std.proofs.lemmas.Bool.Decides.{nat_tests}
use Rattle.std.proofs.lemmas.Result.{err_from_is_err_and}
use Rattle.std.specs.List.{enumerate_from}
use Rattle.std.specs.Str.Lines.{lines}
use Rattle.cob_lex.specs.declared.text.Mark.{Mark}
use Rattle.cob_lex.specs.declared.refusal.Place.{Place}
use Rattle.cob_lex.specs.Text.{kept, joined, onward, Gives}
use Rattle.cob_lex.specs.Run.{text}
use Rattle.cob_lex.proofs.TextLemmas.{joined_more, joined_end, refused_gives}
use Rattle.cob_lex.proofs.join.joined.Goals as goal

pub returns-in_err-take : goal.returns-in_err-take
returns-in_err-take c =
    let p = err_from_is_err_and c.from_residual.result c.from_residual.ensures.1 in
    let rest = lines c.first_line.result.1.now in
    let more = joined_more (text c.loop-rest.joining) c.loop-rest.number c.loop-rest.rest.now c.first_line.result.0.now rest c.first_line.ensures.cut in
    rw (p.1, p.2) (refused_gives _ _ (λ longer. joined longer (kept (enumerate_from (c.loop-rest.number + 1) rest))) _ _ c.in_err-take.ensures (sym more ∙ c.loop-rest.invariant.same))

pub loop-rest-preserved : goal.loop-rest-preserved
loop-rest-preserved c =
    let rest = lines c.first_line.result.1.now in
    let more = joined_more (text c.loop-rest.joining) c.loop-rest.number c.loop-rest.rest.now c.first_line.result.0.now rest c.first_line.ensures.cut in
    record {
      run = c.in_ok-take.ensures.1;
      bound = omega arith;
      same = ap (λ (wanted : Result (List Mark) Place). onward wanted (λ longer. joined longer (kept (enumerate_from (c.loop-rest.number + 1) rest)))) (sym c.in_ok-take.ensures.0) ∙ sym more ∙ c.loop-rest.invariant.same;
    }

pub returns : goal.returns
returns c =
    let none : length c.loop-rest.rest.now ≡ 0 = grind (arith, nat_tests) in
    subst (λ (w : Result (List Mark) Place). Gives w c.close.result) (sym (joined_end (text c.loop-rest.joining) c.loop-rest.number c.loop-rest.rest.now none) ∙ c.loop-rest.invariant.same) c.close.ensures
