use Rattle.std.proofs.Common.{◌≡◌, ◌++◌, ◌∷◌, [], length, map, ap, ◌∙◌, arith}
use Rattle.std.specs.List.{range_with_len}
use Rattle.std.proofs.lemmas.List.{length-map}
use Rattle.analyse_core.specs.Mentions.{lists_of}
use Rattle.analyse_core.specs.Reaching.{is_performed_by}
use Rattle.analyse_core.proofs.Marks.{one_more}
use Rattle.analyse_core.proofs.reaching.next_marks.Goals as goal

pub loop-para-preserved : goal.loop-para-preserved
loop-para-preserved c =
    let l = c.loop-para in
    c.in_ok-push.ensures.items ∙ ap (λ b. l.next.items ++ b ∷ []) c.is_performed_by.ensures
    ∙ one_more (is_performed_by (lists_of c.args.texts.now) c.args.own.now c.args.marks.now) l.para l.next.items l.invariant

pub returns : goal.returns
returns c =
    let wide : length (lists_of c.args.texts.now) ≡ length c.args.texts.now = length-map c.args.texts.now _ in
    let whole : c.loop-para.para ≡ length (lists_of c.args.texts.now) = omega (arith, wide) in
    c.loop-para.invariant ∙ ap (λ n. map (is_performed_by (lists_of c.args.texts.now) c.args.own.now c.args.marks.now) (range_with_len 0 n)) whole
