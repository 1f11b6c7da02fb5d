use Rattle.std.proofs.Common.{◌≡◌, ◌<◌, ◌∙◌, ap, length, arith}
use Rattle.std.proofs.lemmas.Bool.Decides.{nat_tests}
use Rattle.std.proofs.lemmas.List.{length-set}
use Rattle.std.specs.Char.{to_ascii_uppercase}
use Rattle.cob_tree.specs.Keywords.{keyword_of}
use Rattle.cob_lex.proofs.WordLemmas.{raised_on, raised_whole}
use Rattle.cob_lex.proofs.word.spelled_keyword.Goals as goal

pub loop-place-preserved : goal.loop-place-preserved
loop-place-preserved c =
    let here : c.loop-place.place < length c.args.front.now = grind (arith, nat_tests) in
    let room : c.loop-place.place < length c.loop-place.capitals = grind (arith, nat_tests) in
    record {
      long = length-set _ _ _ ∙ c.loop-place.invariant.long;
      raised = raised_on c.args.front.now c.loop-place.capitals c.loop-place.place _ here room (c.to_ascii_uppercase.ensures.value ∙ ap to_ascii_uppercase c.ch_at.ensures) c.loop-place.invariant.raised;
    }

pub returns : goal.returns
returns c =
    let whole : c.loop-place.place ≡ length c.args.front.now = grind (arith, nat_tests) in
    c.keyword_of.ensures.value ∙ ap keyword_of (raised_whole c.args.front.now c.loop-place.capitals c.loop-place.place whole c.loop-place.invariant.raised)
