use Rattle.std.proofs.Common.{◌≡◌, ◌<◌, length, [], get_or, ◌∙◌, arith, rules}
use Rattle.std.proofs.lemmas.List.{take_rest}
use Rattle.command_words.proofs.Places.{rest_behind, same_more}
use Rattle.command_words.proofs.parts.behind_words.Goals as goal

pub returns : goal.returns
returns c =
    rest_behind c.args.plain.now c.args.words.now (length c.args.words.now) (omega arith) (search rules)
    _ (take_rest c.args.plain.now (length c.args.words.now))

pub loop-place-preserved : goal.loop-place-preserved
loop-place-preserved c =
    let within : c.loop-place.place < length c.args.plain.now = omega arith in
    let same : (get_or c.args.plain.now c.loop-place.place record { ref_ptr = (0, 0); now = [] }).now
    ≡ c.as_str.result.now = search rules in
    same_more c.args.plain.now c.args.words.now c.loop-place.place (record { ref_ptr = (0, 0); now = [] })
    c.index-words-place.result within c.loop-place-test.true c.loop-place.invariant
    (same ∙ c.as_str.ensures.value) c.index-words-place.is
