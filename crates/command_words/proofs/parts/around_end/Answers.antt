use Rattle.std.proofs.Common.{◌≡◌, sym, ◌∙◌, rules}
use Rattle.command_words.specs.Words.{texts}
use Rattle.command_words.specs.Commands.{end_of_options}
use Rattle.command_words.proofs.Places.{first_and_rest}
use Rattle.command_words.proofs.Taking.{cut, front_plain, back_begins, with_end, not_plainly}
use Rattle.command_words.proofs.parts.around_end.Goals as goal

pub returns-in-len1-up : goal.returns-in-len1-up
returns-in-len1-up c =
    let words = c.args.words.now in
    let before = c.split_at.result.0.now in
    let rest = c.split_at.result.1.now in
    let n = c.plain_count.result in
    let front = c.split_at.ensures.front in
    let back = c.split_at.ensures.back in
    let name : c.as_str.result.now ≡ end_of_options = search rules in
    with_end (texts words) (texts before) (texts rest) (cut words before rest n front back)
    (front_plain words before rest n front back c.plain_count.ensures) _
    (first_and_rest rest c.word-item.result end_of_options c.in-len1-up.len_at_least c.word-item.is
    (sym name ∙ c.as_str.ensures.value))

pub returns-in_default : goal.returns-in_default
returns-in_default c =
    let words = c.args.words.now in
    let before = c.split_at.result.0.now in
    let rest = c.split_at.result.1.now in
    let n = c.plain_count.result in
    let front = c.split_at.ensures.front in
    let back = c.split_at.ensures.back in
    let other : c.as_str.result.now ≡ end_of_options → ⊥ = search rules in
    not_plainly (texts words) (texts before) (texts rest) (cut words before rest n front back)
    (front_plain words before rest n front back c.plain_count.ensures)
    (back_begins words before rest n front back c.plain_count.ensures) c.as_str.result.now _
    (first_and_rest rest c.word-item.result c.as_str.result.now c.in-len1-up.len_at_least c.word-item.is
    c.as_str.ensures.value) other
