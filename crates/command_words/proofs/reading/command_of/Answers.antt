use Rattle.std.proofs.Common.{◌<◌, ℕ, List, length, subst, rules}
use Rattle.command_words.specs.Words.{texts}
use Rattle.command_words.specs.Commands.{Answers}
use Rattle.command_words.specs.Parts.{plain_of, IsSaidBy}
use Rattle.command_words.proofs.Places.{first_and_rest}
use Rattle.command_words.proofs.Saying.{answered}
use Rattle.command_words.proofs.reading.command_of.Goals as goal

pub returns : goal.returns
returns c =
    let within : 0 < length c.args.words.now = search rules in
    let first = c.as_str.result.now in
    let parts = c.in-Some.parts in
    answered (texts c.args.words.now) first _ (plain_of parts) parts.steps c.said.result
    (first_and_rest c.args.words.now c.index-words-0.result first within c.index-words-0.is c.as_str.ensures.value)
    c.in-Some.ensures
    (subst (λ (plain : List (List ℕ)). Answers (IsSaidBy first plain parts.steps) c.said.result) c.in_ok-plain.ensures
    c.said.ensures)
