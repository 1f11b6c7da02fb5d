use Rattle.command_words.specs.Words.{texts}
use Rattle.command_words.proofs.Taking.{cut, front_plain, back_begins, no_number, parts_with_steps, parts_without}
use Rattle.command_words.proofs.parts.parts_of.Goals as goal

pub returns-in-None-number_up_to : goal.returns-in-None-number_up_to
returns-in-None-number_up_to c =
    let words = c.args.words.now in
    let before = c.split_at.result.0.now in
    let rest = c.split_at.result.1.now in
    let n = c.plain_count.result in
    let front = c.split_at.ensures.front in
    let back = c.split_at.ensures.back in
    no_number (texts words) (texts before) (texts rest) (cut words before rest n front back)
    (front_plain words before rest n front back c.plain_count.ensures)
    (back_begins words before rest n front back c.plain_count.ensures)
    c.in-Some.count.now (texts c.in-Some.after.now) c.in-Some.ensures c.in-None-number_up_to.ensures

pub returns-in-Some-number_up_to : goal.returns-in-Some-number_up_to
returns-in-Some-number_up_to c =
    let words = c.args.words.now in
    let before = c.split_at.result.0.now in
    let rest = c.split_at.result.1.now in
    let n = c.plain_count.result in
    let front = c.split_at.ensures.front in
    let back = c.split_at.ensures.back in
    parts_with_steps (texts words) (texts before) (texts rest) (cut words before rest n front back)
    (front_plain words before rest n front back c.plain_count.ensures)
    (back_begins words before rest n front back c.plain_count.ensures) c.in-Some.count.now (texts c.in-Some.after.now)
    c.in-Some-number_up_to.steps c.with_rest.result c.in-Some.ensures c.in-Some-number_up_to.ensures.0
    c.in-Some-number_up_to.ensures.1 c.with_rest.ensures

pub returns-in-None : goal.returns-in-None
returns-in-None c =
    let words = c.args.words.now in
    let before = c.split_at.result.0.now in
    let rest = c.split_at.result.1.now in
    let n = c.plain_count.result in
    let front = c.split_at.ensures.front in
    let back = c.split_at.ensures.back in
    parts_without (texts words) (texts before) (texts rest) (cut words before rest n front back)
    (front_plain words before rest n front back c.plain_count.ensures)
    (back_begins words before rest n front back c.plain_count.ensures) c.with_rest-in-None.result c.in-None.ensures
    c.with_rest-in-None.ensures
