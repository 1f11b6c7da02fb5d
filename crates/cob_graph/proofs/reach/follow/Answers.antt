use Rattle.std.proofs.Common.{◌≡◌, ◌∙◌, ◌<◌, Some, None, length, get_or, map, sym, arith}
use Rattle.std.proofs.lemmas.List.{length-map, get_or_default}
use Rattle.cob_graph.specs.Listing.{plain_call}
use Rattle.cob_graph.proofs.BoolLemmas.{lt_is}
use Rattle.cob_graph.proofs.ReachLemmas.{followed_row, followed_looked}
use Rattle.cob_graph.proofs.reach.follow.Goals as goal

pub returns-in-Some-Some : goal.returns-in-Some-Some
returns-in-Some-Some c =
    let calls = c.args.calls.now in
    let rows = c.args.rows.now in
    let place = c.args.place in
    let found = c.in-Some-Some.ensures.lookup in
    let within : place < length rows = lt_is place (length rows) (sym found.0) in
    let read : get_or rows place None ≡ Some c.in-Some-Some.row =
    get_or_default rows place None _ within ∙ sym found.1 ∙ c.in-Some-Some.field-0-is in
    followed_row (map plain_call calls) place (omega (arith, length-map calls plain_call, c.requires.place)) c.args.marks.now c.args.found.now.items c.take.new.marks
    c.in-Some-Some.row (c.requires.wide ∙ sym (length-map calls plain_call)) (c.requires.rows place _ read) c.take.ensures

pub returns : goal.returns
returns c =
    let calls = c.args.calls.now in
    followed_looked (map plain_call calls) c.args.place (omega (arith, length-map calls plain_call, c.requires.place)) c.args.marks.now c.args.found.now.items
    c.look_at.new.marks c.look_at.new.found.items c.in_ok-look_at.ensures
