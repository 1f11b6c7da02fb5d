use Rattle.std.proofs.Common.{◌≡◌, ◌∙◌, ◌<◌, ◌≤◌, false, length, replicate, get_or, map, sym, ap, arith}
use Rattle.std.proofs.lemmas.List.{length-map, length-replicate, get_or_default}
use Rattle.cob_graph.specs.Listing.{plain_call}
use Rattle.cob_graph.proofs.ReachLemmas.{search_first, search_next, search_row}
use Rattle.cob_graph.proofs.reach.search.Goals as goal

pub loop-next-init : goal.loop-next-init
loop-next-init c =
    let calls = c.args.calls.now in
    search_first (map plain_call calls) c.args.start c.args.marks.now c.look_at.new.marks c.new-found.result.items c.look_at.new.found.items
    c.new-found.ensures.items (c.requires.none ∙ ap (λ n. replicate n false) (sym (length-map calls plain_call))) c.in_ok-look_at.ensures

pub returns-then-next-len : goal.returns-then-next-len
returns-then-next-len c =
    let calls = c.args.calls.now in
    let l = c.loop-next in
    let past : length l.found.items ≤ l.next = omega (arith, c.if-next-len.true, c.len.ensures, l.found.ok.0) in
    search_row (map plain_call calls) c.args.start l.marks l.found.items l.next l.invariant past (omega (arith, length-map calls plain_call, c.requires.start))

pub loop-next-preserved : goal.loop-next-preserved
loop-next-preserved c =
    let l = c.loop-next in
    let place = c.index-place.result.now in
    let within : l.next < length l.found.items = omega (arith, c.if-next-len.false, c.len.ensures, l.found.ok.0) in
    let read : place ≡ get_or l.found.items l.next 0 =
    c.index-place.ensures ∙ get_or_default l.found.items l.next place 0 within in
    search_next (map plain_call c.args.calls.now) c.args.start l.next place l.marks c.follow.new.marks l.found.items
    c.follow.new.found.items within read c.in_ok-follow.ensures l.invariant

pub follow-requires-clause-place : goal.follow-requires-clause-place
follow-requires-clause-place c =
    let l = c.loop-next in
    let place = c.index-place.result.now in
    let within : l.next < length l.found.items = omega (arith, c.if-next-len.false, c.len.ensures, l.found.ok.0) in
    let read : place ≡ get_or l.found.items l.next 0 =
    c.index-place.ensures ∙ get_or_default l.found.items l.next place 0 within in
    let known = l.invariant.search.marked l.next within in
    omega (arith, read, known.0, length-map c.args.calls.now plain_call)

pub returns : goal.returns
returns c =
    let calls = c.args.calls.now in
    let cs = map plain_call calls in
    let l = c.loop-next in
    let n : length cs ≡ length calls = length-map calls plain_call in
    let past : length l.found.items ≤ l.next = omega (arith, l.invariant.search.room, c.loop-next-test.false, n) in
    search_row cs c.args.start l.marks l.found.items l.next l.invariant past (omega (arith, n, c.requires.start))

pub look_at-requires-clause-wide : goal.look_at-requires-clause-wide
look_at-requires-clause-wide c = ap length c.requires.none ∙ length-replicate (length c.args.calls.now) false

pub follow-requires-clause-wide : goal.follow-requires-clause-wide
follow-requires-clause-wide c = c.loop-next.invariant.search.wide ∙ length-map c.args.calls.now plain_call
