use Rattle.std.proofs.Common.{◌≡◌, ◌∙◌, ◌+◌, ◌<◌, length, true, false, map, sym, ap, arith}
use Rattle.std.proofs.lemmas.List.{length-map}
use Rattle.cob_graph.specs.Listing.{plain_call, plain_span}
use Rattle.cob_graph.specs.Nesting.{Call}
use Rattle.cob_graph.specs.Reaching.{call_at, has_within, is_part}
use Rattle.cob_graph.proofs.LeastLemmas.{call_read}
use Rattle.cob_graph.proofs.ReachLemmas.{has_read, looked_none, looked_less, looked_out, looked_in, looked_so}
use Rattle.cob_graph.proofs.reach.look.Goals as goal
use Rattle.cob_graph.proofs.reach.look.Goals.{then-has+in_ok-note, else-has}

pub loop-place-init : goal.loop-place-init
loop-place-init c =
    looked_none (map plain_call c.args.calls.now) (plain_span c.args.span) c.args.hull.from c.args.marks.now c.args.found.now.items
    c.args.hull.from (omega arith)

pub loop-place-preserved : goal.loop-place-preserved
loop-place-preserved c =
    let calls = c.args.calls.now in
    let cs = map plain_call calls in
    let s = plain_span c.args.span in
    let from = c.args.hull.from in
    let marks = c.args.marks.now in
    let found = c.args.found.now.items in
    let l = c.loop-place in
    let n : length cs ≡ length calls = length-map calls plain_call in
    let inside : l.place < length calls = omega (arith, c.loop-place-test.true, c.requires.end) in
    let within : l.place < length cs = omega (arith, n, inside) in
    elim c.if-has.branch [
      | then-has+in_ok-note w ↦
          let has : has_within cs s l.place ≡ true = sym (has_read calls s l.place _ inside) ∙ sym c.has.ensures ∙ w.if-has.true in
          let part : w.is_part.result ≡ is_part (call_at cs l.place).span s =
          w.is_part.ensures ∙ ap (λ (x : Call). is_part x.span s) (call_read calls l.place _ inside) in
          looked_so cs s from marks found (l.place + 1) w.note.new.marks c.if-has.marks w.note.new.found.items c.if-has.found.items w.marks-is
          (ap (λ v. v.items) w.found-is)
          (looked_in cs s from marks found l.place w.is_part.result l.marks w.note.new.marks l.found.items w.note.new.found.items within
          (c.requires.wide ∙ sym n) has part w.in_ok-note.ensures l.invariant)
      | else-has w ↦
          let out : has_within cs s l.place ≡ false = sym (has_read calls s l.place _ inside) ∙ sym c.has.ensures ∙ w.if-has.false in
          looked_so cs s from marks found (l.place + 1) l.marks c.if-has.marks l.found.items c.if-has.found.items w.marks-is
          (ap (λ v. v.items) w.found-is) (looked_out cs s from marks found l.place l.marks l.found.items out l.invariant)
    ]

pub returns : goal.returns
returns c =
    let l = c.loop-place in
    looked_less (map plain_call c.args.calls.now) (plain_span c.args.span) c.args.hull.from c.args.marks.now c.args.found.now.items
    l.place c.args.hull.end l.marks l.found.items (omega arith) l.invariant
