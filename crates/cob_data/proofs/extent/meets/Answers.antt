use Rattle.std.proofs.Common.{◌≤◌, ap, sym, ◌∙◌, arith}
use Rattle.cob_data.specs.Extents.{share_bytes, meets_range}
use Rattle.cob_data.proofs.Meeting.{none_meets, first_meets}
use Rattle.cob_data.proofs.extent.meets.Goals as goal

pub returns-then-first-from : goal.returns-then-first-from
returns-then-first-from c =
    let b = c.args.b.now in
    let long = c.args.a.now.length in
    let first = c.first_behind-first in
    let past : b.times ≤ first.result = omega (arith, c.from.ensures, c.if-first-from.true) in
    sym (ap (λ o. meets_range b o long) (sym c.start-from.ensures.value)
    ∙ none_meets b c.start-from.result long first.result first.ensures.before first.ensures.there past)

pub returns : goal.returns
returns c =
    let b = c.args.b.now in
    let long = c.args.a.now.length in
    let first = c.first_behind-first in
    c.share_bytes.ensures
    ∙ (ap (λ o. share_bytes c.start-from.result long o b.length) c.start-other.ensures.value
    ∙ (sym (first_meets b c.start-from.result long first.result first.ensures.before first.ensures.there
    (omega (arith, c.from.ensures, c.if-first-from.false)))
    ∙ ap (λ o. meets_range b o long) c.start-from.ensures.value))
