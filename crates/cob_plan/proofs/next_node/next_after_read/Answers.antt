use Rattle.std.proofs.Common.{◌≡◌, ◌==◌, false, sym, ◌∙◌, arith}
use Rattle.std.proofs.lemmas.Bool.Decides.{nat_tests}
use Rattle.cob_plan.proofs.WayLemmas.{goes_found, goes_end, stops_end, taken_bad, taken_stops}
use Rattle.cob_plan.proofs.next_node.next_after_read.Goals as goal

pub returns-then-is_fine : goal.returns-then-is_fine
returns-then-is_fine c = λ p number a old now its h.
    goes_found p number a old now its c.args.taken h c.args.found c.args.end c.args.bad
    (sym c.is_fine.ensures ∙ c.if-is_fine.true)

pub returns-then-taken : goal.returns-then-taken
returns-then-taken c = λ p number a old now its h.
    goes_end p number a old now its c.args.taken h c.args.found c.args.end c.args.bad c.if-taken-eq10.true c.if-taken.true

pub returns-else-taken : goal.returns-else-taken
returns-else-taken c = λ p number a old now its h.
    stops_end p number a old now its c.args.taken h c.args.found c.args.end c.args.bad c.if-taken-eq10.true c.if-taken.false

pub returns-then-taken-2 : goal.returns-then-taken-2
returns-then-taken-2 c = λ p number a old now its h.
    let not_ten : (c.args.taken.status == 10) ≡ false = grind (arith, nat_tests) in
    taken_bad p number a old now its c.args.taken h c.args.found c.args.end c.args.bad
    (sym c.is_fine.ensures ∙ c.if-is_fine.false) not_ten c.if-taken-2.true

pub returns-else-taken-2 : goal.returns-else-taken-2
returns-else-taken-2 c = λ p number a old now its h.
    let not_ten : (c.args.taken.status == 10) ≡ false = grind (arith, nat_tests) in
    taken_stops p number a old now its c.args.taken h c.args.found c.args.end c.args.bad
    (sym c.is_fine.ensures ∙ c.if-is_fine.false) not_ten c.if-taken-2.false
