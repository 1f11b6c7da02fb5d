use Rattle.std.proofs.Common.{◌≡◌, ℕ, ◌<◌, true, Some, sym, ap, ◌∙◌, arith, refl}
use Rattle.cob_typed_exprs.specs.Names.{is_named}
use Rattle.cob_typed_exprs.specs.Tables.{last_named}
use Rattle.cob_typed_exprs.specs.Search.{name_in, count_in, NamesIn, bound}
use Rattle.cob_typed_exprs.proofs.FoundLemmas.{walk_begins, walk_smaller, walk_step, walk_stops, found_two}
use Rattle.cob_typed_exprs.proofs.names.Names.search.Goals as goal

-- the place before this one, as the table has it
before : (c : goal.After-before-next) → c.before-next.result ≡ last_named c.args.name.now (name_in c.args.self.now c.args.kind) c.in-Some.place
before c =
    let here : (c.in-Some.place < count_in c.args.self.now c.args.kind) × (is_named c.args.name.now (name_in c.args.self.now c.args.kind c.in-Some.place) ≡ true) = rw c.in-Some.is at c.loop-next.invariant.place in
    let told = c.table-table.ensures.before c.args.name.now c.in-Some.place here.0 here.1 in
    cc (c.before-next.ensures, told)

pub loop-next-init : goal.loop-next-init
loop-next-init c =
    let begins = walk_begins c.args.self.now c.args.kind c.args.name.now c.args.of.now c.last-next.result (c.last-next.ensures ∙ c.table-table.ensures.latest c.args.name.now) in
    record { place = begins.0; so_far = begins.1 }

pub loop-next-smaller : goal.loop-next-smaller
loop-next-smaller c =
    walk_smaller c.args.self.now c.args.kind c.args.name.now c.args.of.now c.in-Some.place c.before-next.result c.loop-next.next c.in-Some.is (before c)

pub loop-next-preserved : goal.loop-next-preserved
loop-next-preserved c =
    let step = walk_step c.args.self.now c.args.kind c.args.name.now c.args.of.now c.in-Some.place c.before-next.result c.loop-next.next c.loop-next.found c.count-found.result c.in-Some.is c.loop-next.invariant.place (before c) c.count-found.ensures c.loop-next.invariant.so_far in
    record { place = step.0; so_far = step.1 }

pub returns-then-is_several : goal.returns-then-is_several
returns-then-is_several c =
    found_two _ c.in-Some.place c.count-found.result (c.is_several.ensures.0 c.if-is_several.true)
    (walk_stops c.args.self.now c.args.kind c.args.name.now c.args.of.now c.in-Some.place c.loop-next.next c.loop-next.found c.count-found.result c.in-Some.is c.loop-next.invariant.place c.count-found.ensures c.loop-next.invariant.so_far)
