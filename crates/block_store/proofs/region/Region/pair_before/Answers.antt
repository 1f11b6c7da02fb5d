use Rattle.std.proofs.Common.{◌≤◌, ◌<◌, ◌+◌, ◌*◌, ◌++◌, length, sym, ap, ◌∙◌, subst, refl, arith}
use Rattle.block_store.specs.Grid.{Grid}
use Rattle.block_store.proofs.RowLemmas.{is_row, row_count, ordered, seen_low, seen_high, moved, rewrites_low, low_length}
use Rattle.block_store.proofs.region.Region.pair_before.Goals as goal

pub overflow_mul-beside : goal.overflow_mul-beside
overflow_mul-beside c =
    let r = c.self.inside in let words = r.halves.low ++ r.halves.high in
    let row = is_row words r.width r.count c.args.beside c.self.invariant.size c.self.invariant.limit (subst (λ (g : Grid). c.args.beside < length g.rows) (sym c.self.view_is) c.requires.last) in
    record { fits = omega (arith, row.small) }

pub shift-requires : goal.shift-requires
shift-requires c =
    let r = c.self.inside in let words = r.halves.low ++ r.halves.high in
    let row = is_row words r.width r.count c.args.beside c.self.invariant.size c.self.invariant.limit (subst (λ (g : Grid). c.args.beside < length g.rows) (sym c.self.view_is) c.requires.last) in
    omega (arith, row.within)

pub overflow_mul-place : goal.overflow_mul-place
overflow_mul-place c =
    let r = c.self.inside in let words = r.halves.low ++ r.halves.high in
    let row = is_row words r.width r.count c.args.beside c.self.invariant.size c.self.invariant.limit (subst (λ (g : Grid). c.args.beside < length g.rows) (sym c.self.view_is) c.requires.last) in
    record { fits = omega (arith, row.small, ordered c.args.place c.args.beside r.width c.requires.order) }

pub low_mut_beside-requires-clause-at : goal.low_mut_beside-requires-clause-at
low_mut_beside-requires-clause-at c =
    let r = c.self.inside in let words = r.halves.low ++ r.halves.high in
    let row = is_row words r.width r.count c.args.beside c.self.invariant.size c.self.invariant.limit (subst (λ (g : Grid). c.args.beside < length g.rows) (sym c.self.view_is) c.requires.last) in
    let new = moved words c.shift.new.self.low c.shift.new.self.high (c.args.beside * r.width) (omega (arith, row.within)) c.shift.ensures.low c.shift.ensures.high in
    omega (arith, new.border, ordered c.args.place c.args.beside r.width c.requires.order)

pub low_mut_beside-requires-clause-beside : goal.low_mut_beside-requires-clause-beside
low_mut_beside-requires-clause-beside c =
    let r = c.self.inside in let words = r.halves.low ++ r.halves.high in
    let row = is_row words r.width r.count c.args.beside c.self.invariant.size c.self.invariant.limit (subst (λ (g : Grid). c.args.beside < length g.rows) (sym c.self.view_is) c.requires.last) in
    let new = moved words c.shift.new.self.low c.shift.new.self.high (c.args.beside * r.width) (omega (arith, row.within)) c.shift.ensures.low c.shift.ensures.high in
    omega (arith, row.within, new.rest)

pub invariant_of-self-lent : goal.invariant_of-self-lent
invariant_of-self-lent c = λ ws.
    let r = c.self.inside in let words = r.halves.low ++ r.halves.high in
    let row = is_row words r.width r.count c.args.beside c.self.invariant.size c.self.invariant.limit (subst (λ (g : Grid). c.args.beside < length g.rows) (sym c.self.view_is) c.requires.last) in
    let new = moved words c.shift.new.self.low c.shift.new.self.high (c.args.beside * r.width) (omega (arith, row.within)) c.shift.ensures.low c.shift.ensures.high in
    let order = ordered c.args.place c.args.beside r.width c.requires.order in
    let within : c.args.place * r.width + r.width ≤ length c.shift.new.self.low = omega (arith, new.border, order) in
    let after = rewrites_low c.shift.new.self.low c.shift.new.self.high words ws r.width r.count c.args.place new.is c.self.invariant.size (omega (arith, row.less, c.requires.order)) within in
    record { size = after.size; limit = c.self.invariant.limit; border = low_length c.shift.new.self.low ws r.width c.args.place within ∙ new.border }

pub returns : goal.returns
returns c =
    let r = c.self.inside in let words = r.halves.low ++ r.halves.high in
    let row = is_row words r.width r.count c.args.beside c.self.invariant.size c.self.invariant.limit (subst (λ (g : Grid). c.args.beside < length g.rows) (sym c.self.view_is) c.requires.last) in
    let new = moved words c.shift.new.self.low c.shift.new.self.high (c.args.beside * r.width) (omega (arith, row.within)) c.shift.ensures.low c.shift.ensures.high in
    let less : c.args.place < r.count = omega (arith, row.less, c.requires.order) in
    let first = is_row words r.width r.count c.args.place c.self.invariant.size c.self.invariant.limit (omega (arith, less, row_count words r.width r.count)) in
    let within : c.args.place * r.width + r.width ≤ length c.shift.new.self.low = omega (arith, new.border, ordered c.args.place c.args.beside r.width c.requires.order) in
    let value = c.low_mut_beside.ensures.value ∙ seen_low c.shift.new.self.low c.shift.new.self.high words r.width r.count c.args.place new.is less within in
    let beside = c.low_mut_beside.ensures.beside ∙ seen_high c.shift.new.self.low c.shift.new.self.high words r.width r.count c.args.beside 0 new.is row (omega (arith, new.border)) in
    rw (← c.self.view_is) (
      (
        refl,
        λ ws.
            let after = rewrites_low c.shift.new.self.low c.shift.new.self.high words ws r.width r.count c.args.place new.is c.self.invariant.size less within in
            ap (λ rows. record { width = r.width; rows = rows }) after.rows,
      ),
      record { writes_back = tt; value = value; beside = beside; width = ap length value ∙ first.wide; width_beside = ap length beside ∙ row.wide },
    )
