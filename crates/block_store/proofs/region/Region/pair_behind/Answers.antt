use Rattle.std.proofs.Common.{◌≤◌, ◌<◌, ◌+◌, ◌*◌, ◌++◌, length, sym, ap, ◌∙◌, subst, refl, arith}
use Rattle.block_store.specs.Grid.{Grid}
use Rattle.block_store.proofs.RowLemmas.{is_row, row_count, ordered, seen_low, seen_high, moved, rewrites_high}
use Rattle.block_store.proofs.region.Region.pair_behind.Goals as goal

pub overflow_mul-place : goal.overflow_mul-place
overflow_mul-place c =
    let r = c.self.inside in let words = r.halves.low ++ r.halves.high in
    let row = is_row words r.width r.count c.args.place c.self.invariant.size c.self.invariant.limit (subst (λ (g : Grid). c.args.place < length g.rows) (sym c.self.view_is) c.requires.last) in
    record { fits = omega (arith, row.small) }

pub shift-requires : goal.shift-requires
shift-requires c =
    let r = c.self.inside in let words = r.halves.low ++ r.halves.high in
    let row = is_row words r.width r.count c.args.place c.self.invariant.size c.self.invariant.limit (subst (λ (g : Grid). c.args.place < length g.rows) (sym c.self.view_is) c.requires.last) in
    omega (arith, row.within)

pub overflow_mul-beside : goal.overflow_mul-beside
overflow_mul-beside c =
    let r = c.self.inside in let words = r.halves.low ++ r.halves.high in
    let row = is_row words r.width r.count c.args.place c.self.invariant.size c.self.invariant.limit (subst (λ (g : Grid). c.args.place < length g.rows) (sym c.self.view_is) c.requires.last) in
    record { fits = omega (arith, row.small, ordered c.args.beside c.args.place r.width c.requires.order) }

pub high_mut_beside-requires-clause-at : goal.high_mut_beside-requires-clause-at
high_mut_beside-requires-clause-at c =
    let r = c.self.inside in let words = r.halves.low ++ r.halves.high in
    let row = is_row words r.width r.count c.args.place c.self.invariant.size c.self.invariant.limit (subst (λ (g : Grid). c.args.place < length g.rows) (sym c.self.view_is) c.requires.last) in
    let new = moved words c.shift.new.self.low c.shift.new.self.high (c.args.place * r.width) (omega (arith, row.within)) c.shift.ensures.low c.shift.ensures.high in
    omega (arith, row.within, new.rest)

pub high_mut_beside-requires-clause-beside : goal.high_mut_beside-requires-clause-beside
high_mut_beside-requires-clause-beside c =
    let r = c.self.inside in let words = r.halves.low ++ r.halves.high in
    let row = is_row words r.width r.count c.args.place c.self.invariant.size c.self.invariant.limit (subst (λ (g : Grid). c.args.place < length g.rows) (sym c.self.view_is) c.requires.last) in
    let new = moved words c.shift.new.self.low c.shift.new.self.high (c.args.place * r.width) (omega (arith, row.within)) c.shift.ensures.low c.shift.ensures.high in
    omega (arith, new.border, ordered c.args.beside c.args.place r.width c.requires.order)

pub invariant_of-self-lent : goal.invariant_of-self-lent
invariant_of-self-lent c = λ ws.
    let r = c.self.inside in let words = r.halves.low ++ r.halves.high in
    let row = is_row words r.width r.count c.args.place c.self.invariant.size c.self.invariant.limit (subst (λ (g : Grid). c.args.place < length g.rows) (sym c.self.view_is) c.requires.last) in
    let new = moved words c.shift.new.self.low c.shift.new.self.high (c.args.place * r.width) (omega (arith, row.within)) c.shift.ensures.low c.shift.ensures.high in
    let after = rewrites_high c.shift.new.self.low c.shift.new.self.high words ws r.width r.count c.args.place new.is c.self.invariant.size row.less new.border in
    record { size = after.size; limit = c.self.invariant.limit; border = new.border }

pub returns : goal.returns
returns c =
    let r = c.self.inside in let words = r.halves.low ++ r.halves.high in
    let row = is_row words r.width r.count c.args.place c.self.invariant.size c.self.invariant.limit (subst (λ (g : Grid). c.args.place < length g.rows) (sym c.self.view_is) c.requires.last) in
    let new = moved words c.shift.new.self.low c.shift.new.self.high (c.args.place * r.width) (omega (arith, row.within)) c.shift.ensures.low c.shift.ensures.high in
    let less : c.args.beside < r.count = omega (arith, row.less, c.requires.order) in
    let other = is_row words r.width r.count c.args.beside c.self.invariant.size c.self.invariant.limit (omega (arith, less, row_count words r.width r.count)) in
    let within : c.args.beside * r.width + r.width ≤ length c.shift.new.self.low = omega (arith, new.border, ordered c.args.beside c.args.place r.width c.requires.order) in
    let value = c.high_mut_beside.ensures.value ∙ seen_high c.shift.new.self.low c.shift.new.self.high words r.width r.count c.args.place 0 new.is row (omega (arith, new.border)) in
    let beside = c.high_mut_beside.ensures.beside ∙ seen_low c.shift.new.self.low c.shift.new.self.high words r.width r.count c.args.beside new.is less within in
    rw (← c.self.view_is) (
      (
        refl,
        λ ws.
            let after = rewrites_high c.shift.new.self.low c.shift.new.self.high words ws r.width r.count c.args.place new.is c.self.invariant.size row.less new.border in
            ap (λ rows. record { width = r.width; rows = rows }) after.rows,
      ),
      record { writes_back = tt; value = value; beside = beside; width = ap length value ∙ row.wide; width_beside = ap length beside ∙ other.wide },
    )
