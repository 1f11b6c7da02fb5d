use Rattle.std.proofs.Common.{◌<◌, ◌*◌, ◌++◌, length, sym, ap, ◌∙◌, subst, refl, arith}
use Rattle.block_store.specs.Grid.{Grid}
use Rattle.block_store.proofs.RowLemmas.{is_row, seen_high, moved, rewrites_high}
use Rattle.block_store.proofs.region.Region.row_mut.Goals as goal

pub overflow_mul-place : goal.overflow_mul-place
overflow_mul-place c =
    let r = c.self.inside in let words = r.halves.low ++ r.halves.high in
    let row = is_row words r.width r.count c.args.place c.self.invariant.size c.self.invariant.limit (subst (λ (g : Grid). c.args.place < length g.rows) (sym c.self.view_is) c.requires) in
    record { fits = omega (arith, row.small) }

pub shift-requires : goal.shift-requires
shift-requires c =
    let r = c.self.inside in let words = r.halves.low ++ r.halves.high in
    let row = is_row words r.width r.count c.args.place c.self.invariant.size c.self.invariant.limit (subst (λ (g : Grid). c.args.place < length g.rows) (sym c.self.view_is) c.requires) in
    omega (arith, row.within)

pub high_mut-requires : goal.high_mut-requires
high_mut-requires c =
    let r = c.self.inside in let words = r.halves.low ++ r.halves.high in
    let row = is_row words r.width r.count c.args.place c.self.invariant.size c.self.invariant.limit (subst (λ (g : Grid). c.args.place < length g.rows) (sym c.self.view_is) c.requires) in
    let new = moved words c.shift.new.self.low c.shift.new.self.high (c.args.place * r.width) (omega (arith, row.within)) c.shift.ensures.low c.shift.ensures.high in
    omega (arith, row.within, new.rest)

pub invariant_of-self-lent : goal.invariant_of-self-lent
invariant_of-self-lent c = λ ws.
    let r = c.self.inside in let words = r.halves.low ++ r.halves.high in
    let row = is_row words r.width r.count c.args.place c.self.invariant.size c.self.invariant.limit (subst (λ (g : Grid). c.args.place < length g.rows) (sym c.self.view_is) c.requires) in
    let new = moved words c.shift.new.self.low c.shift.new.self.high (c.args.place * r.width) (omega (arith, row.within)) c.shift.ensures.low c.shift.ensures.high in
    let after = rewrites_high c.shift.new.self.low c.shift.new.self.high words ws r.width r.count c.args.place new.is c.self.invariant.size row.less new.border in
    record { size = after.size; limit = c.self.invariant.limit; border = new.border }

pub returns : goal.returns
returns c =
    let r = c.self.inside in let words = r.halves.low ++ r.halves.high in
    let row = is_row words r.width r.count c.args.place c.self.invariant.size c.self.invariant.limit (subst (λ (g : Grid). c.args.place < length g.rows) (sym c.self.view_is) c.requires) in
    let new = moved words c.shift.new.self.low c.shift.new.self.high (c.args.place * r.width) (omega (arith, row.within)) c.shift.ensures.low c.shift.ensures.high in
    let value = c.high_mut.ensures.value ∙ seen_high c.shift.new.self.low c.shift.new.self.high words r.width r.count c.args.place 0 new.is row (omega (arith, new.border)) in
    rw (← c.self.view_is) (
      (
        refl,
        λ ws.
            let after = rewrites_high c.shift.new.self.low c.shift.new.self.high words ws r.width r.count c.args.place new.is c.self.invariant.size row.less new.border in
            ap (λ rows. record { width = r.width; rows = rows }) after.rows,
      ),
      record { writes_back = tt; value = value; width = ap length value ∙ row.wide },
    )
