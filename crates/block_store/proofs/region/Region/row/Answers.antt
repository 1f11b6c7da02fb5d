use Rattle.std.proofs.Common.{◌<◌, ◌-◌, ◌*◌, ◌++◌, length, sym, ap, ◌∙◌, subst, refl, arith}
use Rattle.std.proofs.lemmas.List.{length-append}
use Rattle.block_store.specs.Grid.{Grid}
use Rattle.block_store.proofs.RowLemmas.{is_row, ordered, behind, seen_low, seen_high}
use Rattle.block_store.proofs.region.Region.row.Goals as goal

pub returns-then-place-self-clause-value : goal.returns-then-place-self-clause-value
returns-then-place-self-clause-value c =
    let r = c.self.inside in let words = r.halves.low ++ r.halves.high in
    let row = is_row words r.width r.count c.args.place c.self.invariant.size c.self.invariant.limit (subst (λ (g : Grid). c.args.place < length g.rows) (sym c.self.view_is) c.requires) in
    let before = ordered c.args.place r.border r.width c.if-place-self.true in
    rw (← c.self.view_is) (c.low.ensures ∙ seen_low r.halves.low r.halves.high words r.width r.count c.args.place refl row.less (omega (arith, before, c.self.invariant.border)))

pub overflow_mul-place-2 : goal.overflow_mul-place-2
overflow_mul-place-2 c =
    let r = c.self.inside in let words = r.halves.low ++ r.halves.high in
    let row = is_row words r.width r.count c.args.place c.self.invariant.size c.self.invariant.limit (subst (λ (g : Grid). c.args.place < length g.rows) (sym c.self.view_is) c.requires) in
    record { fits = omega (arith, row.small, behind c.args.place r.border r.width c.if-place-self.false) }

pub high-requires : goal.high-requires
high-requires c =
    let r = c.self.inside in let words = r.halves.low ++ r.halves.high in
    let row = is_row words r.width r.count c.args.place c.self.invariant.size c.self.invariant.limit (subst (λ (g : Grid). c.args.place < length g.rows) (sym c.self.view_is) c.requires) in
    omega (arith, row.within, behind c.args.place r.border r.width c.if-place-self.false, c.self.invariant.border, length-append r.halves.low r.halves.high)

pub returns-clause-value : goal.returns-clause-value
returns-clause-value c =
    let r = c.self.inside in let words = r.halves.low ++ r.halves.high in
    let row = is_row words r.width r.count c.args.place c.self.invariant.size c.self.invariant.limit (subst (λ (g : Grid). c.args.place < length g.rows) (sym c.self.view_is) c.requires) in
    rw (← c.self.view_is) (c.high.ensures ∙ seen_high r.halves.low r.halves.high words r.width r.count c.args.place ((c.args.place - r.border) * r.width) refl row (omega (arith, behind c.args.place r.border r.width c.if-place-self.false, c.self.invariant.border)))

pub returns-clause-width : goal.returns-clause-width
returns-clause-width c =
    let r = c.self.inside in let words = r.halves.low ++ r.halves.high in
    let row = is_row words r.width r.count c.args.place c.self.invariant.size c.self.invariant.limit (subst (λ (g : Grid). c.args.place < length g.rows) (sym c.self.view_is) c.requires) in
    let value = c.high.ensures ∙ seen_high r.halves.low r.halves.high words r.width r.count c.args.place ((c.args.place - r.border) * r.width) refl row (omega (arith, behind c.args.place r.border r.width c.if-place-self.false, c.self.invariant.border)) in
    rw (← c.self.view_is) (ap length value ∙ row.wide)
