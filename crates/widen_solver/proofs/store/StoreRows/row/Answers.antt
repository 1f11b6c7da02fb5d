use Rattle.std.proofs.Common.{◌≤◌, ◌∙◌, length, subst, sym, arith, refl}
use Rattle.widen_solver.specs.Stored.{Stored}
use Rattle.widen_solver.proofs.ShownRows.{shown_count, shown_at}
use Rattle.widen_solver.proofs.store.StoreRows.row.Goals as goal

pub row-requires : goal.row-requires
row-requires c =
    let last = subst (λ (s : Stored). c.args.node ≤ length s.rows) (sym c.self.view_is) c.requires.last in
    omega (arith, c.requires.first, last, shown_count c.self.inside.rows)

pub returns : goal.returns
returns c =
    let last = subst (λ (s : Stored). c.args.node ≤ length s.rows) (sym c.self.view_is) c.requires.last in
    rw (← c.self.view_is) (c.row.ensures ∙ shown_at c.self.inside.rows c.args.node c.args.node refl c.requires.first (omega (arith, last, shown_count c.self.inside.rows)))
