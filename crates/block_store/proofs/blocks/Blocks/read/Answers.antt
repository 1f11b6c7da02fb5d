use Rattle.std.proofs.Common.{◌≡◌, ℕ, sym, ap, ◌∙◌, subst}
use Rattle.std.specs.Prelude.{IsSome, Some}
use Rattle.block_store.specs.Held.{Held, block_at}
use Rattle.block_store.specs.Blocks.{free_in}
use Rattle.block_store.proofs.Chains.{is_live}
use Rattle.block_store.proofs.blocks.Blocks.read.Goals as goal

pub row-requires : goal.row-requires
row-requires c =
    let b = c.self.inside in let rows = b.region.rows in let id = c.id.inside.place in
    let live = is_live rows (free_in b) id (subst (λ (x : Held × ℕ). IsSome (block_at x.0 x.1)) (λ i. (sym c.self.view_is i, sym c.id.view_is i)) c.requires) in
    live.less

pub returns-clause-value : goal.returns-clause-value
returns-clause-value c =
    let b = c.self.inside in let rows = b.region.rows in let id = c.id.inside.place in
    let live = is_live rows (free_in b) id (subst (λ (x : Held × ℕ). IsSome (block_at x.0 x.1)) (λ i. (sym c.self.view_is i, sym c.id.view_is i)) c.requires) in
    subst (λ (x : Held × ℕ). block_at x.0 x.1 ≡ Some c.row.result.now) (λ i. (c.self.view_is i, c.id.view_is i)) (live.is ∙ ap Some (sym c.row.ensures.value))
