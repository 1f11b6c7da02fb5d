use Rattle.std.proofs.Common.{sym, subst, ◌≤◌, ◌+◌, length}
use Rattle.block_store.specs.Places.{somes}
use Rattle.block_store.specs.Parts.{Parts}
use Rattle.block_store.proofs.SlotsLemmas.{is_run, run_seen}
use Rattle.block_store.proofs.halves.Halves.high.Goals as goal

pub slice-requires : goal.slice-requires
slice-requires c =
    let slots = c.self.inside.high.slots in
    let within = subst (λ (v : Parts). c.args.at + c.args.count ≤ length v.high) (sym c.self.view_is) c.requires in
    (sym c.self.invariant.middle, is_run slots (length (somes slots)) (somes slots) c.args.at c.args.count c.self.invariant.high within)

pub returns : goal.returns
returns c =
    let slots = c.self.inside.high.slots in
    rw (← c.self.view_is) (run_seen slots (length (somes slots)) (somes slots) c.slice.result.now c.args.at c.args.count c.self.invariant.high c.slice.ensures)
