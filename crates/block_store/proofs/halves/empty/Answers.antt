use Rattle.std.proofs.Common.{◌+◌, refl, ◌∙◌, sym, subst, arith}
use Rattle.block_store.proofs.SlotsLemmas.{Emptying, empties_none, empties_more}
use Rattle.block_store.proofs.halves.empty.Goals as goal

pub loop-i-init : goal.loop-i-init
loop-i-init c = (refl, omega arith, empties_none c.args.cells.now.slots c.args.len c.requires.1)

pub loop-i-preserved : goal.loop-i-preserved
loop-i-preserved c =
    let kept = c.loop-i.invariant in
    (c.read.ensures.slots.0 ∙ kept.0, omega (arith, c.loop-i-test.true), subst (λ s. Emptying s c.args.len (c.loop-i.i + 1)) (sym c.read.ensures.slots.1) (empties_more c.loop-i.cells.slots c.args.len c.loop-i.i c.loop-i-test.true kept.2))
