use Rattle.std.proofs.Common.{sym, ◌∙◌, arith}
use Rattle.cob_data.proofs.ValueLemmas.{differs_further, differs_here}
use Rattle.cob_data.proofs.values.at_most_from.Goals as goal

pub loop-place-preserved : goal.loop-place-preserved
loop-place-preserved c = differs_further _ _ c.loop-place.place c.args.low.now c.args.high.now _ (omega arith) (omega arith) (sym c.character-a.ensures ∙ c.if-a-b.false ∙ c.character-b.ensures) c.loop-place.invariant

pub returns-then-a-b : goal.returns-then-a-b
returns-then-a-b c = differs_here _ c.loop-place.place _ _ c.args.low.now c.args.high.now _ (omega arith) c.character-a.ensures c.character-b.ensures c.if-a-b.true c.loop-place.invariant
