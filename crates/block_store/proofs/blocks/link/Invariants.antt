use Rattle.block_store.specs.Grid.{HasRows}
use Rattle.block_store.specs.Chain.{IsLinked}
use Rattle.block_store.proofs.blocks.link.Given as goal

abbrev pub invariant-loop-place : goal.invariant-loop-place
invariant-loop-place l = HasRows l.words l.count l.region × IsLinked l.region.rows l.place
