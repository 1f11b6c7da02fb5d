use Rattle.cob_data.proofs.Blocks.{columns_lie_apart, columns_lie_in_blocks, blocks_lie_apart}
use Rattle.cob_data.proofs.laws.columns_lie_apart.Goals as goal

pub returns-clause-apart : goal.returns-clause-apart
returns-clause-apart c = columns_lie_apart

pub returns-clause-within : goal.returns-clause-within
returns-clause-within c = columns_lie_in_blocks

pub returns-clause-blocks : goal.returns-clause-blocks
returns-clause-blocks c = blocks_lie_apart
