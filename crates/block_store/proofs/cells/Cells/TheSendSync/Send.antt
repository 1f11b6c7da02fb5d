use denote.RattleType.{RattleType}
use denote.Param.Send.{IsSend}
use Rattle.block_store.proofs.Crosses.{Cells-send}
use Rattle.block_store.specs.contracts.cells.Cells.{the_row}

pub send : (R : RattleType) → IsSend R → IsSend (the_row R)
send = Cells-send
