use denote.RattleType.{RattleType}
use denote.Param.Send.{IsSync}
use Rattle.block_store.proofs.Crosses.{Cells-sync}
use Rattle.block_store.specs.contracts.cells.Cells.{the_row}

pub sync : (R : RattleType) → IsSync R → IsSync (the_row R)
sync = Cells-sync
