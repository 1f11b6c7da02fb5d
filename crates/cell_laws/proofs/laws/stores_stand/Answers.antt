use Rattle.std.proofs.Common.{refl}
use Rattle.cell_laws.proofs.StoresKeep.{stored_stands}
use Rattle.cell_laws.proofs.PartsRise.{stored_cells_below}
use Rattle.cell_laws.proofs.laws.stores_stand.Goals as goal

pub returns-clause-stand : goal.returns-clause-stand
returns-clause-stand c p cells bytes counts place n z i items is stands =
    stored_stands p items place n is.there is.takes cells bytes counts i z _ is.fits is.held refl stands

pub returns-clause-rise : goal.returns-clause-rise
returns-clause-rise c p less more place i j fits below own inside =
    let h = stored_cells_below p place less more i j (record { fits = fits; below = below }) own inside in (h.fits, h.below)
