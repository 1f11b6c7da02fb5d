use Rattle.pack_laws.proofs.PacksFit.{posts_fit}
use Rattle.pack_laws.proofs.PacksEdgesRise.{posts_rise, clears_stay}
use Rattle.pack_laws.proofs.pack_edges.posts_rise.Goals as goal

pub returns-clause-fits : goal.returns-clause-fits
returns-clause-fits c p packs statement a x cells ms fit are = posts_fit p packs statement a x cells ms are

pub returns-clause-rises : goal.returns-clause-rises
returns-clause-rises c p packs statement a x less more low high fits below are is lower =
    posts_rise p packs statement a x less more fits below low high are is lower

pub returns-clause-stays : goal.returns-clause-stays
returns-clause-stays c p packs statement a x less more low high fault fits below are is lower e =
    clears_stay p packs statement a x less more fits below low high are is lower fault e
