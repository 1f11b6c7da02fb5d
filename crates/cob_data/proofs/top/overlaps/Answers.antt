use Rattle.std.proofs.Common.{ap, ◌∙◌}
use Rattle.cob_data.specs.Extents.{share_extents}
use Rattle.cob_data.specs.Occurrences.{extent_of}
use Rattle.cob_data.proofs.Overlapping.{meets_is}
use Rattle.cob_data.proofs.top.overlaps.Goals as goal

pub returns : goal.returns
returns c =
    let a = c.args.a.now in
    let b = c.args.b.now in
    let shared = c.share_extents-shared.ensures
    ∙ (ap (λ e. share_extents e c.extent-2.result) c.extent.ensures ∙ ap (share_extents (extent_of a)) c.extent-2.ensures) in
    meets_is a b c.share_extents-shared.result c.have_some.result shared c.have_some.ensures
