use Rattle.std.proofs.Common.{◌≡◌, ◌*◌, ◌++◌, length, pos, ap, ◌∙◌}
use Rattle.std.proofs.lemmas.List.{length-replicate}
use Rattle.block_store.specs.Parts.{Parts}
use Rattle.block_store.proofs.RowLemmas.{has_rows}
use Rattle.block_store.proofs.region.Region.reserve.Goals as goal

pub returns : goal.returns
returns c =
    let h = c.in_ok-halves.halves in
    let size : length (h.low ++ h.high) ≡ c.args.width * c.args.count =
    ap (λ (parts : Parts). length (parts.low ++ parts.high)) c.in_ok-halves.ensures ∙ length-replicate (c.args.width * c.args.count) (pos 0) in
    has_rows (h.low ++ h.high) c.args.width c.args.count size
