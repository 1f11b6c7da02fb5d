use Rattle.std.proofs.Common.{◌≡◌, ◌∙◌, ap, sym, length, arith}
use Rattle.std.proofs.lemmas.List.{length-map}
use Rattle.std.specs.Prelude.{Some}
use Rattle.block_store.specs.Places.{somes}
use Rattle.block_store.proofs.Border.{Shifted, shifted}
use Rattle.block_store.proofs.halves.Halves.drop.Goals as goal

pub empty-requires : goal.empty-requires
empty-requires c =
    let h = c.self.inside in let inv = c.self.invariant in let parted = c.part_at-low.ensures in let part = c.part_at-low.result in
    let s : Shifted h.low.slots h.high.slots part.1.slots part.2.slots h.len = shifted h.low.slots h.high.slots part.1.slots part.2.slots h.len inv.low.are inv.high.are parted.2 parted.4 in
    let whole : length part.1.slots ≡ h.len = s.border (omega (arith, inv.count)) in
    (sym parted.1, (somes part.1.slots, record { are = s.low_full.are; count = sym (ap length s.low_full.are ∙ length-map (somes part.1.slots) Some) ∙ whole }))
