use Rattle.std.proofs.Common.{◌≡◌, length, ap, ◌∙◌, arith}
use Rattle.cob_data.specs.Entries.{all_entries, items_of}
use Rattle.cob_data.proofs.ReadLemmas.{descriptions_length}
use Rattle.cob_data.proofs.read.facts_of.Goals as goal

pub all_spots-requires : goal.all_spots-requires
all_spots-requires c =
    let same : length c.deref.result.now ≡ length (items_of c.args.tree.now.front) = ap length (c.deref.ensures.value ∙ c.in_ok-table.ensures.items) in
    omega (arith, same, descriptions_length (all_entries c.args.tree.now.front), c.requires.entries)
