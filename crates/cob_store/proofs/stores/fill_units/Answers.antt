use Rattle.std.proofs.Common.{rules}
use Rattle.cob_runs.specs.Contents.{bytes_of}
use Rattle.cob_store.proofs.Parts.{part-filled}
use Rattle.cob_store.proofs.stores.fill_units.Goals as goal

pub returns-in-Some : goal.returns-in-Some
returns-in-Some c =
    part-filled c.args.layout.now c.args.storage.now c.args.place c.in-Some.item.now (λ f. bytes_of f c.args.units) c.write_units.new.bytes
    (search rules) (search rules) (search rules)
