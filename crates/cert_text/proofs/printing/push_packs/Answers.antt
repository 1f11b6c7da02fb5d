use Rattle.cert_text.specs.Text.{pack_entry}
use Rattle.cert_text.proofs.Printed.{packs_step}
use Rattle.cert_text.proofs.printing.push_packs.Goals as goal

pub loop-pack-preserved : goal.loop-pack-preserved
loop-pack-preserved c =
    packs_step pack_entry (λ p. p.cells.items) c.args.text.now.items c.args.packs.now c.loop-pack.pack-index c.pack-item.result c.loop-pack.text.items c.push_pack.new.text.items c.loop-pack-test.true c.pack-item.is c.loop-pack.invariant c.in_ok-push_pack.ensures
