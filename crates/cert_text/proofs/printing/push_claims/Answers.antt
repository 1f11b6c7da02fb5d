use Rattle.cert_text.specs.Text.{claim_entry}
use Rattle.cert_text.proofs.Printed.{text_step}
use Rattle.cert_text.proofs.printing.push_claims.Goals as goal

pub loop-claim-preserved : goal.loop-claim-preserved
loop-claim-preserved c = text_step claim_entry c.args.text.now.items c.args.claims.now c.loop-claim.claim-index _ c.loop-claim.text.items c.push_claim.new.text.items c.loop-claim-test.true c.loop-claim.invariant c.in_ok-push_claim.ensures
