use Rattle.std.proofs.Common.{◌≡◌, ◌++◌, map, take}
use Rattle.cert_text.specs.Text.{entries_text, claim_entry}
use Rattle.cert_text.proofs.printing.push_claims.Given as goal

abbrev pub invariant-loop-claim : goal.invariant-loop-claim
invariant-loop-claim l = l.text.items ≡ l.fn.text.items ++ entries_text (map claim_entry (take l.claim-index l.claims))
