use Rattle.std.proofs.Common.{rules, ◌∷◌, []}
use Rattle.std.specs.Fmt.{decimal, signed_decimal}
use Rattle.cert_text.proofs.Printed.{claim_printed}
use Rattle.cert_text.proofs.printing.push_claim.Goals as goal

pub returns : goal.returns
returns c =
    claim_printed (99 ∷ []) (decimal c.args.claim.now.cell) (signed_decimal c.args.claim.now.low) (signed_decimal c.args.claim.now.high) c.args.text.now.items c.extend_from_slice.new.self.items c.push_number.new.text.items c.push_number-2.new.text.items c.push_number-3.new.text.items c.push.new.self.items
    (search rules) (search rules) (search rules) (search rules) (search rules)
