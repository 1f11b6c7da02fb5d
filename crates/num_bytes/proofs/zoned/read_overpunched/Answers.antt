use Rattle.std.proofs.Common.{arith, rules, Some, ap, ◌∙◌, w64}
use Rattle.std.proofs.lemmas.Grind.{common_steps}
use Rattle.std.proofs.lemmas.Int.{to_z-of_z}
use mir.Val.{SFits}
use Rattle.num_bytes.proofs.ZonedLemmas.{overpunched_is}
use Rattle.num_bytes.proofs.zoned.read_overpunched.Goals as goal

pub returns : goal.returns
returns c =
    let fits : SFits w64 c.signed.result = search rules in
    ap Some (to_z-of_z w64 c.signed.result fits ∙ c.signed.ensures)
    ∙ overpunched_is c.args.bytes.now c.in_ok-number.number c.in_ok-minus.minus c.in_ok-minus.digit
    (grind (arith, common_steps, c.in_ok-number.ensures.value)) c.in_ok-minus.ensures.value
