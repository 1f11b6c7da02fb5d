use Rattle.std.proofs.Common.{◌+◌, ◌*◌, arith, rules, Some, ap, ◌∙◌, w64}
use Rattle.std.proofs.lemmas.Grind.{common_steps}
use Rattle.std.proofs.lemmas.Int.{to_z-of_z}
use mir.Val.{SFits}
use Rattle.dec_num.proofs.Powers.{ten_monotone}
use Rattle.num_bytes.proofs.PackedLemmas.{HasNoSpare, no_spare_odd, no_spare_even, spare_bad, HasPackedNumber, packed_number, packed_is}
use Rattle.num_bytes.proofs.packed.read_packed.Goals as goal
use Rattle.num_bytes.proofs.packed.read_packed.Goals.{else-digits-eq0-via-then-digits-eq0+else-bytes-ne0, else-digits-eq0-via-else-digits-eq0}

pub returns-then-bytes-ne0 : goal.returns-then-bytes-ne0
returns-then-bytes-ne0 c =
    spare_bad c.args.digits c.args.is_signed c.args.bytes.now c.requires.digits.0 c.requires.length c.if-digits-eq0.true c.if-bytes-ne0.true

pub signed-requires : goal.signed-requires
signed-requires c =
    let no_spare : HasNoSpare c.args.digits c.args.bytes.now = elim c.else-digits-eq0.branch [
      | else-digits-eq0-via-then-digits-eq0+else-bytes-ne0 w ↦
          no_spare_even c.args.digits c.args.bytes.now c.requires.digits.0 c.requires.length w.if-digits-eq0.true w.if-bytes-ne0.false
      | else-digits-eq0-via-else-digits-eq0 w ↦ no_spare_odd c.args.digits c.args.bytes.now c.requires.length (omega arith)
    ] in
    let has : HasPackedNumber c.args.digits c.args.bytes.now (c.in_ok-number.number * 10 + c.from.result) =
    packed_number c.args.digits c.args.bytes.now c.in_ok-number.number c.from.result c.requires.length no_spare
    (grind (arith, common_steps, c.in_ok-number.ensures.value)) c.from.ensures (omega arith) in
    omega (arith, has.below, ten_monotone c.args.digits 18 c.requires.digits.1)

pub returns : goal.returns
returns c =
    let no_spare : HasNoSpare c.args.digits c.args.bytes.now = elim c.else-digits-eq0.branch [
      | else-digits-eq0-via-then-digits-eq0+else-bytes-ne0 w ↦
          no_spare_even c.args.digits c.args.bytes.now c.requires.digits.0 c.requires.length w.if-digits-eq0.true w.if-bytes-ne0.false
      | else-digits-eq0-via-else-digits-eq0 w ↦ no_spare_odd c.args.digits c.args.bytes.now c.requires.length (omega arith)
    ] in
    let has : HasPackedNumber c.args.digits c.args.bytes.now (c.in_ok-number.number * 10 + c.from.result) =
    packed_number c.args.digits c.args.bytes.now c.in_ok-number.number c.from.result c.requires.length no_spare
    (grind (arith, common_steps, c.in_ok-number.ensures.value)) c.from.ensures (omega arith) in
    let fits : SFits w64 c.signed.result = search rules in
    ap Some (to_z-of_z w64 c.signed.result fits ∙ c.signed.ensures)
    ∙ packed_is c.args.digits c.args.is_signed c.args.bytes.now _ c.in_ok-minus.minus no_spare has c.in_ok-minus.ensures
