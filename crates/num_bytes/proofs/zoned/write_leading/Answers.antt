use Rattle.std.proofs.Common.{arith, ◌≡◌, ◌∷◌, ◌-◌, ap, ◌∙◌, length, take, drop, set}
use Rattle.std.proofs.lemmas.List.{length-set}
use Rattle.num_bytes.specs.Writing.{sign_byte}
use Rattle.num_bytes.proofs.DigitLemmas.{digits_counted}
use Rattle.num_bytes.proofs.ZonedLemmas.{leading_written}
use Rattle.num_bytes.proofs.zoned.write_leading.Goals as goal

pub returns : goal.returns
returns c =
    let signed = set c.args.bytes.now 0 c.sign_of_number.result in
    let count : length c.write_digits.new.text ≡ length c.args.bytes.now - 1 = omega (arith, length-set c.args.bytes.now 0 c.sign_of_number.result) in
    let digits = digits_counted c.write_digits.new.text (length (take (length signed - 1) (drop 1 signed))) _ c.args.size c.write_digits.ensures count in
    leading_written c.args.bytes.now c.write_digits.new.text c.sign_of_number.result c.requires count
    ∙ (ap (λ s. s ∷ c.write_digits.new.text) c.sign_of_number.ensures ∙ ap (λ ys. sign_byte c.args.minus ∷ ys) digits)
