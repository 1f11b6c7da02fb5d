-- How a number is read.
use Rattle.std.proofs.Common.{◌≡◌, ℕ, ◌<◌, ◌^◌, List, Result, Ok, ap, ◌∙◌, arith}
use Rattle.std.specs.Str.Parse.{AllDigits, ParsesUnsigned, digits_value}
use Rattle.std.proofs.lemmas.Str.Parse.{IsNumeralModel, numerals_by_value, tells_digits, digits_value_short, parse_gives}
use Rattle.command_words.specs.Words.{IsNumber}

pub own : IsNumeralModel (AllDigits 10) (digits_value 10)
own = numerals_by_value (AllDigits 10) tells_digits

pub number_read : {E : Type 0} (word : List ℕ) (r : Result ℕ E) (value : ℕ) → ParsesUnsigned 64 10 word r →
    IsNumber word value → r ≡ Ok value
number_read word r value p h =
    let small : digits_value 10 word < 10 ^ 18 = digits_value_short own word 18 h.digits.1 h.short in
    parse_gives own 64 word r p h.digits.1 h.digits.0 (omega (arith, small)) ∙ ap Ok h.value_is
