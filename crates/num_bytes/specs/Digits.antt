-- Decimal digits, and numbers of a size with a sign.
use Rattle.std.specs.Prelude.{ℕ, ◌+◌, ◌-◌, ◌/◌, ◌%◌, ◌^◌, zero, suc, Bool, if◌then◌else◌, List, [], ◌∷◌, map, Option, Some, None, ℤ, pos, neg_ℤ}
use Rattle.std.specs.List.{list_all}
use Rattle.std.specs.Char.{is_ascii_digit}
use Rattle.std.specs.Int.Digits.{number_from_digits}

-- the digit of v at the place of weight 10 ^ k
abbrev pub digit_at : ℕ → ℕ → ℕ
digit_at k v = v / 10 ^ k % 10

-- the lowest n digits of v, the highest of them first
abbrev pub last_digits : ℕ → ℕ → List ℕ
last_digits zero v = []
last_digits (suc n) v = digit_at n v ∷ last_digits n v

-- digits as characters
abbrev pub digit_text : List ℕ → List ℕ
digit_text ds = map (λ d. 48 + d) ds

-- the digits that characters are, if each is one
abbrev pub digits_in : List ℕ → Option (List ℕ)
digits_in bs = if list_all is_ascii_digit bs then Some (map (λ b. b - 48) bs) else None

-- the number that decimal digits write
abbrev pub number_of : List ℕ → ℕ
number_of ds = number_from_digits 10 ds

-- the number of this size
abbrev pub signed_number : Bool → ℕ → ℤ
signed_number minus size = if minus then neg_ℤ (pos size) else pos size
