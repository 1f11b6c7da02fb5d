-- Numbers with a sign beside their digits.
use Rattle.std.proofs.Common.{◌≡◌, ℕ, ◌+◌, ◌-◌, ◌*◌, ◌≤◌, Bool, List, [], ◌∷◌, ◌++◌, length, set, ap, ◌∙◌, arith, Option, Some, None}
use Rattle.std.specs.Option.{option_map}
use Rattle.std.proofs.lemmas.List.{drop_all, append-nil}
use borrow.Rule.Slice.PartMut.{put_mid}
use Rattle.std.proofs.lemmas.Int.Digits.{number_push}
use Rattle.num_bytes.specs.Digits.{number_of, digits_in, signed_number}
use Rattle.num_bytes.specs.Reading.{both, front, last, signed_digit, overpunched_value}

joined : (o : Option (List ℕ)) (p : Option (Bool × ℕ)) (n : ℕ) (minus : Bool) (d : ℕ) → Some n ≡ option_map number_of o → Some (minus, d) ≡ p →
    Some (signed_number minus (n * 10 + d)) ≡ both (λ (ds : List ℕ) (e : Bool × ℕ). signed_number e.0 (number_of (ds ++ e.1 ∷ []))) o p
joined None p n minus d some pair = cc
joined (Some ds) None n minus d some pair = cc
joined (Some ds) (Some x) n minus d some pair =
    let size : n ≡ number_of ds = cc in
    let same : (minus, d) ≡ x = cc in
    let value : n * 10 + d ≡ number_of (ds ++ d ∷ []) = omega (arith, number_push 10 ds d) in
    ap (λ (k : ℕ). Some (signed_number minus k)) value ∙ ap (λ (q : Bool × ℕ). Some (signed_number q.0 (number_of (ds ++ q.1 ∷ [])))) same

pub overpunched_is : (bs : List ℕ) (n : ℕ) (minus : Bool) (d : ℕ) → Some n ≡ option_map number_of (digits_in (front bs)) →
    Some (minus, d) ≡ signed_digit (last bs) → Some (signed_number minus (n * 10 + d)) ≡ overpunched_value bs
overpunched_is bs n minus d some pair = joined (digits_in (front bs)) (signed_digit (last bs)) n minus d some pair

-- the digits behind a sign that was written first
pub leading_written : (bs ys : List ℕ) (sign : ℕ) → 1 ≤ length bs → length ys ≡ length bs - 1 →
    put_mid 1 (length (set bs 0 sign) - 1) (set bs 0 sign) ys ≡ sign ∷ ys
leading_written [] ys sign some count = absurd (omega arith)
leading_written (b ∷ bs) ys sign some count =
    ap (λ zs. sign ∷ (ys ++ zs)) (drop_all (length (sign ∷ bs) - 1) bs (omega arith)) ∙ ap (λ zs. sign ∷ zs) (append-nil ys)
