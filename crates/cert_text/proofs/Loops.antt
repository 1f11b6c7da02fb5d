-- What was read before, and what is still read.
use Rattle.std.proofs.Common.{◌≡◌, ℕ, suc, ◌+◌, ◌-◌, ◌<◌, List, [], ◌∷◌, ◌++◌, length, Option, Some, None, ℤ, refl, sym, ap, ◌∙◌, append_assoc, arith}
use Rattle.std.proofs.lemmas.List.{append-nil}
use Rattle.cert_text.specs.Reading.{◌▷◌, after_space, PushesNumber, numbers_at}

abbrev pub with_front : {A : Type 0} → List A → Option (List A) → Option (List A)
with_front front read = read ▷ (λ xs. Some (front ++ xs))

pub with_front_more : {A : Type 0} (front : List A) (x : A) (read : Option (List A)) → with_front (front ++ x ∷ []) read ≡ with_front front (read ▷ (λ xs. Some (x ∷ xs)))
with_front_more front x None = refl
with_front_more front x (Some xs) = ap Some (append_assoc front (x ∷ []) xs)

pub with_front_none : {A : Type 0} (read : Option (List A)) → with_front [] read ≡ read
with_front_none None = refl
with_front_none (Some xs) = refl

-- one more number
pub numbers_more : (front : List ℤ) (k : ℕ) (bytes : List ℕ) (z : ℤ) (rest : List ℕ) → after_space bytes ≡ Some (z, rest) → with_front (front ++ z ∷ []) (numbers_at k rest) ≡ with_front front (numbers_at (suc k) bytes)
numbers_more front k [] z rest e = absurd cc
numbers_more front k (b ∷ bs) z rest e =
    with_front_more front z (numbers_at k rest) ∙ ap (λ r. with_front front (r ▷ (λ x. numbers_at k x.1 ▷ (λ zs. Some (x.0 ∷ zs))))) (sym e)

pub numbers_stop : (front : List ℤ) (k : ℕ) (bytes : List ℕ) → 0 < length bytes → after_space bytes ≡ None → with_front front (numbers_at (suc k) bytes) ≡ None
numbers_stop front k [] h e = absurd (omega arith)
numbers_stop front k (b ∷ bs) h e = ap (λ r. with_front front (r ▷ (λ x. numbers_at k x.1 ▷ (λ zs. Some (x.0 ∷ zs))))) e

pub numbers_end : (front : List ℤ) (k : ℕ) (bytes : List ℕ) → length bytes ≡ 0 → with_front front (numbers_at k bytes) ≡ Some front
numbers_end front k [] h = ap Some (append-nil front)
numbers_end front k (b ∷ bs) h = absurd (omega arith)

pub numbers_over : (front : List ℤ) (bytes : List ℕ) → 0 < length bytes → with_front front (numbers_at 0 bytes) ≡ None
numbers_over front [] h = absurd (omega arith)
numbers_over front (b ∷ bs) h = refl

pub numbers_go_on : (old new : List ℤ) (i : ℕ) (bytes rest : List ℕ) (r : Option (List ℕ)) (total : Option (List ℤ)) → i < 8 → PushesNumber bytes old new r → r ≡ Some rest
    → with_front old (numbers_at (8 - i) bytes) ≡ total → with_front new (numbers_at (8 - (i + 1)) rest) ≡ total
numbers_go_on old new i bytes rest None total lt h e so_far = absurd cc
numbers_go_on old new i bytes rest (Some r) total lt h e so_far =
    let k : 8 - i ≡ suc (8 - (i + 1)) = omega arith in
    let same : r ≡ rest = cc in
    let one : with_front (old ++ h.0 ∷ []) (numbers_at (8 - (i + 1)) rest) ≡ with_front old (numbers_at (suc (8 - (i + 1))) bytes) = numbers_more old (8 - (i + 1)) bytes h.0 rest (h.2 ∙ ap (λ (x : List ℕ). Some (h.0, x)) same) in
    rw h.1 (one ∙ ap (λ (n : ℕ). with_front old (numbers_at n bytes)) (sym k) ∙ so_far)
