-- Lines without LF.
use Rattle.std.proofs.Common.{◌≡◌, ℕ, suc, ◌+◌, ◌%◌, ◌^◌, ◌<◌, Bool, true, false, cond, eqb, List, [], ◌∷◌, ◌++◌, ℤ, pos, negsuc, refl, arith}
use Rattle.std.specs.Prelude.{unsigned_abs}
use Rattle.std.specs.List.{AllByRecursion}
use Rattle.std.specs.Fmt.{decimal, signed_decimal}
use Rattle.std.proofs.lemmas.Bool.{eq-eqb}
use Rattle.std.proofs.lemmas.Fmt.{decimal_by_steps_wide}
use Rattle.cert_text.specs.Lines.{Line, IsOneLine}

pub all-append : {A : Type 0} (P : A → Type 0) (a b : List A) → AllByRecursion P a → AllByRecursion P b → AllByRecursion P (a ++ b)
all-append P [] b h k = k
all-append P (x ∷ a) b h k = (h.0, all-append P a b h.1 k)

-- one line of two parts
pub one_line-append : (a b : List ℕ) → IsOneLine a → IsOneLine b → IsOneLine (a ++ b)
one_line-append = all-append (λ byte. byte ≡ 10 → ⊥)

-- lines behind lines
pub one_lines-append : (a b : List Line) → AllByRecursion IsOneLine a → AllByRecursion IsOneLine b → AllByRecursion IsOneLine (a ++ b)
one_lines-append = all-append IsOneLine

abbrev pub has_lf : List ℕ → Bool
has_lf [] = false
has_lf (byte ∷ bytes) = cond (eqb byte 10) true (has_lf bytes)

-- of a literal: `literal _ refl`
pub literal : (text : List ℕ) → has_lf text ≡ false → IsOneLine text
literal [] h = tt
literal (byte ∷ bytes) h =
    elim (eqb byte 10) as (λ b. eqb byte 10 ≡ b → cond b true (has_lf bytes) ≡ false → IsOneLine (byte ∷ bytes)) [
      | true ↦ λ e f. absurd (cc f)
      | false ↦ λ e f. (λ is. cc (e, eq-eqb byte 10 is), literal bytes f)
    ] refl h

digit-one_line : (d : ℕ) → IsOneLine ((48 + d) ∷ [])
digit-one_line d = (λ same. absurd (omega arith), tt)

pub decimal-one_line : (n : ℕ) → n < 10 ^ 64 → IsOneLine (decimal n)
decimal-one_line n less =
    let P : ℕ → List ℕ → Type 0 = λ m digits. IsOneLine digits in
    decimal_by_steps_wide P (λ m one. digit-one_line m) (λ m digits ten h. one_line-append digits ((48 + m % 10) ∷ []) h (digit-one_line (m % 10))) n less

pub signed_decimal-one_line : (z : ℤ) → unsigned_abs z < 10 ^ 64 → IsOneLine (signed_decimal z)
signed_decimal-one_line (pos n) less = decimal-one_line n less
signed_decimal-one_line (negsuc n) less = (λ same. absurd (omega arith), decimal-one_line (suc n) less)
