-- Where a text is cut.
use Rattle.std.proofs.Common.{◌≡◌, ℕ, zero, suc, ◌+◌, ◌<◌, true, false, cond, eqb, List, [], ◌∷◌, length, take, drop, get_or, refl, ap, ◌∙◌, arith, add-one, ◌-◌}
use Rattle.std.proofs.lemmas.Bool.{eqb-true, eq-eqb}
use Rattle.std.proofs.lemmas.List.{take_rest}
use Rattle.memchr.specs.Find.{Nowhere, NoneBefore, Passes, is_byte}
use Rattle.cert_text.specs.Lines.{cut, with_byte}

-- a byte that is no LF, before a text
pub cut-byte : (byte : ℕ) (bytes : List ℕ) → (byte ≡ 10 → ⊥) → cut (byte ∷ bytes) ≡ with_byte byte (cut bytes).whole (cut bytes).rest
cut-byte byte bytes h =
    elim (eqb byte 10) as (λ b. eqb byte 10 ≡ b → cond b (record { whole = [] ∷ (cut bytes).whole; rest = (cut bytes).rest }) (with_byte byte (cut bytes).whole (cut bytes).rest) ≡ with_byte byte (cut bytes).whole (cut bytes).rest) [
      | true ↦ λ e. absurd (h (eqb-true byte 10 e))
      | false ↦ λ e. refl
    ] refl

pub cut-first : (bytes : List ℕ) (k : ℕ) → k < length bytes → get_or bytes k 0 ≡ 10 → ((q : ℕ) → q < k → get_or bytes q 0 ≡ 10 → ⊥) →
    cut bytes ≡ record { whole = take k bytes ∷ (cut (drop (suc k) bytes)).whole; rest = (cut (drop (suc k) bytes)).rest }
cut-first [] k l e h = absurd (omega arith)
cut-first (byte ∷ bytes) zero l e h = rw e refl
cut-first (byte ∷ bytes) (suc k) l e h =
    cut-byte byte bytes (h 0 (omega arith))
    ∙ ap (λ c. with_byte byte c.whole c.rest) (cut-first bytes k (omega arith) e (λ q less. h (suc q) (omega arith)))

pub cut-none : (bytes : List ℕ) → ((q : ℕ) → q < length bytes → get_or bytes q 0 ≡ 10 → ⊥) → cut bytes ≡ record { whole = []; rest = bytes }
cut-none [] h = refl
cut-none (byte ∷ bytes) h =
    cut-byte byte bytes (h 0 (omega arith))
    ∙ ap (λ c. with_byte byte c.whole c.rest) (cut-none bytes (λ q less. h (suc q) (omega arith)))

-- what the search for a LF tells
pub splits_none : (bytes : List ℕ) → Nowhere (Passes (is_byte 10) bytes) 0 (length bytes) → cut bytes ≡ record { whole = []; rest = bytes }
splits_none bytes h = cut-none bytes (λ q less is. h q (omega arith) less (eq-eqb _ 10 is))

pub splits_first : (bytes : List ℕ) (k : ℕ) → NoneBefore (Passes (is_byte 10) bytes) 0 (length bytes) k → Passes (is_byte 10) bytes k →
    cut bytes ≡ record { whole = take k bytes ∷ (cut (take (length bytes - (k + 1)) (drop (k + 1) bytes))).whole; rest = (cut (take (length bytes - (k + 1)) (drop (k + 1) bytes))).rest }
splits_first bytes k none at =
    rw (take_rest bytes (k + 1), add-one) (cut-first bytes k none.high (eqb-true _ 10 at) (λ q less is. none.before q (omega arith) less (eq-eqb _ 10 is)))
