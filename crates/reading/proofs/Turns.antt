-- A list read one after the other, as a loop does; and readers that give the same.
use Rattle.std.proofs.Common.{◌≡◌, ℕ, zero, suc, ◌≤◌, Bool, true, false, List, [], ◌∷◌, ◌++◌, length, Result, Ok, Err, refl, sym, ap, subst, ◌∙◌, append_assoc, arith}
use Rattle.std.proofs.lemmas.List.{append-nil}
use Rattle.reading.specs.Readers.{Fault, Reader, ◌>>=◌, many_at, many_from}
use Rattle.reading.specs.Printing.{Alphabet}
use Rattle.reading.specs.Law.{Syntax, Law}

-- what was read before, and the list that is still read
abbrev pub with_front : {T A : Type 0} → List A → Result (List A × List T) Fault → Result (List A × List T) Fault
with_front front read = read >>= λ xs. Ok (front ++ xs.0, xs.1)

-- What a loop keeps: so many turns that they are enough give what the list reader gives.
pub record Turns {T A State : Type 0} (begins : State → List T → Bool) (r : State → Reader T A) (step : State → A → State) (state : State) (front : List A) (left : List T) (all : Result (List A × List T) Fault) : Type 0 where
  pub turns : ℕ
  pub enough : length left ≤ turns
  pub same : with_front front (many_at begins r step turns state left) ≡ all

module _ {T A State : Type 0} (begins : State → List T → Bool) (r : State → Reader T A) (step : State → A → State) where
  pub turns_start : (state : State) (ts : List T) → Turns begins r step state [] ts (many_from begins r step state ts)
  turns_start state ts = record { turns = length ts; enough = omega arith; same = unchanged (many_from begins r step state ts) }
    where
      unchanged : (read : Result (List A × List T) Fault) → with_front [] read ≡ read
      unchanged (Ok xs) = refl
      unchanged (Err d) = refl

  regroup : (front : List A) (x : A) (read : Result (List A × List T) Fault) → with_front front (read >>= λ xs. Ok (x ∷ xs.0, xs.1)) ≡ with_front (front ++ x ∷ []) read
  regroup front x (Ok xs) = ap (λ (ys : List A). Ok (ys, xs.1)) (sym (append_assoc front (x ∷ []) xs.0))
  regroup front x (Err d) = refl

  module _ (state : State) (front : List A) (left : List T) (all : Result (List A × List T) Fault) (kept : Turns begins r step state front left all) where
    pub turns_on : (x : A) (after : List T) → begins state left ≡ true → r state left ≡ Ok (x, after) → suc (length after) ≤ length left → Turns begins r step (step state x) (front ++ x ∷ []) after all
    turns_on x after here read less = go kept.turns kept.enough kept.same
      where
        go : (n : ℕ) → length left ≤ n → with_front front (many_at begins r step n state left) ≡ all → Turns begins r step (step state x) (front ++ x ∷ []) after all
        go zero le same = absurd (omega arith)
        go (suc n) le same = record { turns = n; enough = omega arith; same = sym (regroup front x (many_at begins r step n (step state x) after)) ∙ (sym (rw (here, read) refl) ∙ same) }

    pub turns_end : begins state left ≡ false → all ≡ Ok (front, left)
    turns_end none = go kept.turns kept.same
      where
        go : (n : ℕ) → with_front front (many_at begins r step n state left) ≡ all → all ≡ Ok (front, left)
        go zero same = sym same ∙ ap (λ (ys : List A). Ok (ys, left)) (append-nil front)
        go (suc n) same = sym same ∙ rw none (ap (λ (ys : List A). Ok (ys, left)) (append-nil front))

    pub turns_fail : (d : Fault) → begins state left ≡ true → r state left ≡ Err d → suc zero ≤ length left → all ≡ Err d
    turns_fail d here stop some = go kept.turns kept.enough kept.same
      where
        go : (n : ℕ) → length left ≤ n → with_front front (many_at begins r step n state left) ≡ all → all ≡ Err d
        go zero le same = absurd (omega arith)
        go (suc n) le same = sym same ∙ rw (here, stop) refl

-- a reader that gives the same has the same law
pub law_along : {T I M A : Type 0} {G : Alphabet T I M} {r r' : Reader T A} {s : Syntax I M A} {top : ℕ} → ((ts : List T) → r' ts ≡ r ts) → Law G r s top → Law G r' s top
law_along {T} {I} {M} {A} {G} {r} {r'} {s} {top} same L = subst (λ (x : Reader T A). Law G x s top) (λ i ts. sym (same ts) i) L
