-- Reading a list of one or more, as a loop does.
use Rattle.std.proofs.Common.{◌≡◌, ℕ, zero, suc, ◌≤◌, ◌<◌, Bool, true, false, List, [], ◌∷◌, ◌++◌, length, Result, Ok, Err, refl, sym, ap, ◌∙◌, append_assoc, arith}
use Rattle.std.proofs.lemmas.List.{append-nil}
use Rattle.cob_tree.specs.Symbols.{Sign}
use Rattle.cob_tree.specs.Cues.{Cue}
use Rattle.reading.specs.Readers.{Fault, Stop, Deep, Reader, ◌>>=◌, many_at, no_step}
use Rattle.reading.specs.Printing.{begins}
use Rattle.cob_parse_expr.specs.Alphabet.{grammar}
use Rattle.cob_parse_expr.specs.declared.halt.Halt.{Halt}
use Rattle.cob_parse_expr.specs.declared.halt.Halt.TheVariants as halt
use Rattle.cob_parse_expr.specs.Steps.{Fails}
use Rattle.cob_parse_expr.proofs.Loop.{with_front}
use Rattle.cob_parse_verb.specs.Lists.{some_at}

abbrev more_at : {A : Type 0} → (Cue → Bool) → Reader Sign A → ℕ → Reader Sign (List A)
more_at set r n = many_at (λ state. begins grammar set) (λ state. r) no_step n tt

-- what the loop keeps: some number of turns that is enough gives what the whole gives
pub record Listing {A : Type 0} (set : Cue → Bool) (r : Reader Sign A) (front : List A) (left all : List Sign) : Type 0 where
  pub turns : ℕ
  pub enough : length left ≤ turns
  pub same : with_front front (more_at set r turns left) ≡ some_at set r all

module _ {A : Type 0} (set : Cue → Bool) (r : Reader Sign A) where
  one_more : (x : A) (read : Result (List A × List Sign) Fault) → with_front (x ∷ []) read ≡ (read >>= λ xs. Ok (x ∷ xs.0, xs.1))
  one_more x (Ok xs) = refl
  one_more x (Err f) = refl

  pub list_first : (all left : List Sign) (x : A) → r all ≡ Ok (x, left) → Listing set r (x ∷ []) left all
  list_first all left x read = record { turns = length left; enough = omega arith; same = go (more_at set r (length left) left) refl }
    where
      go : (more : Result (List A × List Sign) Fault) → more_at set r (length left) left ≡ more → with_front (x ∷ []) more ≡ some_at set r all
      go (Ok xs) e = rw (read, e) refl
      go (Err f) e = rw (read, e) refl

  regroup : (front : List A) (y : A) (read : Result (List A × List Sign) Fault) → with_front front (read >>= λ xs. Ok (y ∷ xs.0, xs.1)) ≡ with_front (front ++ y ∷ []) read
  regroup front y (Ok x) = ap (λ (ys : List A). Ok (ys, x.1)) (simp append_assoc)
  regroup front y (Err f) = refl

  pub list_on : (all left after : List Sign) (front : List A) (y : A) → begins grammar set left ≡ true → r left ≡ Ok (y, after) → length after < length left → Listing set r front left all → Listing set r (front ++ y ∷ []) after all
  list_on all left after front y begun read lt g = go g.turns g.enough g.same
    where
      go : (n : ℕ) → length left ≤ n → with_front front (more_at set r n left) ≡ some_at set r all → Listing set r (front ++ y ∷ []) after all
      go zero le0 same = absurd (omega (arith, lt))
      go (suc n) le0 same = record {
        turns = n;
        enough = omega (arith, lt);
        same = sym (regroup front y (more_at set r n after)) ∙ (sym (rw (begun, read) refl) ∙ same);
      }

  pub list_end : (all left : List Sign) (front : List A) → begins grammar set left ≡ false → Listing set r front left all → some_at set r all ≡ Ok (front, left)
  list_end all left front none g = go g.turns g.same
    where
      go : (n : ℕ) → with_front front (more_at set r n left) ≡ some_at set r all → some_at set r all ≡ Ok (front, left)
      go zero same = sym same ∙ ap (λ (ys : List A). Ok (ys, left)) (append-nil front)
      go (suc n) same = sym same ∙ rw none (ap (λ (ys : List A). Ok (ys, left)) (append-nil front))

  list_wrong : (all left : List Sign) (front : List A) (f : Fault) → begins grammar set left ≡ true → r left ≡ Err f → Listing set r front left all → some_at set r all ≡ Err f
  list_wrong all [] front f begun read g = absurd cc
  list_wrong all (t ∷ ts) front f begun read g = go g.turns g.enough g.same
    where
      go : (n : ℕ) → length (t ∷ ts) ≤ n → with_front front (more_at set r n (t ∷ ts)) ≡ some_at set r all → some_at set r all ≡ Err f
      go zero le0 same = absurd (omega arith)
      go (suc n) le0 same = sym same ∙ rw (begun, read) refl

  -- where the next one fails
  pub list_fails : (all left : List Sign) (front : List A) (h : Halt) → begins grammar set left ≡ true → Fails h (r left) → Listing set r front left all → Fails h (some_at set r all)
  list_fails all left front halt.Memory begun read g = tt
  list_fails all left front (halt.Stop n) begun read g = list_wrong all left front (Stop n) begun read g
  list_fails all left front (halt.Deep n) begun read g = list_wrong all left front (Deep n) begun read g
