-- A counter gets a number.
use Rattle.std.proofs.Common.{◌≡◌, ◌≤◌, ℕ, zero, suc, ◌-◌, ◌==◌, Bool, true, false, List, [], ◌∷◌, Option, Some, None, ℤ, refl, ap, subst, ◌∙◌, arith}
use Rattle.std.specs.Prelude.{slice_get, slice_set}
use Rattle.std.specs.Option.{option_map_or}
use Rattle.std.proofs.lemmas.Bool.{eqb-true, eq-eqb}
use Rattle.cob_program.specs.Act.{Program}
use Rattle.cob_edge_parts.specs.Meaning.{count_in}
use Rattle.cob_edge_parts.specs.Counters.{IsCount, HoldsCount, IsCounted}

-- ---- one element of a list

set_there : (xs : List (Option ℤ)) (k : ℕ) (v : ℤ) (old : Option ℤ) → slice_get xs k ≡ Some old → slice_get (slice_set xs k (Some v)) k ≡ Some (Some v)
set_there [] k v old e = absurd cc
set_there (x ∷ xs) zero v old e = refl
set_there (x ∷ xs) (suc k) v old e = set_there xs k v old e

set_elsewhere : (xs : List (Option ℤ)) (j k : ℕ) (v : ℤ) → ¬ j ≡ k → slice_get (slice_set xs k (Some v)) j ≡ slice_get xs j
set_elsewhere [] j k v n = refl
set_elsewhere (x ∷ xs) zero zero v n = absurd (n refl)
set_elsewhere (x ∷ xs) zero (suc k) v n = refl
set_elsewhere (x ∷ xs) (suc j) zero v n = refl
set_elsewhere (x ∷ xs) (suc j) (suc k) v n = set_elsewhere xs j k v (λ e. n (ap suc e))

-- ---- counters

there_is : (o : Option (Option ℤ)) (c : ℤ) → option_map_or (λ d. d) o None ≡ Some c → o ≡ Some (Some c)
there_is None c e = absurd cc
there_is (Some d) c e = ap Some e

abbrev set_count_in : List (Option ℤ) → ℕ → ℤ → List (Option ℤ)
set_count_in counts n v = slice_set counts (n - 1) (Some v)

pub count_set : (counts : List (Option ℤ)) (n : ℕ) (v old : ℤ) → count_in counts n ≡ Some old → count_in (slice_set counts (n - 1) (Some v)) n ≡ Some v
count_set counts n v old e = ap (λ (o : Option (Option ℤ)). option_map_or (λ d. d) o None) (set_there counts (n - 1) v (Some old) (there_is (slice_get counts (n - 1)) old e))

pub count_elsewhere : (counts : List (Option ℤ)) (m n : ℕ) (v : ℤ) → ¬ (m - 1) ≡ (n - 1) → count_in (slice_set counts (n - 1) (Some v)) m ≡ count_in counts m
count_elsewhere counts m n v d = ap (λ (o : Option (Option ℤ)). option_map_or (λ c. c) o None) (set_elsewhere counts (m - 1) (n - 1) v d)

pub differs : (m n : ℕ) → 1 ≤ m → 1 ≤ n → ¬ m ≡ n → ¬ (m - 1) ≡ (n - 1)
differs m n h k d e = d (omega (arith, h, k, e))

same_or_not : (j k : ℕ) (P : Type 0) → (j ≡ k → P) → (¬ j ≡ k → P) → P
same_or_not j k P yes_ no_ = go (j == k) refl
  where
    go : (b : Bool) → (j == k) ≡ b → P
    go true e = yes_ (eqb-true j k e)
    go false e = no_ (λ f. let g : (j == k) ≡ true = eq-eqb j k f in cc)

-- each counter still holds its number
pub counted_set : (p : Program) (counts : List (Option ℤ)) (n : ℕ) (v : ℤ) → IsCount v → IsCounted p counts → IsCounted p (slice_set counts (n - 1) (Some v))
counted_set p counts n v small counted m a at is =
    let h = counted m a at is in
    same_or_not (m - 1) (n - 1) (HoldsCount (slice_set counts (n - 1) (Some v)) m)
    (λ e. record {
      count = v;
      held = ap (λ (o : Option (Option ℤ)). option_map_or (λ d. d) o None)
          (subst (λ (k : ℕ). slice_get (slice_set counts k (Some v)) (m - 1) ≡ Some (Some v)) e (set_there counts (m - 1) v (Some h.count) (there_is (slice_get counts (m - 1)) h.count h.held)));
      small = small;
    })
    (λ d. record { count = h.count; held = count_elsewhere counts m n v d ∙ h.held; small = h.small })
