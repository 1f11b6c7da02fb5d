-- Counters in which a number is set, or all stay.
use Rattle.std.proofs.Common.{◌≡◌, ◌<◌, ◌≤◌, ℕ, zero, suc, ◌-◌, ◌⊎◌, inl, inr, List, [], ◌∷◌, length, Option, Some, None, ℤ, pos, refl, ap, subst, arith}
use Rattle.std.specs.Prelude.{slice_get, slice_set, replicate, unsigned_abs, ◌^◌}
use Rattle.std.specs.Option.{option_map_or}
use Rattle.std.proofs.lemmas.Bool.{cases_lt}
use Rattle.std.proofs.lemmas.Option.{none-some, same_Some}
use Rattle.cob_program.specs.Act.{Program}
use Rattle.cob_edge_parts.specs.Meaning.{count_in}
use Rattle.cob_edge_parts.specs.Edges.{StandFor}
use Rattle.graph_runs.specs.Sources.{StatementsAreCounted}
use Rattle.cob_edge_parts.specs.Counters.{IsCount, HoldsCount, IsCounted}

pub is_count : (n : ℤ) → IsCount n ⊎ ¬ IsCount n
is_count n = by_order (cases_lt (unsigned_abs n) (10 ^ 18))
  where
    by_order : (unsigned_abs n < 10 ^ 18) ⊎ (10 ^ 18 ≤ unsigned_abs n) → IsCount n ⊎ ¬ IsCount n
    by_order (inl l) = inl l
    by_order (inr l) = inr (λ m. omega (arith, l, m))

-- ---- one is set

abbrev pub at_place : List (Option ℤ) → ℕ → Option ℤ
at_place counts i = option_map_or (λ c. c) (slice_get counts i) None

-- each counter holds what it held, or the number that was set
held_or_set : (counts : List (Option ℤ)) (i j : ℕ) (v n : ℤ) → at_place counts j ≡ Some n →
    (at_place (slice_set counts i (Some v)) j ≡ Some n) ⊎ (at_place (slice_set counts i (Some v)) j ≡ Some v)
held_or_set [] i j v n e = absurd (none-some n e)
held_or_set (x ∷ xs) zero zero v n e = inr refl
held_or_set (x ∷ xs) zero (suc j) v n e = inl e
held_or_set (x ∷ xs) (suc i) zero v n e = inl e
held_or_set (x ∷ xs) (suc i) (suc j) v n e = held_or_set xs i j v n e

pub holds_set : (counts : List (Option ℤ)) (i : ℕ) (v : ℤ) (statement : ℕ) → IsCount v → HoldsCount counts statement →
    HoldsCount (slice_set counts i (Some v)) statement
holds_set counts i v statement small h = by_place (held_or_set counts i (statement - 1) v h.count h.held)
  where
    by_place : (count_in (slice_set counts i (Some v)) statement ≡ Some h.count)
        ⊎ (count_in (slice_set counts i (Some v)) statement ≡ Some v) →
        HoldsCount (slice_set counts i (Some v)) statement
    by_place (inl e) = record { count = h.count; held = e; small = h.small }
    by_place (inr e) = record { count = v; held = e; small = small }

pub length_set : (counts : List (Option ℤ)) (i : ℕ) (v : ℤ) → length (slice_set counts i (Some v)) ≡ length counts
length_set [] i v = refl
length_set (x ∷ xs) zero v = refl
length_set (x ∷ xs) (suc i) v = ap suc (length_set xs i v)

-- ---- all are small

-- each number among the counters has at most 18 digits
abbrev pub AreSmall : List (Option ℤ) → Type 0
AreSmall counts = (i : ℕ) (v : ℤ) → at_place counts i ≡ Some v → IsCount v

pub small_set : (counts : List (Option ℤ)) (i : ℕ) (n : ℤ) → AreSmall counts → IsCount n →
    AreSmall (slice_set counts i (Some n))
small_set [] i n is small j v e = is j v e
small_set (x ∷ xs) zero n is small zero v e = subst IsCount (same_Some n v e) small
small_set (x ∷ xs) zero n is small (suc j) v e = is (suc j) v e
small_set (x ∷ xs) (suc i) n is small zero v e = is zero v e
small_set (x ∷ xs) (suc i) n is small (suc j) v e = small_set xs i n (λ k u f. is (suc k) u f) small j v e

pub begins_small : (many : ℕ) → AreSmall (replicate many (Some (pos 0)))
begins_small zero i v e = absurd (none-some v e)
begins_small (suc many) zero v e = subst IsCount (same_Some (pos 0) v e) (omega arith)
begins_small (suc many) (suc i) v e = begins_small many i v e

-- ---- those of the beginning

zero_held : (many i : ℕ) → i < many → at_place (replicate many (Some (pos 0))) i ≡ Some (pos 0)
zero_held zero i l = absurd (omega (arith, l))
zero_held (suc many) zero l = refl
zero_held (suc many) (suc i) l = zero_held many i (omega (arith, l))

pub begins_counted : (p : Program) → StatementsAreCounted p → IsCounted p (replicate p.statements (Some (pos 0)))
begins_counted p numbers statement a its times =
    let n = numbers statement a its in
    record {
      count = pos 0;
      held = zero_held p.statements (statement - 1) (omega (arith, n.0, n.1));
      small = omega arith;
    }

pub begins_standing : (many : ℕ) → StandFor (replicate many None) (replicate many (Some (pos 0)))
begins_standing zero = tt
begins_standing (suc many) = ((pos 0, refl, refl), begins_standing many)

pub stand_length : (as_ bs : List (Option ℤ)) → StandFor as_ bs → length as_ ≡ length bs
stand_length [] [] s = refl
stand_length [] (b ∷ bs) s = absurd s
stand_length (a ∷ as_) [] s = absurd s
stand_length (a ∷ as_) (b ∷ bs) s = ap suc (stand_length as_ bs s.1)
