-- Lists that rise, into which numbers are put.
use Rattle.std.proofs.Common.{◌≡◌, ℕ, zero, suc, ◌-◌, ◌<◌, ◌≤◌, List, [], ◌∷◌, length, get_or, Bool, true, false, ℤ, pos, ◌≤ℤ◌, ◌<ℤ◌, ◌⊎◌, inl, inr, int_lt, int_le, if◌then◌else◌, refl, sym, ap, ◌∙◌, subst, arith}
use Rattle.std.specs.List.{insert, AllByRecursion}
use Rattle.std.proofs.lemmas.Int.{ints, by_lt_z}
use Rattle.interval_domain.specs.declared.bounds.Interval.{Interval}
use Rattle.interval_domain.specs.Thresholds.{IsListed}
use Rattle.interval_domain.specs.Known.{HasEnds}
use Rattle.analyse_core.specs.Rising.{inserted, RisesFrom, Rises}
use Rattle.analyse_core.specs.Thresholds.{rank_in, holds_at}

pub below_is : (t z : ℤ) → t <ℤ z → int_lt t z ≡ true
below_is t z h = grind (arith, ints)

pub not_below : (t z : ℤ) → z ≤ℤ t → int_lt t z ≡ false
not_below t z h = grind (arith, ints)

at_most_is : (t z : ℤ) → t ≤ℤ z → int_le t z ≡ true
at_most_is t z h = grind (arith, ints)

not_at_most : (t z : ℤ) → z <ℤ t → int_le t z ≡ false
not_at_most t z h = grind (arith, ints)

-- ---- where a number goes

pub rank_within : (z : ℤ) (ts : List ℤ) → rank_in z ts ≤ length ts
rank_within z [] = omega arith
rank_within z (t ∷ ts) = by_test (int_lt t z) (rank_within z ts)
  where
    by_test : (b : Bool) → rank_in z ts ≤ length ts → (if b then suc (rank_in z ts) else 0) ≤ suc (length ts)
    by_test true h = omega (arith, h)
    by_test false h = omega arith

behind : (t z : ℤ) (ts : List ℤ) (b : Bool) → inserted z ts ≡ (if b then ts else insert ts (rank_in z ts) z) →
    t ∷ inserted z ts ≡ (if b then t ∷ ts else t ∷ insert ts (rank_in z ts) z)
behind t z ts true e = ap (λ xs. t ∷ xs) e
behind t z ts false e = ap (λ xs. t ∷ xs) e

-- a number is inserted at its rank, unless it stands there
pub inserted_at : (z : ℤ) (ts : List ℤ) → inserted z ts ≡ (if holds_at ts (rank_in z ts) z then ts else insert ts (rank_in z ts) z)
inserted_at z [] = refl
inserted_at z (t ∷ ts) =
    by_lt_z t z
    (λ (lt : t <ℤ z). rw (below_is t z lt) (behind t z ts (holds_at ts (rank_in z ts) z) (inserted_at z ts)))
    (λ (le : z ≤ℤ t).
    by_lt_z z t
    (λ (gt : z <ℤ t). rw (not_below t z le, below_is z t gt, not_at_most t z gt) refl)
    (λ (ge : t ≤ℤ z). rw (not_below t z le, not_below z t ge, at_most_is t z ge) refl))

pub stands_there : (z : ℤ) (ts : List ℤ) (k : ℕ) → k ≡ rank_in z ts → holds_at ts k z ≡ true → ts ≡ inserted z ts
stands_there z ts k e h =
    let here : holds_at ts (rank_in z ts) z ≡ true = subst (λ i. holds_at ts i z ≡ true) e h in
    sym (inserted_at z ts ∙ ap (λ b. if b then ts else insert ts (rank_in z ts) z) here)

pub goes_in : (z : ℤ) (ts : List ℤ) (k : ℕ) → k ≡ rank_in z ts → holds_at ts k z ≡ false → insert ts k z ≡ inserted z ts
goes_in z ts k e h =
    let here : holds_at ts (rank_in z ts) z ≡ false = subst (λ i. holds_at ts i z ≡ false) e h in
    ap (λ i. insert ts i z) e ∙ sym (inserted_at z ts ∙ ap (λ b. if b then ts else insert ts (rank_in z ts) z) here)

-- ---- what holds of each number

module _ (P : ℤ → Type 0) where
  pub all_inserted : (z : ℤ) (ts : List ℤ) → P z → AllByRecursion P ts → AllByRecursion P (inserted z ts)
  all_inserted z [] p h = (p, tt)
  all_inserted z (t ∷ ts) p h =
      by_lt_z t z
      (λ (lt : t <ℤ z). rw (below_is t z lt) (h.0, all_inserted z ts p h.1))
      (λ (le : z ≤ℤ t).
      by_lt_z z t
      (λ (gt : z <ℤ t). rw (not_below t z le, below_is z t gt) (p, h))
      (λ (ge : t ≤ℤ z). rw (not_below t z le, not_below z t ge) h))

  pub all_at : (ts : List ℤ) (k : ℕ) → AllByRecursion P ts → k < length ts → P (get_or ts k (pos 0))
  all_at [] k h l = absurd (omega (arith, l))
  all_at (t ∷ ts) zero h l = h.0
  all_at (t ∷ ts) (suc k) h l = all_at ts k h.1 (omega (arith, l))

pub inserted_length : (z : ℤ) (ts : List ℤ) → length (inserted z ts) ≤ suc (length ts)
inserted_length z [] = omega arith
inserted_length z (t ∷ ts) =
    by_lt_z t z
    (λ (lt : t <ℤ z). rw (below_is t z lt) (let more = inserted_length z ts in omega (arith, more)))
    (λ (le : z ≤ℤ t).
    by_lt_z z t
    (λ (gt : z <ℤ t). rw (not_below t z le, below_is z t gt) (omega arith))
    (λ (ge : t ≤ℤ z). rw (not_below t z le, not_below z t ge) (omega arith)))

-- ---- it rises still

rises_behind : (s z : ℤ) (ts : List ℤ) → s <ℤ z → RisesFrom s ts → RisesFrom s (inserted z ts)
rises_behind s z [] l h = (l, tt)
rises_behind s z (t ∷ ts) l h =
    by_lt_z t z
    (λ (lt : t <ℤ z). rw (below_is t z lt) (h.0, rises_behind t z ts lt h.1))
    (λ (le : z ≤ℤ t).
    by_lt_z z t
    (λ (gt : z <ℤ t). rw (not_below t z le, below_is z t gt) (l, (gt, h.1)))
    (λ (ge : t ≤ℤ z). rw (not_below t z le, not_below z t ge) h))

pub inserted_rises : (z : ℤ) (ts : List ℤ) → Rises ts → Rises (inserted z ts)
inserted_rises z [] h = tt
inserted_rises z (t ∷ ts) h =
    by_lt_z t z
    (λ (lt : t <ℤ z). rw (below_is t z lt) (rises_behind t z ts lt h))
    (λ (le : z ≤ℤ t).
    by_lt_z z t
    (λ (gt : z <ℤ t). rw (not_below t z le, below_is z t gt) (gt, h))
    (λ (ge : t ≤ℤ z). rw (not_below t z le, not_below z t ge) h))

-- ---- what it holds

abbrev pub Has : List ℤ → ℤ → Type 0
Has [] u = ⊥
Has (t ∷ ts) u = (t ≡ u) ⊎ Has ts u

pub inserted_has : (z : ℤ) (ts : List ℤ) → Has (inserted z ts) z
inserted_has z [] = inl refl
inserted_has z (t ∷ ts) =
    by_lt_z t z
    (λ (lt : t <ℤ z). rw (below_is t z lt) (inr (inserted_has z ts)))
    (λ (le : z ≤ℤ t).
    by_lt_z z t
    (λ (gt : z <ℤ t). rw (not_below t z le, below_is z t gt) (inl refl))
    (λ (ge : t ≤ℤ z). rw (not_below t z le, not_below z t ge) (inl (omega (arith, ints, le, ge)))))

has_behind : (t z u : ℤ) (ts : List ℤ) → (Has ts u → Has (inserted z ts) u) → (t ≡ u) ⊎ Has ts u → (t ≡ u) ⊎ Has (inserted z ts) u
has_behind t z u ts h (inl e) = inl e
has_behind t z u ts h (inr more) = inr (h more)

pub inserted_keeps : (z u : ℤ) (ts : List ℤ) → Has ts u → Has (inserted z ts) u
inserted_keeps z u [] h = absurd h
inserted_keeps z u (t ∷ ts) h =
    by_lt_z t z
    (λ (lt : t <ℤ z). rw (below_is t z lt) (has_behind t z u ts (inserted_keeps z u ts) h))
    (λ (le : z ≤ℤ t).
    by_lt_z z t
    (λ (gt : z <ℤ t). rw (not_below t z le, below_is z t gt) (inr h))
    (λ (ge : t ≤ℤ z). rw (not_below t z le, not_below z t ge) h))

has_place : (ts : List ℤ) (u : ℤ) → Has ts u → (k : ℕ) × (k < length ts) × (get_or ts k (pos 0) ≡ u)
has_place [] u h = absurd h
has_place (t ∷ ts) u (inl e) = (0, omega arith, e)
has_place (t ∷ ts) u (inr h) = let more = has_place ts u h in let less = more.1 in (suc more.0, omega (arith, less), more.2)

-- ---- its ends

first_below : (t : ℤ) (ts : List ℤ) (k : ℕ) → RisesFrom t ts → k < suc (length ts) → t ≤ℤ get_or (t ∷ ts) k (pos 0)
first_below t ts zero h l = omega (arith, ints)
first_below t [] (suc k) h l = absurd (omega (arith, l))
first_below t (s ∷ ts) (suc k) (lt, h) l = let more = first_below s ts k h (omega (arith, l)) in omega (arith, ints, lt, more)

last_above : (t : ℤ) (ts : List ℤ) (k : ℕ) → RisesFrom t ts → k < suc (length ts) → get_or (t ∷ ts) k (pos 0) ≤ℤ get_or (t ∷ ts) (length ts) (pos 0)
last_above t [] zero h l = omega (arith, ints)
last_above t [] (suc k) h l = absurd (omega (arith, l))
last_above t (s ∷ ts) zero (lt, h) l = let more = last_above s ts 0 h (omega arith) in omega (arith, ints, lt, more)
last_above t (s ∷ ts) (suc k) (lt, h) l = last_above s ts k h (omega (arith, l))

-- a number of the cell's own range
abbrev pub LiesIn : Interval → ℤ → Type 0
LiesIn own z = (own.low ≤ℤ z) × (z ≤ℤ own.high)

-- thresholds in a range that have its ends begin and end with them
pub has_ends : (own : Interval) (ts : List ℤ) → Rises ts → AllByRecursion (LiesIn own) ts → Has ts own.low → Has ts own.high → HasEnds own ts
has_ends own [] rises within low high = absurd low
has_ends own (t ∷ ts) rises within low high =
    let a = has_place (t ∷ ts) own.low low in
    let b = has_place (t ∷ ts) own.high high in
    let first = first_below t ts a.0 rises a.1 in
    let last = last_above t ts b.0 rises b.1 in
    let ea = a.2 in
    let eb = b.2 in
    let least = within.0.0 in
    let greatest = (all_at (LiesIn own) (t ∷ ts) (length ts) within (omega arith)).1 in
    let place : length (t ∷ ts) - 1 ≡ length ts = omega arith in
    let ends : get_or (t ∷ ts) (length ts) (pos 0) ≡ own.high = omega (arith, ints, last, eb, greatest) in
    record {
      some = omega arith;
      first = omega (arith, ints, first, ea, least);
      last = ap (λ k. get_or (t ∷ ts) k (pos 0)) place ∙ ends;
    }

-- what is listed lies in the range
pub listed_lies : (own : Interval) (ts : List ℤ) (u : ℤ) → AllByRecursion (LiesIn own) ts → IsListed ts u → LiesIn own u
listed_lies own ts u h (k, l, e) = subst (LiesIn own) e (all_at (LiesIn own) ts k h l)
