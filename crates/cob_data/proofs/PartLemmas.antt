-- Groups and their parts, from the forest of the items.
use Rattle.std.proofs.Common.{◌≡◌, ℕ, ◌+◌, ◌<◌, ◌≤◌, Bool, true, false, not, cond, eqb, List, [], ◌∷◌, ◌++◌, append_assoc, append-nil, length, length-append, ◌⊎◌, inl, inr, Option, Some, None, refl, subst, sym, ap, ◌∙◌, arith}
use Rattle.std.proofs.lemmas.Bool.Decides.{nat_tests}
use Rattle.std.specs.List.{AllByRecursion}
use Rattle.cob_data.specs.declared.description.Description.{Description}
use Rattle.cob_data.specs.declared.description.Spot.{Spot}
use Rattle.cob_data.specs.declared.description.Above.{Above}
use Rattle.cob_data.specs.Lengths.{Forest, bare, item, depth, is_deeper, deeper, behind, forest, size, extent, item_bytes}
use Rattle.cob_data.specs.Spots.{Neighbour, is_bare, spot, spots, above_parts, end_behind, lies_on_last, nothing_above, all_spots}
use Rattle.cob_data.specs.Parts.{is_at, is_part, part_bytes, last_start, AreAsLongAsParts}
use Rattle.cob_data.proofs.SpotLemmas.{spots_length}
use Rattle.cob_data.proofs.LowLemmas.{all_append}

-- ---- the items of a forest, in the order of the source

abbrev pub flat : Forest → List Description
flat bare = []
flat (item d below beside) = d ∷ (flat below ++ flat beside)

pub flat_length : (f : Forest) → length (flat f) ≡ size f
flat_length bare = refl
flat_length (item d b r) = omega (arith, length-append (flat b) (flat r), flat_length b, flat_length r)

pub flat_parts : (n : ℕ) (f : Forest) → flat (deeper n f) ++ flat (behind n f) ≡ flat f
flat_parts n bare = refl
flat_parts n (item d b r) = at (is_deeper n d) n d b r (flat_parts n r) where
  at : (x : Bool) (n : ℕ) (d : Description) (b r : Forest) → flat (deeper n r) ++ flat (behind n r) ≡ flat r →
      flat (cond x (item d b (deeper n r)) bare) ++ flat (cond x (behind n r) (item d b r)) ≡ d ∷ (flat b ++ flat r)
  at true n d b r same = ap (λ t. d ∷ t) (append_assoc (flat b) (flat (deeper n r)) (flat (behind n r)) ∙ ap (λ t. flat b ++ t) same)
  at false n d b r same = refl

pub flat_forest : (ds : List Description) → flat (forest ds) ≡ ds
flat_forest [] = refl
flat_forest (d ∷ ds) = ap (λ t. d ∷ t) (flat_parts (depth d) (forest ds) ∙ flat_forest ds)

-- ---- bytes of parts

pub bytes_append : (p : ℕ) (ds es : List Description) (ss ts : List Spot) → length ds ≡ length ss → part_bytes p (ds ++ es) (ss ++ ts) ≡ part_bytes p ds ss + part_bytes p es ts
bytes_append p [] es [] ts e = omega arith
bytes_append p [] es (s ∷ ss) ts e = absurd (omega (arith, e))
bytes_append p (d ∷ ds) es [] ts e = absurd (omega (arith, e))
bytes_append p (d ∷ ds) es (s ∷ ss) ts e = omega (arith, bytes_append p ds es ss ts (omega (arith, e)))

-- where the items of a forest lie, split as the forest is
abbrev pub inner : Above → ℕ → ℕ → Option Neighbour → Description → Forest → List Spot
inner above place next last d b = spots (above_parts place (spot above next last d b)) (place + 1) (spot above next last d b).start None b

abbrev pub outer : Above → ℕ → ℕ → Option Neighbour → Description → Forest → Forest → List Spot
outer above place next last d b r = spots above (place + 1 + size b) (end_behind above next (lies_on_last above d last) (spot above next last d b)) (Some (record { item = d; spot = spot above next last d b })) r

pub same_length : (above : Above) (place next : ℕ) (last : Option Neighbour) (f : Forest) → length (flat f) ≡ length (spots above place next last f)
same_length above place next last f = flat_length f ∙ sym (spots_length above place next last f)

pub split_bytes : (p : ℕ) (above : Above) (place next : ℕ) (last : Option Neighbour) (d : Description) (b r : Forest) →
    part_bytes p (flat b ++ flat r) (inner above place next last d b ++ outer above place next last d b r)
    ≡ part_bytes p (flat b) (inner above place next last d b) + part_bytes p (flat r) (outer above place next last d b r)
split_bytes p above place next last d b r = bytes_append p (flat b) (flat r) (inner above place next last d b) (outer above place next last d b r) (same_length (above_parts place (spot above next last d b)) (place + 1) (spot above next last d b).start None b)

-- ---- items that have no part among these

abbrev pub AreApart : ℕ → List Spot → Type 0
AreApart p ss = AllByRecursion (λ s. is_part p s ≡ false) ss

pub apart_append : (p : ℕ) (ss ts : List Spot) → AreApart p ss → AreApart p ts → AreApart p (ss ++ ts)
apart_append p ss ts a b = all_append (λ s. is_part p s ≡ false) ss ts a b

pub no_bytes : (p : ℕ) (ds : List Description) (ss : List Spot) → AreApart p ss → part_bytes p ds ss ≡ 0
no_bytes p [] ss apart = refl
no_bytes p (d ∷ ds) [] apart = refl
no_bytes p (d ∷ ds) (s ∷ ss) apart = rw (apart.0) (omega (arith, no_bytes p ds ss apart.1))

pub same_start : (p none : ℕ) (ss : List Spot) → AreApart p ss → last_start p none ss ≡ none
same_start p none [] apart = refl
same_start p none (s ∷ ss) apart = rw (apart.0) (same_start p none ss apart.1)

pub differ : (p q : ℕ) → (p < q) ⊎ (q < p) → eqb q p ≡ false
differ p q (inl h) = grind (arith, nat_tests)
differ p q (inr h) = grind (arith, nat_tests)

-- An item before a forest or behind it, that isn't directly above it, has no part in it.
pub before : (p : ℕ) (above : Above) (place next : ℕ) (last : Option Neighbour) (f : Forest) → p < place → is_at p above.parent ≡ false → AreApart p (spots above place next last f)
before p above place next last bare low apart = tt
before p above place next last (item d b r) low apart = (
  apart,
  apart_append p (inner above place next last d b) (outer above place next last d b r)
      (before p (above_parts place (spot above next last d b)) (place + 1) (spot above next last d b).start None b (omega (arith, low)) (differ p place (inl low)))
      (before p above (place + 1 + size b) (end_behind above next (lies_on_last above d last) (spot above next last d b)) (Some (record { item = d; spot = spot above next last d b })) r (omega (arith, low)) apart),
)

pub behind_it : (p : ℕ) (above : Above) (place next : ℕ) (last : Option Neighbour) (f : Forest) → place + size f ≤ p → is_at p above.parent ≡ false → AreApart p (spots above place next last f)
behind_it p above place next last bare high apart = tt
behind_it p above place next last (item d b r) high apart = (
  apart,
  apart_append p (inner above place next last d b) (outer above place next last d b r)
      (behind_it p (above_parts place (spot above next last d b)) (place + 1) (spot above next last d b).start None b (omega (arith, high)) (differ p place (inr (omega (arith, high)))))
      (behind_it p above (place + 1 + size b) (end_behind above next (lies_on_last above d last) (spot above next last d b)) (Some (record { item = d; spot = spot above next last d b })) r (omega (arith, high)) apart),
)

-- the item directly above a forest has its bytes
all_of : (p : ℕ) (above : Above) (place next : ℕ) (last : Option Neighbour) (f : Forest) → p < place → is_at p above.parent ≡ true → part_bytes p (flat f) (spots above place next last f) ≡ extent f
all_of p above place next last bare low own = refl
all_of p above place next last (item d b r) low own =
    let first : part_bytes p (flat b) (inner above place next last d b) ≡ 0 =
    no_bytes p (flat b) (inner above place next last d b) (before p (above_parts place (spot above next last d b)) (place + 1) (spot above next last d b).start None b (omega (arith, low)) (differ p place (inl low))) in
    let second : part_bytes p (flat r) (outer above place next last d b r) ≡ extent r =
    all_of p above (place + 1 + size b) (end_behind above next (lies_on_last above d last) (spot above next last d b)) (Some (record { item = d; spot = spot above next last d b })) r (omega (arith, low)) own in
    rw own (omega (arith, split_bytes p above place next last d b r, first, second))

-- ---- groups are as long as their parts

abbrev HaveNoPart : ℕ → ℕ → List Spot → Type 0
HaveNoPart place end ts = (p : ℕ) → place ≤ p → p < end → AreApart p ts

abbrev pub IsAbove : Above → ℕ → Type 0
IsAbove above place = (p : ℕ) → place ≤ p → is_at p above.parent ≡ false

pub parts_above : (place : ℕ) (s : Spot) → IsAbove (above_parts place s) (place + 1)
parts_above place s p h = differ p place (inr (omega (arith, h)))

group_bytes : (d : Description) (b : Forest) → not (is_bare b) ≡ true → item_bytes d b ≡ extent b
group_bytes d bare e = absurd (cc)
group_bytes d (item x b r) e = refl

pub same_place : (n : ℕ) → eqb n n ≡ true
same_place n = grind (arith, nat_tests)

long_at : (above : Above) (place next : ℕ) (last : Option Neighbour) (f : Forest) (es : List Description) (ts : List Spot) → IsAbove above place →
    HaveNoPart place (place + size f) ts → AreAsLongAsParts (place + size f) es ts → AreAsLongAsParts place (flat f ++ es) (spots above place next last f ++ ts)
long_at above place next last bare es ts high none rest =
    let same : place + 0 ≡ place = omega arith in
    subst (λ n. AreAsLongAsParts n es ts) same rest
long_at above place next last (item d b r) es ts high none rest =
    let s = spot above next last d b in
    let I = inner above place next last d b in
    let O = outer above place next last d b r in
    let apart_outer : AreApart place O = before place above (place + 1 + size b) (end_behind above next (lies_on_last above d last) s) (Some (record { item = d; spot = s })) r (omega arith) (high place (omega arith)) in
    let apart_rest : AreApart place ts = none place (omega arith) (omega arith) in
    let own : part_bytes place (flat b) I ≡ extent b = all_of place (above_parts place s) (place + 1) s.start None b (omega arith) (same_place place) in
    let others : part_bytes place (flat r ++ es) (O ++ ts) ≡ 0 = no_bytes place (flat r ++ es) (O ++ ts) (apart_append place O ts apart_outer apart_rest) in
    let whole : part_bytes place (flat b ++ (flat r ++ es)) (I ++ (O ++ ts)) ≡ extent b =
    omega (arith, bytes_append place (flat b) (flat r ++ es) I (O ++ ts) (same_length (above_parts place s) (place + 1) s.start None b), own, others) in
    let end : place + 1 + size b + size r ≡ place + size (item d b r) = omega arith in
    let later : AreAsLongAsParts (place + 1 + size b) (flat r ++ es) (O ++ ts) =
    long_at above (place + 1 + size b) (end_behind above next (lies_on_last above d last) s) (Some (record { item = d; spot = s })) r es ts
    (λ p h. high p (omega (arith, h))) (λ p low up. none p (omega (arith, low)) (omega (arith, up, end))) (subst (λ n. AreAsLongAsParts n es ts) (sym end) rest) in
    let below : AreAsLongAsParts (place + 1) (flat b ++ (flat r ++ es)) (I ++ (O ++ ts)) =
    long_at (above_parts place s) (place + 1) s.start None b (flat r ++ es) (O ++ ts) (parts_above place s)
    (λ p low up. apart_append p O ts (before p above (place + 1 + size b) (end_behind above next (lies_on_last above d last) s) (Some (record { item = d; spot = s })) r up (high p (omega (arith, low)))) (none p (omega (arith, low)) (omega (arith, up))))
    later in (
      λ group. group_bytes d b group ∙ sym whole ∙ rw (append_assoc (flat b) (flat r) es, append_assoc I O ts) refl,
      rw (append_assoc (flat b) (flat r) es, append_assoc I O ts) below,
    )

pub are_as_long : (ds : List Description) → AreAsLongAsParts 0 ds (all_spots ds)
are_as_long ds =
    let whole = long_at nothing_above 0 0 None (forest ds) [] [] (λ p h. refl) (λ p low up. tt) tt in
    let items : flat (forest ds) ++ [] ≡ ds = append-nil (flat (forest ds)) ∙ flat_forest ds in
    subst (λ xs. AreAsLongAsParts 0 xs (all_spots ds)) items (subst (λ us. AreAsLongAsParts 0 (flat (forest ds) ++ []) us) (append-nil (all_spots ds)) whole)
