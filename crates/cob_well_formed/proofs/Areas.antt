-- The record area of a file ends within storage: its records lie at the top, where none starts before an earlier one.
use Rattle.std.proofs.Common.{◌≡◌, ℕ, ◌+◌, ◌≤◌, max, Bool, true, false, not, cond, eqb, leb, ltb, ◌&&◌, ◌||◌, List, [], ◌∷◌, ◌++◌, length, Option, Some, None, IfSome, refl, sym, subst, arith}
use Rattle.std.specs.List.{AllByRecursion, fold}
use Rattle.std.proofs.lemmas.Bool.Decides.{nat_tests}
use Rattle.cob_data.specs.declared.description.Description.{Description}
use Rattle.cob_data.specs.declared.description.Spot.{Spot}
use Rattle.cob_data.specs.declared.end.Rule.TheVariants.{L1}
use Rattle.cob_data.specs.Lengths.{Forest, bare, item, depth, is_deeper, deeper, behind, forest, size}
use Rattle.cob_data.specs.Spots.{Neighbour, lies_on, start_at, spot, spots, above_parts, end_behind, lies_on_last, nothing_above, all_spots, storage_of}
use Rattle.cob_data.specs.Files.{is_record_of, longest}
use Rattle.cob_data.specs.Rules.{item_breaks}
use Rattle.cob_data.specs.Layouts.{area_start}
use Rattle.cob_data.proofs.PartLemmas.{flat, flat_forest, inner, outer, same_length}
use Rattle.cob_data.proofs.AnswerLemmas.{seated}
use Rattle.cob_data.proofs.LowLemmas.{EndsRightly, spots_end_rightly}
use Rattle.cob_well_formed.proofs.Pairs.{AllPairs}

-- ---- what is below an item is deeper

-- items side by side are deeper than this
abbrev Tops : ℕ → Forest → Type 0
Tops n bare = Unit {0}
Tops n (item d b r) = (is_deeper n d ≡ true) × Tops n r

abbrev Nested : Forest → Type 0
Nested bare = Unit {0}
Nested (item d b r) = Tops (depth d) b × Nested b × Nested r

tops_deeper : (n : ℕ) (f : Forest) → Tops n (deeper n f)
tops_deeper n bare = tt
tops_deeper n (item d b r) = at n d b r (is_deeper n d) refl (tops_deeper n r) where
  at : (n : ℕ) (d : Description) (b r : Forest) (x : Bool) → is_deeper n d ≡ x → Tops n (deeper n r) →
      Tops n (cond x (item d b (deeper n r)) bare)
  at n d b r true e tops = (e, tops)
  at n d b r false e tops = tt

nested_deeper : (n : ℕ) (f : Forest) → Nested f → Nested (deeper n f)
nested_deeper n bare nested = tt
nested_deeper n (item d b r) nested = at n d b r (is_deeper n d) nested (nested_deeper n r nested.2) where
  at : (n : ℕ) (d : Description) (b r : Forest) (x : Bool) → Nested (item d b r) → Nested (deeper n r) →
      Nested (cond x (item d b (deeper n r)) bare)
  at n d b r true nested beside = (nested.0, nested.1, beside)
  at n d b r false nested beside = tt

nested_behind : (n : ℕ) (f : Forest) → Nested f → Nested (behind n f)
nested_behind n bare nested = tt
nested_behind n (item d b r) nested = at n d b r (is_deeper n d) nested (nested_behind n r nested.2) where
  at : (n : ℕ) (d : Description) (b r : Forest) (x : Bool) → Nested (item d b r) → Nested (behind n r) →
      Nested (cond x (behind n r) (item d b r))
  at n d b r true nested beside = beside
  at n d b r false nested beside = nested

nested_forest : (ds : List Description) → Nested (forest ds)
nested_forest [] = tt
nested_forest (d ∷ ds) =
    let others = nested_forest ds in
    (tops_deeper (depth d) (forest ds), nested_deeper (depth d) (forest ds) others, nested_behind (depth d) (forest ds) others)

-- ---- records are at the top

abbrev HasDepth : Description → Type 0
HasDepth d = 1 ≤ depth d

abbrev IsNoRecord : ℕ → Description → Type 0
IsNoRecord k d = is_record_of k d ≡ false

depth_of : (level : ℕ) (x y : Bool) →
    not ((eqb level 1 || (eqb level 77 && x)) || (leb 2 level && leb level 49 && y)) ≡ false →
    1 ≤ cond (eqb level 77) 1 level
depth_of level x y kept = grind (arith, nat_tests)

has_depth : (d : Description) (s : Spot) → item_breaks L1 d s ≡ false → HasDepth d
has_depth d s kept = depth_of d.level _ _ kept

have_depth : (ds : List Description) (ss : List Spot) → length ds ≡ length ss →
    AllPairs (λ d s. item_breaks L1 d s ≡ false) ds ss → AllByRecursion HasDepth ds
have_depth [] ss e kept = tt
have_depth (d ∷ ds) [] e kept = absurd (omega (arith, e))
have_depth (d ∷ ds) (s ∷ ss) e kept = (has_depth d s kept.0, have_depth ds ss (omega (arith, e)) kept.1)

no_record_at : (n level : ℕ) (x : Bool) → 1 ≤ n → ltb n (cond (eqb level 77) 1 level) ≡ true → (eqb level 1 && x) ≡ false
no_record_at n level x some deep = grind (arith, nat_tests)

no_record : (k n : ℕ) (d : Description) → 1 ≤ n → is_deeper n d ≡ true → IsNoRecord k d
no_record k n d some deep = no_record_at n d.level _ some deep

all_append : (P : Description → Type 0) (xs ys : List Description) → AllByRecursion P xs → AllByRecursion P ys →
    AllByRecursion P (xs ++ ys)
all_append P [] ys p q = q
all_append P (x ∷ xs) ys p q = (p.0, all_append P xs ys p.1 q)

all_left : {X : Type 0} (P : X → Type 0) (xs ys : List X) → AllByRecursion P (xs ++ ys) → AllByRecursion P xs
all_left P [] ys p = tt
all_left P (x ∷ xs) ys p = (p.0, all_left P xs ys p.1)

all_right : {X : Type 0} (P : X → Type 0) (xs ys : List X) → AllByRecursion P (xs ++ ys) → AllByRecursion P ys
all_right P [] ys p = p
all_right P (x ∷ xs) ys p = all_right P xs ys p.1

no_records : (k n : ℕ) (f : Forest) → 1 ≤ n → Tops n f → Nested f → AllByRecursion HasDepth (flat f) →
    AllByRecursion (IsNoRecord k) (flat f)
no_records k n bare some tops nested deep = tt
no_records k n (item d b r) some tops nested deep = (
  no_record k n d some tops.0,
  all_append (IsNoRecord k) (flat b) (flat r)
      (no_records k (depth d) b deep.0 nested.0 nested.1 (all_left HasDepth (flat b) (flat r) deep.1))
      (no_records k n r some tops.1 nested.2 (all_right HasDepth (flat b) (flat r) deep.1)),
)

-- what is no record is passed over
pass_start : (k : ℕ) (xs ys : List Description) (us vs : List Spot) → length xs ≡ length us →
    AllByRecursion (IsNoRecord k) xs →
    area_start k (xs ++ ys) (us ++ vs) ≡ area_start k ys vs
pass_start k [] ys [] vs e none = refl
pass_start k [] ys (u ∷ us) vs e none = absurd (omega (arith, e))
pass_start k (x ∷ xs) ys [] vs e none = absurd (omega (arith, e))
pass_start k (x ∷ xs) ys (u ∷ us) vs e none = rw (none.0) (pass_start k xs ys us vs (omega (arith, e)) none.1)

pass_longest : (most k : ℕ) (xs ys : List Description) (us vs : List Spot) → length xs ≡ length us →
    AllByRecursion (IsNoRecord k) xs →
    longest most k (xs ++ ys) (us ++ vs) ≡ longest most k ys vs
pass_longest most k [] ys [] vs e none = refl
pass_longest most k [] ys (u ∷ us) vs e none = absurd (omega (arith, e))
pass_longest most k (x ∷ xs) ys [] vs e none = absurd (omega (arith, e))
pass_longest most k (x ∷ xs) ys (u ∷ us) vs e none = rw (none.0) (pass_longest most k xs ys us vs (omega (arith, e)) none.1)

-- ---- none starts before an earlier one

start_above : (a next : ℕ) (d : Description) (last : Option Neighbour) → a ≤ next → IfSome last (λ n. a ≤ n.spot.start) →
    a ≤ start_at nothing_above next d last
start_above a next d None low before = low
start_above a next d (Some n) low before = at a next n.spot.start (lies_on nothing_above d n) low before where
  at : (a next start : ℕ) (x : Bool) → a ≤ next → a ≤ start → a ≤ cond x start next
  at a next start true low before = before
  at a next start false low before = low

end_above : (a next : ℕ) (x : Bool) (s : Spot) → a ≤ s.end → a ≤ end_behind nothing_above next x s
end_above a next true s end = omega arith
end_above a next false s end = end

abbrev pub IsIn : ℕ → Spot → Type 0
IsIn storage s = s.start + s.length ≤ storage

more_within : (x : Bool) (a most start bytes storage : ℕ) → a ≤ start → start + bytes ≤ storage → a + most ≤ storage →
    a + cond x (max most bytes) most ≤ storage
more_within true a most start bytes storage low end within = omega arith
more_within false a most start bytes storage low end within = within

module _ (k storage : ℕ) where
  longest_within : (a most place next : ℕ) (last : Option Neighbour) (f : Forest) → Nested f →
      AllByRecursion HasDepth (flat f) → AllByRecursion (IsIn storage) (spots nothing_above place next last f) →
      a ≤ next → IfSome last (λ n. a ≤ n.spot.start) → a + most ≤ storage →
      a + longest most k (flat f) (spots nothing_above place next last f) ≤ storage
  longest_within a most place next last bare nested deep ends low before within = within
  longest_within a most place next last (item d b r) nested deep ends low before within =
      let s = spot nothing_above next last d b in
      let I = inner nothing_above place next last d b in
      let O = outer nothing_above place next last d b r in
      let start : a ≤ s.start = start_above a next d last low before in
      let further = cond (is_record_of k d) (max most s.length) most in
      let none = no_records k (depth d) b deep.0 nested.0 nested.1 (all_left HasDepth (flat b) (flat r) deep.1) in
      let passed : longest further k (flat b ++ flat r) (I ++ O) ≡ longest further k (flat r) O =
      pass_longest further k (flat b) (flat r) I O (same_length (above_parts place s) (place + 1) s.start None b) none in
      let rest : a + longest further k (flat r) O ≤ storage =
      longest_within a further (place + 1 + size b) (end_behind nothing_above next (lies_on_last nothing_above d last) s) (Some (record { item = d; spot = s })) r
      nested.2 (all_right HasDepth (flat b) (flat r) deep.1) (all_right (IsIn storage) I O ends.1)
      (end_above a next (lies_on_last nothing_above d last) s (omega (arith, start))) start
      (more_within (is_record_of k d) a most s.start s.length storage start ends.0 within) in
      omega (arith, passed, rest)

  -- at a record the area starts
  at_first : (x : Bool) (start bytes : ℕ) (xs ys : List Description) (us vs : List Spot) →
      AllByRecursion (IsNoRecord k) xs → length xs ≡ length us →
      start + longest (max 0 bytes) k ys vs ≤ storage → area_start k ys vs + longest 0 k ys vs ≤ storage →
      cond x start (area_start k (xs ++ ys) (us ++ vs)) + longest (cond x (max 0 bytes) 0) k (xs ++ ys) (us ++ vs) ≤ storage
  at_first true start bytes xs ys us vs none same here later =
      omega (arith, pass_longest (max 0 bytes) k xs ys us vs same none, here)
  at_first false start bytes xs ys us vs none same here later =
      omega (arith, pass_start k xs ys us vs same none, pass_longest 0 k xs ys us vs same none, later)

  area_within : (place next : ℕ) (last : Option Neighbour) (f : Forest) → Nested f → AllByRecursion HasDepth (flat f) →
      AllByRecursion (IsIn storage) (spots nothing_above place next last f) →
      area_start k (flat f) (spots nothing_above place next last f) + longest 0 k (flat f) (spots nothing_above place next last f) ≤ storage
  area_within place next last bare nested deep ends = omega arith
  area_within place next last (item d b r) nested deep ends =
      let s = spot nothing_above next last d b in
      let I = inner nothing_above place next last d b in
      let O = outer nothing_above place next last d b r in
      let none = no_records k (depth d) b deep.0 nested.0 nested.1 (all_left HasDepth (flat b) (flat r) deep.1) in
      let same = same_length (above_parts place s) (place + 1) s.start None b in
      let later = all_right HasDepth (flat b) (flat r) deep.1 in
      let inside = all_right (IsIn storage) I O ends.1 in
      let behind_all = end_behind nothing_above next (lies_on_last nothing_above d last) s in
      at_first (is_record_of k d) s.start s.length (flat b) (flat r) I O none same
      (longest_within s.start (max 0 s.length) (place + 1 + size b) behind_all (Some (record { item = d; spot = s })) r nested.2 later inside
      (end_above s.start next (lies_on_last nothing_above d last) s (omega arith)) (omega arith) (omega (arith, ends.0)))
      (area_within (place + 1 + size b) behind_all (Some (record { item = d; spot = s })) r nested.2 later inside)

-- ---- all ends are within storage

abbrev greatest : ℕ → List Spot → ℕ
greatest m ss = fold (λ most (s : Spot). max most s.end) m ss

above_start : (m : ℕ) (ss : List Spot) → m ≤ greatest m ss
above_start m [] = omega arith
above_start m (s ∷ ss) = omega (arith, above_start (max m s.end) ss)

ends_in : (m most : ℕ) (ss : List Spot) → AllByRecursion EndsRightly ss → greatest m ss ≤ most →
    AllByRecursion (IsIn most) ss
ends_in m most [] ends within = tt
ends_in m most (s ∷ ss) ends within =
    let high = above_start (max m s.end) ss in
    let rightly : s.end ≡ s.start + s.length = ends.0 in
    (omega (arith, high, rightly, within), ends_in (max m s.end) most ss ends.1 within)

pub all_in : (ds : List Description) → AllByRecursion (IsIn (storage_of (all_spots ds))) (all_spots ds)
all_in ds =
    ends_in 0 (storage_of (all_spots ds)) (all_spots ds) (spots_end_rightly nothing_above 0 0 None (forest ds)) (omega arith)

pub area_in : (k : ℕ) (ds : List Description) → AllPairs (λ d s. item_breaks L1 d s ≡ false) ds (all_spots ds) →
    area_start k ds (all_spots ds) + longest 0 k ds (all_spots ds) ≤ storage_of (all_spots ds)
area_in k ds kept =
    let deep = have_depth ds (all_spots ds) (seated ds) kept in
    let items = flat_forest ds in
    let whole = area_within k (storage_of (all_spots ds)) 0 0 None (forest ds) (nested_forest ds) (subst (AllByRecursion HasDepth) (sym items) deep) (all_in ds) in
    subst (λ xs. area_start k xs (all_spots ds) + longest 0 k xs (all_spots ds) ≤ storage_of (all_spots ds)) items whole
