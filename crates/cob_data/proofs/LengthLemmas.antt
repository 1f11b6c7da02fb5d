-- The forest of a list, by parts of the list.
use Rattle.std.proofs.Common.{◌≡◌, ℕ, ◌+◌, ◌<◌, suc, Bool, true, false, cond, ltb, List, [], ◌∷◌, length, get_or, take, drop, refl, ap, ◌∙◌, arith}
use Rattle.std.proofs.lemmas.Bool.Decides.{nat_tests}
use Rattle.std.specs.List.{prefix_len}
use Rattle.cob_data.specs.declared.description.Description.{Description}
use Rattle.cob_data.specs.Lengths.{Forest, bare, item, depth, is_deeper, deeper, behind, forest, extent, item_bytes, unless_redefining}

not_deeper : (n m k : ℕ) → n < m → ltb n k ≡ false → ltb m k ≡ true → ⊥
not_deeper n m k h e f = grind (arith, nat_tests)

-- ---- one level within another

deeper_twice_at : (n m : ℕ) (d : Description) (b r : Forest) (x y : Bool) → n < m → is_deeper n d ≡ x → is_deeper m d ≡ y → deeper m (deeper n r) ≡ deeper m r →
    deeper m (cond x (item d b (deeper n r)) bare) ≡ cond y (item d b (deeper m r)) bare
deeper_twice_at n m d b r true true h e f same = rw f (ap (item d b) same)
deeper_twice_at n m d b r true false h e f same = rw f refl
deeper_twice_at n m d b r false true h e f same = absurd (not_deeper n m (depth d) h e f)
deeper_twice_at n m d b r false false h e f same = refl

deeper_twice : (n m : ℕ) (f : Forest) → n < m → deeper m (deeper n f) ≡ deeper m f
deeper_twice n m bare h = refl
deeper_twice n m (item d b r) h = deeper_twice_at n m d b r (is_deeper n d) (is_deeper m d) h refl refl (deeper_twice n m r h)

behind_deeper_at : (n m : ℕ) (d : Description) (b r : Forest) (x y : Bool) → n < m → is_deeper n d ≡ x → is_deeper m d ≡ y → behind m (deeper n r) ≡ deeper n (behind m r) →
    behind m (cond x (item d b (deeper n r)) bare) ≡ deeper n (cond y (behind m r) (item d b r))
behind_deeper_at n m d b r true true h e f same = rw f same
behind_deeper_at n m d b r true false h e f same = rw (f, e) refl
behind_deeper_at n m d b r false true h e f same = absurd (not_deeper n m (depth d) h e f)
behind_deeper_at n m d b r false false h e f same = rw e refl

behind_deeper : (n m : ℕ) (f : Forest) → n < m → behind m (deeper n f) ≡ deeper n (behind m f)
behind_deeper n m bare h = refl
behind_deeper n m (item d b r) h = behind_deeper_at n m d b r (is_deeper n d) (is_deeper m d) h refl refl (behind_deeper n m r h)

behind_twice_at : (n m : ℕ) (d : Description) (b r : Forest) (x y : Bool) → n < m → is_deeper n d ≡ x → is_deeper m d ≡ y → behind n (behind m r) ≡ behind n r →
    behind n (cond y (behind m r) (item d b r)) ≡ cond x (behind n r) (item d b r)
behind_twice_at n m d b r true true h e f same = same
behind_twice_at n m d b r true false h e f same = rw e refl
behind_twice_at n m d b r false true h e f same = absurd (not_deeper n m (depth d) h e f)
behind_twice_at n m d b r false false h e f same = rw e refl

behind_twice : (n m : ℕ) (f : Forest) → n < m → behind n (behind m f) ≡ behind n f
behind_twice n m bare h = refl
behind_twice n m (item d b r) h = behind_twice_at n m d b r (is_deeper n d) (is_deeper m d) h refl refl (behind_twice n m r h)

-- ---- the forest of a list

lower : (n k : ℕ) → ltb n k ≡ true → n < k
lower n k e = grind (arith, nat_tests)

deeper_forest_at : (n : ℕ) (d : Description) (ds : List Description) (x : Bool) → is_deeper n d ≡ x → deeper n (forest ds) ≡ forest (take (prefix_len (is_deeper n) ds) ds) →
    cond x (item d (deeper (depth d) (forest ds)) (deeper n (behind (depth d) (forest ds)))) bare
    ≡ forest (take (cond x (1 + prefix_len (is_deeper n) ds) 0) (d ∷ ds))
deeper_forest_at n d ds false e same = refl
deeper_forest_at n d ds true e same =
    let h = lower n (depth d) e in
    let F = forest ds in
    let k = prefix_len (is_deeper n) ds in
    let one : 1 + k ≡ suc k = omega arith in
    rw (one, ← same, deeper_twice n (depth d) F h, behind_deeper n (depth d) F h) refl

pub deeper_forest : (n : ℕ) (ds : List Description) → deeper n (forest ds) ≡ forest (take (prefix_len (is_deeper n) ds) ds)
deeper_forest n [] = refl
deeper_forest n (d ∷ ds) = deeper_forest_at n d ds (is_deeper n d) refl (deeper_forest n ds)

behind_forest_at : (n : ℕ) (d : Description) (ds : List Description) (x : Bool) → is_deeper n d ≡ x → behind n (forest ds) ≡ forest (drop (prefix_len (is_deeper n) ds) ds) →
    cond x (behind n (behind (depth d) (forest ds))) (item d (deeper (depth d) (forest ds)) (behind (depth d) (forest ds)))
    ≡ forest (drop (cond x (1 + prefix_len (is_deeper n) ds) 0) (d ∷ ds))
behind_forest_at n d ds false e same = refl
behind_forest_at n d ds true e same =
    let h = lower n (depth d) e in
    let k = prefix_len (is_deeper n) ds in
    let one : 1 + k ≡ suc k = omega arith in
    rw one (behind_twice n (depth d) (forest ds) h ∙ same)

pub behind_forest : (n : ℕ) (ds : List Description) → behind n (forest ds) ≡ forest (drop (prefix_len (is_deeper n) ds) ds)
behind_forest n [] = refl
behind_forest n (d ∷ ds) = behind_forest_at n d ds (is_deeper n d) refl (behind_forest n ds)

-- the first item, with what is deeper below it and the others beside it
pub forest_begins : (d : Description) (ds : List Description) (k : ℕ) → k ≡ prefix_len (is_deeper (depth d)) ds → forest (d ∷ ds) ≡ item d (forest (take k ds)) (forest (drop k ds))
forest_begins d ds k e = rw e (rw (← deeper_forest (depth d) ds, ← behind_forest (depth d) ds) refl)

-- ---- one item further

pub first_and_others : (xs ds : List Description) (d : Description) → 0 < length xs → d ≡ get_or xs 0 d → ds ≡ drop 1 xs → xs ≡ d ∷ ds
first_and_others [] ds d some e f = absurd (omega arith)
first_and_others (x ∷ xs) ds d some e f = rw (e, f) refl

pub extent_step : (xs ds ys zs : List Description) (d : Description) (level k total bytes add next all : ℕ) →
    0 < length xs → d ≡ get_or xs 0 d → ds ≡ drop 1 xs → level ≡ depth d → k ≡ prefix_len (is_deeper level) ds → ys ≡ take k ds → zs ≡ drop k ds →
    bytes ≡ item_bytes d (forest ys) → add ≡ unless_redefining d bytes → next ≡ total + add → total + extent (forest xs) ≡ all →
    next + extent (forest zs) ≡ all
extent_step xs ds ys zs d level k total bytes add next all some first others deep count front behind_ counted kept sum so_far =
    let begins : forest xs ≡ item d (forest ys) (forest zs) = rw (first_and_others xs ds d some first others, front, behind_) (forest_begins d ds k (rw (← deep) count)) in
    let whole : extent (forest xs) ≡ add + extent (forest zs) = rw (begins, kept, counted) refl in
    omega (arith, whole)

pub extent_ends : (xs : List Description) (total all : ℕ) → length xs ≡ 0 → total + extent (forest xs) ≡ all → total ≡ all
extent_ends [] total all none so_far = omega arith
extent_ends (x ∷ xs) total all none so_far = absurd (omega arith)

pub parts_are : (d : Description) (ds : List Description) (total : ℕ) → 0 < length ds → total ≡ extent (forest ds) → total ≡ item_bytes d (forest ds)
parts_are d [] total some e = absurd (omega arith)
parts_are d (x ∷ xs) total some e = e
