-- The packs of a program fit: at most 32, each of 2 to 8 cells in rising order.
use Rattle.std.proofs.Common.{◌≡◌, ℕ, zero, suc, ◌+◌, ◌<◌, ◌≤◌, Bool, true, false, ◌&&◌, ◌||◌, List, [], ◌∷◌, ◌++◌, map, length, take, cond, if◌then◌else◌, refl, sym, ap, ◌∙◌, subst, arith}
use Rattle.std.specs.Prelude.{◌==◌, nat_le, nat_lt}
use Rattle.std.specs.List.{fold, filter, filter_map, range_with_len, AllByRecursion}
use Rattle.std.proofs.Props.{props}
use Rattle.std.proofs.Math.Logic.{∥∥₁_elim}
use Rattle.std.proofs.lemmas.Bool.Decides.{nat_tests}
use Rattle.std.proofs.lemmas.List.{length-map}
use Rattle.cob_program.specs.Act.{Program}
use Rattle.cob_graph.specs.declared.graph.Graph.{Graph}
use Rattle.cob_graph.specs.Graphs.{cells_of}
use Rattle.graph_runs.specs.Sources.{IsSourceGraph}
use Rattle.cert_text.specs.Allowed.{cells_rise, pack_fits, packs_fit}
use Rattle.diff_bounds.specs.declared.Pack as declared
use Rattle.analyse_core.specs.declared.mention.Mention.{Mention}
use Rattle.analyse_core.specs.Firsts.{holds, added, distinct}
use Rattle.analyse_core.specs.Choice.{numeric_cell, most_pack_cells, first_cells, cells_together, same_cells, is_pack, most_packs, packs_of, all_mentions, numbers_of}

abbrev same : ℕ → ℕ → Bool
same a b = a == b

-- ---- lists of at most so many

at_most : (n m : ℕ) → n ≤ m → nat_le n m ≡ true
at_most n m l = grind (arith, nat_tests)

below : (n m : ℕ) → n < m → nat_lt n m ≡ true
below n m l = grind (arith, nat_tests)

differ : (a b : ℕ) → a < b → (a == b) ≡ false
differ a b l = grind (arith, nat_tests)

pub taken_length : {A : Type 0} (n : ℕ) (xs : List A) → length (take n xs) ≤ n
taken_length zero [] = omega arith
taken_length zero (x ∷ xs) = omega arith
taken_length (suc n) [] = omega arith
taken_length (suc n) (x ∷ xs) = let more = taken_length n xs in omega (arith, more)

module _ {A : Type 0} (P : A → Type 0) where
  all_taken : (n : ℕ) (xs : List A) → AllByRecursion P xs → AllByRecursion P (take n xs)
  all_taken zero [] h = tt
  all_taken zero (x ∷ xs) h = tt
  all_taken (suc n) [] h = tt
  all_taken (suc n) (x ∷ xs) h = (h.0, all_taken n xs h.1)

  all_and_one : (xs : List A) (x : A) → AllByRecursion P xs → P x → AllByRecursion P (xs ++ x ∷ [])
  all_and_one [] x h p = (p, tt)
  all_and_one (y ∷ xs) x h p = (h.0, all_and_one xs x h.1 p)

  by_test : (b : Bool) (ys : List A) (x : A) → AllByRecursion P ys → P x → AllByRecursion P (if b then ys else ys ++ x ∷ [])
  by_test true ys x h p = h
  by_test false ys x h p = all_and_one ys x h p

  all_added : (test : A → A → Bool) (ys xs : List A) → AllByRecursion P ys → AllByRecursion P xs → AllByRecursion P (fold (added test) ys xs)
  all_added test ys [] h k = h
  all_added test ys (x ∷ xs) h k = all_added test (added test ys x) xs (by_test (holds test ys x) ys x h k.0) k.1

-- ---- numbers in a range that a list holds

filtered : {A : Type 0} (b : Bool) (x : A) (xs : List A) → length (cond b (x ∷ xs) xs) ≤ suc (length xs)
filtered true x xs = omega arith
filtered false x xs = omega arith

passed : {A : Type 0} (f : A → Bool) (x : A) (xs : List A) → f x ≡ false → filter f (x ∷ xs) ≡ filter f xs
passed f x xs e = ap (λ b. cond b (x ∷ filter f xs) (filter f xs)) e

one_step : {A : Type 0} (a b : Bool) (x : A) (both fs gs : List A) → length both ≤ length fs + length gs →
    length (cond (a || b) (x ∷ both) both) ≤ length (cond a (x ∷ fs) fs) + length (cond b (x ∷ gs) gs)
one_step true true x both fs gs l = omega (arith, l)
one_step true false x both fs gs l = omega (arith, l)
one_step false true x both fs gs l = omega (arith, l)
one_step false false x both fs gs l = omega (arith, l)

either : {A : Type 0} (f g : A → Bool) (xs : List A) → length (filter (λ x. f x || g x) xs) ≤ length (filter f xs) + length (filter g xs)
either f g [] = omega arith
either f g (x ∷ xs) = one_step (f x) (g x) x (filter (λ y. f y || g y) xs) (filter f xs) (filter g xs) (either f g xs)

none_later : (y a n : ℕ) → y < a → filter (same y) (range_with_len a n) ≡ []
none_later y a zero l = refl
none_later y a (suc n) l = passed (same y) a (range_with_len (a + 1) n) (differ y a l) ∙ none_later y (a + 1) n (omega (arith, l))

by_first : (y a n : ℕ) (b : Bool) → (y == a) ≡ b → length (filter (same y) (range_with_len (a + 1) n)) ≤ 1 →
    length (cond (y == a) (a ∷ filter (same y) (range_with_len (a + 1) n)) (filter (same y) (range_with_len (a + 1) n))) ≤ 1
by_first y a n true e l =
    let here : y ≡ a = grind (arith, nat_tests, e) in
    let none = ap length (none_later y (a + 1) n (omega (arith, here))) in
    subst (λ b. length (cond b (a ∷ filter (same y) (range_with_len (a + 1) n)) (filter (same y) (range_with_len (a + 1) n))) ≤ 1) (sym e) (omega (arith, none))
by_first y a n false e l =
    subst (λ b. length (cond b (a ∷ filter (same y) (range_with_len (a + 1) n)) (filter (same y) (range_with_len (a + 1) n))) ≤ 1) (sym e) l

one_at_most : (y a n : ℕ) → length (filter (same y) (range_with_len a n)) ≤ 1
one_at_most y a zero = omega arith
one_at_most y a (suc n) = by_first y a n (y == a) refl (one_at_most y (a + 1) n)

none_held : (xs : List ℕ) → filter (holds same []) xs ≡ []
none_held [] = refl
none_held (x ∷ xs) = none_held xs

few_held : (ys : List ℕ) (a n : ℕ) → length (filter (holds same ys) (range_with_len a n)) ≤ length ys
few_held [] a n = let none = ap length (none_held (range_with_len a n)) in omega (arith, none)
few_held (y ∷ ys) a n =
    let parts : length (filter (holds same (y ∷ ys)) (range_with_len a n)) ≤ length (filter (same y) (range_with_len a n)) + length (filter (holds same ys) (range_with_len a n)) = either (same y) (holds same ys) (range_with_len a n) in
    let one = one_at_most y a n in
    let more = few_held ys a n in
    omega (arith, parts, one, more)

-- ---- they rise

after : (count last a : ℕ) (b : Bool) (xs : List ℕ) → last < a → a ≤ count → cells_rise count last xs ≡ true → cells_rise count a xs ≡ true →
    cells_rise count last (cond b (a ∷ xs) xs) ≡ true
after count last a true xs l m h k = ap (λ x. (x && nat_le a count) && cells_rise count a xs) (below last a l) ∙ ap (λ x. x && cells_rise count a xs) (at_most a count m) ∙ k
after count last a false xs l m h k = h

held_rise : (test : ℕ → Bool) (count last a n : ℕ) → last < a → a + n ≤ count + 1 → cells_rise count last (filter test (range_with_len a n)) ≡ true
held_rise test count last a zero l m = refl
held_rise test count last a (suc n) l m =
    after count last a (test a) (filter test (range_with_len (a + 1) n)) l (omega (arith, m))
    (held_rise test count last (a + 1) n (omega (arith, l)) (omega (arith, m)))
    (held_rise test count a (a + 1) n (omega arith) (omega (arith, m)))

-- ---- packs

module _ (p : Program) where
  abbrev count : ℕ
  count = length (cells_of p)

  few_together : (xs : List Mention) → length (cells_together p xs) ≤ 8
  few_together xs =
      let most : length (cells_together p xs) ≤ length (first_cells p xs) = few_held (first_cells p xs) 1 count in
      let first : length (first_cells p xs) ≤ 8 = taken_length most_pack_cells (distinct same (filter_map (numeric_cell p) xs)) in
      omega (arith, most, first)

  fits : (xs : List Mention) → is_pack (cells_together p xs) ≡ true → pack_fits count (cells_together p xs) ≡ true
  fits xs e =
      ap (λ b. (b && nat_le (length (cells_together p xs)) 8) && cells_rise count 0 (cells_together p xs)) e
      ∙ ap (λ b. b && cells_rise count 0 (cells_together p xs)) (at_most (length (cells_together p xs)) 8 (few_together xs))
      ∙ held_rise (holds same (first_cells p xs)) count 0 1 count (omega arith) (omega arith)

  abbrev Fits : List ℕ → Type 0
  Fits cells = pack_fits count cells ≡ true

  one_fits : (xs : List Mention) (rest : List (List ℕ)) (b : Bool) → is_pack (cells_together p xs) ≡ b → AllByRecursion Fits rest →
      AllByRecursion Fits (cond b (cells_together p xs ∷ rest) rest)
  one_fits xs rest true e h = (fits xs e, h)
  one_fits xs rest false e h = h

  all_fit : (lists : List (List Mention)) → AllByRecursion Fits (filter is_pack (map (cells_together p) lists))
  all_fit [] = tt
  all_fit (xs ∷ lists) = one_fits xs (filter is_pack (map (cells_together p) lists)) (is_pack (cells_together p xs)) refl (all_fit lists)

  packs_are_fit : (packs : List (List ℕ)) → AllByRecursion Fits packs → packs_fit count packs ≡ true
  packs_are_fit [] h = refl
  packs_are_fit (cells ∷ packs) h = ap (λ b. b && packs_fit count packs) h.0 ∙ packs_are_fit packs h.1

  pub they_fit : packs_fit count (packs_of p) ≡ true
  they_fit =
      let all = filter is_pack (map (cells_together p) (all_mentions p)) in
      packs_are_fit (packs_of p) (all_taken Fits most_packs (distinct same_cells all) (all_added Fits same_cells [] all tt (all_fit (all_mentions p))))

  pub they_are_few : length (packs_of p) ≤ 32
  they_are_few = taken_length most_packs (distinct same_cells (filter is_pack (map (cells_together p) (all_mentions p))))

-- ---- what contracts see

module _ (p : Program) (g : Graph) (source : ∥ IsSourceGraph p g ∥₁) where
  pub cells_are : g.cells ≡ cells_of p
  cells_are = ∥∥₁_elim source (hlevel props) (λ (s : IsSourceGraph p g). s.graph.cells)

  module _ (packs : List declared.Pack) (is : numbers_of packs ≡ packs_of p) where
    pub few_packs : length packs ≤ 32
    few_packs =
        let same_count = length-map packs (λ (pack : declared.Pack). pack.cells.items) in
        let same_list = ap length is in
        let few = they_are_few p in
        omega (arith, same_count, same_list, few)

    pub fit_packs : packs_fit (length g.cells) (numbers_of packs) ≡ true
    fit_packs = ap (λ cells. packs_fit (length cells) (numbers_of packs)) cells_are ∙ ap (packs_fit (length (cells_of p))) is ∙ they_fit p
