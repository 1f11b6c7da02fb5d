-- Lattices side by side are a lattice, and so is one with a first arrival that is taken as it is.
use Rattle.std.proofs.Common.{◌≡◌, ℕ, ◌+◌, ◌≤◌, ◌<◌, Bool, true, false, if◌then◌else◌, List, [], ◌∷◌, ◌++◌, length, take, drop, ℤ, refl, sym, ap, subst, ◌∙◌, length-append, take-append-drop, take_at, drop_at, arith}
use Rattle.std.specs.Prelude.{nat_le}
use Rattle.std.proofs.lemmas.Bool.Decides.{nat_tests}
use Rattle.dom_laws.specs.Lattice.{Lattice, IsElement, IsLattice}
use Rattle.diff_bounds.specs.Lattices.{no_words, beside, with_arrival}

-- ---- numbers that aren't otherwise

within : (a b : ℕ) → ¬ ¬ (a ≤ b) → a ≤ b
within a b h = go (nat_le a b) refl
  where
    go : (t : Bool) → nat_le a b ≡ t → a ≤ b
    go true e = grind (arith, nat_tests)
    go false e = absurd (h (λ k. absurd_of e k))
      where
        absurd_of : nat_le a b ≡ false → a ≤ b → ⊥
        absurd_of f k = grind (arith, nat_tests)

below : (a b : ℕ) → ¬ ¬ (a < b) → a < b
below a b h = let k = within (a + 1) b (λ k. h (λ l. k (omega (arith, l)))) in omega (arith, k)

-- ---- no words

pub no_row : (row : List ℤ) → length row ≡ 0 → row ≡ []
no_row [] e = refl
no_row (x ∷ xs) e = absurd cc

pub no_words_are_a_lattice : IsLattice no_words
no_words_are_a_lattice = record {
  reflexive = λ a is. tt;
  transitive = λ a b c is other more first second. tt;
  least_element = record { width = refl; formed = tt };
  least_below = λ a is. tt;
  join_element = λ a b is other. is;
  join_left = λ a b is other. tt;
  join_right = λ a b is other. tt;
  join_least = λ a b c is other more first second. tt;
  widen_element = λ a b is other. is;
  widen_left = λ a b is other. tt;
  widen_right = λ a b is other. tt;
  widen_keeps = λ a b is other h. refl;
  widen_falls = λ a b is other h. absurd (h tt);
  rank_within = λ a is. omega arith;
}

-- ---- side by side

-- a row that grows, or doesn't, does not rise in rank
widened_within : (l : Lattice) → IsLattice l → (a b : List ℤ) → IsElement l a → IsElement l b → l.rank (l.widen a b) ≤ l.rank a
widened_within l laws a b is other =
    within (l.rank (l.widen a b)) (l.rank a)
    (λ high. high (omega (arith, laws.widen_falls a b is other (λ stays. high (subst (λ (row : List ℤ). l.rank row ≤ l.rank a) (sym (laws.widen_keeps a b is other stays)) (omega arith))))))

module _ (l m : Lattice) where
  pub pair_is : (a b : List ℤ) → IsElement l a → IsElement m b → IsElement (beside l m) (a ++ b)
  pair_is a b is other = record {
    width = length-append a b ∙ (λ i. is.width i + other.width i);
    formed = (subst (IsElement l) (sym (take_at a b l.width is.width)) is, subst (IsElement m) (sym (drop_at a b l.width is.width)) other);
  }

  pub pair_below : (a b c d : List ℤ) → IsElement l a → IsElement l c → l.Below a c → m.Below b d → (beside l m).Below (a ++ b) (c ++ d)
  pair_below a b c d is other h k = (
    subst (λ (x : List ℤ). l.Below x (take l.width (c ++ d))) (sym (take_at a b l.width is.width)) (subst (l.Below a) (sym (take_at c d l.width other.width)) h),
    subst (λ (x : List ℤ). m.Below x (drop l.width (c ++ d))) (sym (drop_at a b l.width is.width)) (subst (m.Below b) (sym (drop_at c d l.width other.width)) k),
  )

module _ (l m : Lattice) (first : IsLattice l) (second : IsLattice m) where
  front : List ℤ → List ℤ
  front row = take l.width row

  back : List ℤ → List ℤ
  back row = drop l.width row

  both : (row : List ℤ) → take l.width row ++ drop l.width row ≡ row
  both row = take-append-drop l.width row

  under : (a c d : List ℤ) → IsElement l (take l.width a) → IsElement l c → l.Below (take l.width a) c → m.Below (drop l.width a) d → (beside l m).Below a (c ++ d)
  under a c d is other h k = subst (λ (x : List ℤ). (beside l m).Below x (c ++ d)) (both a) (pair_below l m (take l.width a) (drop l.width a) c d is other h k)

  over : (c d a : List ℤ) → IsElement l c → IsElement l (take l.width a) → l.Below c (take l.width a) → m.Below d (drop l.width a) → (beside l m).Below (c ++ d) a
  over c d a is other h k = subst ((beside l m).Below (c ++ d)) (both a) (pair_below l m c d (take l.width a) (drop l.width a) is other h k)

  rank_is : (a b : List ℤ) → IsElement l a → (beside l m).rank (a ++ b) ≡ l.rank a + m.rank b
  rank_is a b is = λ i. l.rank (take_at a b l.width is.width i) + m.rank (drop_at a b l.width is.width i)

  pub beside_is_a_lattice : IsLattice (beside l m)
  beside_is_a_lattice = record {
    reflexive = λ a is. (first.reflexive (take l.width a) is.formed.0, second.reflexive (drop l.width a) is.formed.1);
    transitive = λ a b c is other more h k. (
      first.transitive (take l.width a) (take l.width b) (take l.width c) is.formed.0 other.formed.0 more.formed.0 h.0 k.0,
      second.transitive (drop l.width a) (drop l.width b) (drop l.width c) is.formed.1 other.formed.1 more.formed.1 h.1 k.1,
    );
    least_element = pair_is l m l.least m.least first.least_element second.least_element;
    least_below = λ a is. over l.least m.least a first.least_element is.formed.0 (first.least_below (take l.width a) is.formed.0) (second.least_below (drop l.width a) is.formed.1);
    join_element = λ a b is other. pair_is l m (l.join (take l.width a) (take l.width b)) (m.join (drop l.width a) (drop l.width b)) (first.join_element (take l.width a) (take l.width b) is.formed.0 other.formed.0) (second.join_element (drop l.width a) (drop l.width b) is.formed.1 other.formed.1);
    join_left = λ a b is other.
        under a (l.join (take l.width a) (take l.width b)) (m.join (drop l.width a) (drop l.width b)) is.formed.0 (first.join_element (take l.width a) (take l.width b) is.formed.0 other.formed.0)
        (first.join_left (take l.width a) (take l.width b) is.formed.0 other.formed.0) (second.join_left (drop l.width a) (drop l.width b) is.formed.1 other.formed.1);
    join_right = λ a b is other.
        under b (l.join (take l.width a) (take l.width b)) (m.join (drop l.width a) (drop l.width b)) other.formed.0 (first.join_element (take l.width a) (take l.width b) is.formed.0 other.formed.0)
        (first.join_right (take l.width a) (take l.width b) is.formed.0 other.formed.0) (second.join_right (drop l.width a) (drop l.width b) is.formed.1 other.formed.1);
    join_least = λ a b c is other more h k.
        over (l.join (take l.width a) (take l.width b)) (m.join (drop l.width a) (drop l.width b)) c (first.join_element (take l.width a) (take l.width b) is.formed.0 other.formed.0) more.formed.0
        (first.join_least (take l.width a) (take l.width b) (take l.width c) is.formed.0 other.formed.0 more.formed.0 h.0 k.0)
        (second.join_least (drop l.width a) (drop l.width b) (drop l.width c) is.formed.1 other.formed.1 more.formed.1 h.1 k.1);
    widen_element = λ a b is other. pair_is l m (l.widen (take l.width a) (take l.width b)) (m.widen (drop l.width a) (drop l.width b)) (first.widen_element (take l.width a) (take l.width b) is.formed.0 other.formed.0) (second.widen_element (drop l.width a) (drop l.width b) is.formed.1 other.formed.1);
    widen_left = λ a b is other.
        under a (l.widen (take l.width a) (take l.width b)) (m.widen (drop l.width a) (drop l.width b)) is.formed.0 (first.widen_element (take l.width a) (take l.width b) is.formed.0 other.formed.0)
        (first.widen_left (take l.width a) (take l.width b) is.formed.0 other.formed.0) (second.widen_left (drop l.width a) (drop l.width b) is.formed.1 other.formed.1);
    widen_right = λ a b is other.
        under b (l.widen (take l.width a) (take l.width b)) (m.widen (drop l.width a) (drop l.width b)) other.formed.0 (first.widen_element (take l.width a) (take l.width b) is.formed.0 other.formed.0)
        (first.widen_right (take l.width a) (take l.width b) is.formed.0 other.formed.0) (second.widen_right (drop l.width a) (drop l.width b) is.formed.1 other.formed.1);
    widen_keeps = λ a b is other h.
        (λ i. first.widen_keeps (take l.width a) (take l.width b) is.formed.0 other.formed.0 h.0 i ++ second.widen_keeps (drop l.width a) (drop l.width b) is.formed.1 other.formed.1 h.1 i) ∙ both a;
    widen_falls = λ a b is other h. falls a b is other h;
    rank_within = λ a is. let u = first.rank_within (take l.width a) is.formed.0 in let v = second.rank_within (drop l.width a) is.formed.1 in omega (arith, u, v);
  }
    where
      falls : (a b : List ℤ) → IsElement (beside l m) a → IsElement (beside l m) b → ¬ (beside l m).Below b a → (beside l m).rank ((beside l m).widen a b) < (beside l m).rank a
      falls a b is other h =
          let e = rank_is (l.widen (take l.width a) (take l.width b)) (m.widen (drop l.width a) (drop l.width b)) (first.widen_element (take l.width a) (take l.width b) is.formed.0 other.formed.0) in
          let u = widened_within l first (take l.width a) (take l.width b) is.formed.0 other.formed.0 in
          let v = widened_within m second (drop l.width a) (drop l.width b) is.formed.1 other.formed.1 in
          subst (λ (n : ℕ). n < (beside l m).rank a) (sym e)
          (below _ _ (λ same. same
          (let less = first.widen_falls (take l.width a) (take l.width b) is.formed.0 other.formed.0
          (λ x. same (let more = second.widen_falls (drop l.width a) (drop l.width b) is.formed.1 other.formed.1 (λ y. h (x, y)) in omega (arith, u, more))) in
          omega (arith, v, less))))

-- ---- a first arrival

module _ (is_least : List ℤ → Bool) (l : Lattice) (laws : IsLattice l) (least_is : is_least l.least ≡ true)
    (tells : (row : List ℤ) → IsElement l row → is_least row ≡ true → row ≡ l.least)
    (alone : (row : List ℤ) → IsElement l row → l.Below row l.least → row ≡ l.least) where
  arrived_element : (a b : List ℤ) (t : Bool) → IsElement l a → IsElement l b → IsElement l (if t then b else l.widen a b)
  arrived_element a b true is other = other
  arrived_element a b false is other = laws.widen_element a b is other

  arrived_left : (a b : List ℤ) (t : Bool) → is_least a ≡ t → IsElement l a → IsElement l b → l.Below a (if t then b else l.widen a b)
  arrived_left a b true e is other = subst (λ (x : List ℤ). l.Below x b) (sym (tells a is e)) (laws.least_below b other)
  arrived_left a b false e is other = laws.widen_left a b is other

  arrived_right : (a b : List ℤ) (t : Bool) → IsElement l a → IsElement l b → l.Below b (if t then b else l.widen a b)
  arrived_right a b true is other = laws.reflexive b other
  arrived_right a b false is other = laws.widen_right a b is other

  arrived_keeps : (a b : List ℤ) (t : Bool) → is_least a ≡ t → IsElement l a → IsElement l b → l.Below b a → (if t then b else l.widen a b) ≡ a
  arrived_keeps a b true e is other h =
      let least = tells a is e in
      alone b other (subst (l.Below b) least h) ∙ sym least
  arrived_keeps a b false e is other h = laws.widen_keeps a b is other h

  rank_of : Bool → List ℤ → ℕ
  rank_of t row = if t then l.height + 1 else l.rank row

  arrived_falls : (a b : List ℤ) (t : Bool) → is_least a ≡ t → IsElement l a → IsElement l b → ¬ l.Below b a
      → (u : Bool) → is_least (if t then b else l.widen a b) ≡ u → (if u then l.height + 1 else l.rank (if t then b else l.widen a b)) < (if t then l.height + 1 else l.rank a)
  arrived_falls a b true e is other h true f = absurd (h (subst (λ (x : List ℤ). l.Below x a) (sym (tells b other f)) (laws.least_below a is)))
  arrived_falls a b true e is other h false f = let k = laws.rank_within b other in omega (arith, k)
  arrived_falls a b false e is other h true f = absurd (isnt (tells (l.widen a b) (laws.widen_element a b is other) f))
    where
      isnt : l.widen a b ≡ l.least → ⊥
      isnt same =
          let least = alone a is (subst (l.Below a) same (laws.widen_left a b is other)) in
          let yes : is_least a ≡ true = ap is_least least ∙ least_is in
          cc
  arrived_falls a b false e is other h false f = laws.widen_falls a b is other h

  ranked : (row : List ℤ) (t : Bool) → IsElement l row → (if t then l.height + 1 else l.rank row) ≤ l.height + 1
  ranked row true is = omega arith
  ranked row false is = let k = laws.rank_within row is in omega (arith, k)

  same_element : (row : List ℤ) → IsElement (with_arrival is_least l) row → IsElement l row
  same_element row is = record { width = is.width; formed = is.formed }

  its_element : (row : List ℤ) → IsElement l row → IsElement (with_arrival is_least l) row
  its_element row is = record { width = is.width; formed = is.formed }

  pub arrivals_are_a_lattice : IsLattice (with_arrival is_least l)
  arrivals_are_a_lattice = record {
    reflexive = λ a is. laws.reflexive a (same_element a is);
    transitive = λ a b c is other more h k. laws.transitive a b c (same_element a is) (same_element b other) (same_element c more) h k;
    least_element = its_element l.least laws.least_element;
    least_below = λ a is. laws.least_below a (same_element a is);
    join_element = λ a b is other. its_element (l.join a b) (laws.join_element a b (same_element a is) (same_element b other));
    join_left = λ a b is other. laws.join_left a b (same_element a is) (same_element b other);
    join_right = λ a b is other. laws.join_right a b (same_element a is) (same_element b other);
    join_least = λ a b c is other more h k. laws.join_least a b c (same_element a is) (same_element b other) (same_element c more) h k;
    widen_element = λ a b is other. its_element _ (arrived_element a b (is_least a) (same_element a is) (same_element b other));
    widen_left = λ a b is other. arrived_left a b (is_least a) refl (same_element a is) (same_element b other);
    widen_right = λ a b is other. arrived_right a b (is_least a) (same_element a is) (same_element b other);
    widen_keeps = λ a b is other h. arrived_keeps a b (is_least a) refl (same_element a is) (same_element b other) h;
    widen_falls = λ a b is other h. arrived_falls a b (is_least a) refl (same_element a is) (same_element b other) h (is_least (if is_least a then b else l.widen a b)) refl;
    rank_within = λ a is. ranked a (is_least a) (same_element a is);
  }
