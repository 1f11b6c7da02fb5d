-- Sums over one place more, and rows lowered in place.
use Rattle.std.proofs.Common.{◌≡◌, ◌≢◌, ℕ, ◌+◌, ◌*◌, ◌^◌, ◌<◌, ◌≤◌, List, length, get_or, set, ℤ, pos, neg_ℤ, ◌+ℤ◌, ◌≤ℤ◌, ◌<ℤ◌, ◌⊎◌, inl, inr, sym, subst, ◌∙◌, arith}
use Rattle.std.specs.Int.{int_max, int_min}
use Rattle.std.proofs.lemmas.Int.{ints, clamps, by_lt_z}
use Rattle.std.proofs.lemmas.Bool.{cases_eq}
use Rattle.std.proofs.lemmas.List.{get_or-set_other}
use Rattle.std.proofs.lemmas.Grind.{get_or-set_at}
use Rattle.diff_bounds.specs.Matrix.{word, none, largest, IsBound, IsWord}
use Rattle.diff_bounds.specs.Paths.{cut_of}
use Rattle.diff_bounds.proofs.Places.{word-set_same, word-set_other}
use Rattle.diff_bounds.specs.RowSums.{no_sum, IsSum, IsPair, IsBetter, IsSumOver, IsLeastOver, IsNegative, IsLowered}

-- ---- one step
pub better_of : (best first second x : ℤ) → IsBound first → IsBound second → x ≡ int_min best (first +ℤ second) → IsBetter best first second x
better_of best first second x h k e = record {
  kept = omega (arith, ints, clamps);
  lowered = λ b d. omega (arith, ints, clamps);
  one = by_lt_z (first +ℤ second) best
      (λ (lt : (first +ℤ second) <ℤ best). inr (h, k, omega (arith, ints, clamps)))
      (λ (le : best ≤ℤ (first +ℤ second)). inl (omega (arith, ints, clamps)));
}

-- a sum with none is greater than the best one
pub better_if : (best number word x : ℤ) → best ≤ℤ no_sum → IsWord number → IsBound number → IsWord word → x ≡ int_min best (number +ℤ word) → IsBetter best number word x
better_if best number word x top is b one e = by_lt_z word none
    (λ (lt : word <ℤ none). better_of best number word x b lt e)
    (λ (le : none ≤ℤ word). let low = is.low in record {
      kept = omega (arith, ints, clamps);
      lowered = λ f g. absurd (omega (arith, ints, g, le));
      one = inl (omega (arith, ints, clamps, top, low, le, e));
    })

-- the other way round
pub better_swapped : (best first second x : ℤ) → IsBetter best first second x → IsBetter best second first x
better_swapped best first second x are = record {
  kept = are.kept;
  lowered = λ b d. let low : x ≤ℤ (first +ℤ second) = are.lowered d b in omega (arith, ints, low);
  one = by_one are.one;
}
  where
    by_one : (x ≡ best) ⊎ (IsBound first × IsBound second × (x ≡ first +ℤ second)) → (x ≡ best) ⊎ (IsBound second × IsBound first × (x ≡ second +ℤ first))
    by_one (inl e) = inl e
    by_one (inr (b, d, e)) = inr (d, b, omega (arith, ints, e))

-- a word of none makes no sum
pub better_none : (best number word x : ℤ) → none ≤ℤ number → x ≡ best → IsBetter best number word x
better_none best number word x h e = record { kept = omega (arith, ints, e); lowered = λ b d. absurd (omega (arith, ints, b, h)); one = inl e }

-- one of them is no sum, or both are
sums_of : (first second : ℤ) → IsPair first → IsPair second → (first +ℤ second) ≤ℤ largest → IsSum first × IsSum second
sums_of first second p q small = (
  by_lt_z first no_sum (λ (lt : first <ℤ no_sum). lt) (λ (le : no_sum ≤ℤ first). absurd (let low = q.low in omega (arith, ints, low, le, small))),
  by_lt_z second no_sum (λ (lt : second <ℤ no_sum). lt) (λ (le : no_sum ≤ℤ second). absurd (let low = p.low in omega (arith, ints, low, le, small))),
)

pub lowered_by : (word first second sum x : ℤ) → IsWord word → IsPair first → IsPair second → sum ≡ first +ℤ second → sum <ℤ word → sum ≤ℤ largest → x ≡ int_max sum (neg_ℤ largest) → IsLowered word first second x
lowered_by word first second sum x is p q e less small f =
    let both = sums_of first second p q (omega (arith, ints, e, small)) in
    let same : x ≡ cut_of (first +ℤ second) = grind (arith, ints, clamps) in
    record {
      kept = let low = is.low in omega (arith, ints, clamps, f, less, low);
      lowered = λ s t. let z = same in omega (arith, ints, z);
      one = inr (both.0, both.1, same);
    }

pub lowered_not : (word first second sum x : ℤ) → IsWord word → sum ≡ first +ℤ second → (sum <ℤ word → sum ≤ℤ largest → ⊥) → x ≡ word → IsLowered word first second x
lowered_not word first second sum x is e high f = record {
  kept = omega (arith, ints, f);
  lowered = λ s t. by_lt_z largest sum
      (λ (lt : largest <ℤ sum). let top = is.top in let cut : cut_of (first +ℤ second) ≡ none = grind (arith, ints, clamps) in omega (arith, ints, f, top, cut))
      (λ (le : sum ≤ℤ largest). by_lt_z sum word
      (λ (lt : sum <ℤ word). absurd (high lt le))
      (λ (above : word ≤ℤ sum). let cut : sum ≤ℤ cut_of (first +ℤ second) = grind (arith, ints, clamps) in omega (arith, ints, f, above, cut)));
  one = inl f;
}

pub negative_along : (x y z v : ℤ) → z ≡ x → v ≡ y → IsNegative z v → IsNegative x y
negative_along x y z v e f is = subst (λ (s : ℤ). IsNegative x s) f (subst (λ (s : ℤ). IsNegative s v) e is)

-- ---- over one place more
pub least_over_none : (w : ℕ → ℕ → ℤ) (i j : ℕ) (x : ℤ) → x ≡ no_sum → IsLeastOver 0 w i j x
least_over_none w i j x e = record {
  least = λ k h. absurd (omega arith);
  one = λ s. absurd (omega (arith, ints));
  pair = record { low = omega (arith, ints); high = λ s. absurd (omega (arith, ints)); top = omega (arith, ints) };
}

pub least_over_more : (w : ℕ → ℕ → ℤ) (i j count : ℕ) (best first second x best2 : ℤ) → IsWord (w i count) → IsWord (w count j) → best2 ≡ best → first ≡ w i count → second ≡ w count j → IsLeastOver count w i j best → IsBetter best2 first second x → IsLeastOver (count + 1) w i j x
least_over_more w i j count best first second x best2 p q e f g are better = record {
  least = λ k h b d. elim (cases_eq k count) as (λ _. x ≤ℤ (w i k +ℤ w k j)) [
    | inl same ↦ subst (λ (v : ℕ). x ≤ℤ (w i v +ℤ w v j)) (sym same)
        (let low : x ≤ℤ (first +ℤ second) = better.lowered
        (subst (λ (z : ℤ). IsBound z) (sym f) (subst (λ (v : ℕ). IsBound (w i v)) same b))
        (subst (λ (z : ℤ). IsBound z) (sym g) (subst (λ (v : ℕ). IsBound (w v j)) same d)) in omega (arith, ints, low))
    | inr ne ↦ let kept = better.kept in let low = are.least k (omega arith) b d in omega (arith, ints, kept, low)
  ];
  one = λ s. by_one s better.one;
  pair = record {
    low = by_low better.one;
    high = λ s. by_high s better.one;
    top = let kept = better.kept in let top = are.pair.top in omega (arith, ints, kept, top);
  };
}
  where
    by_one : IsSum x → (x ≡ best2) ⊎ (IsBound first × IsBound second × (x ≡ first +ℤ second)) → IsSumOver (count + 1) w i j x
    by_one s (inl same) =
        let over = are.one (omega (arith, ints)) in
        let sum = over.4 in
        (over.0, omega (arith, over.1), over.2, over.3, omega (arith, ints, same, sum))
    by_one s (inr (b, d, sum)) =
        (count, omega arith, subst (λ (z : ℤ). IsBound z) f b, subst (λ (z : ℤ). IsBound z) g d, omega (arith, ints, sum))

    by_low : (x ≡ best2) ⊎ (IsBound first × IsBound second × (x ≡ first +ℤ second)) → neg_ℤ (pos (2 * 10 ^ 37)) ≤ℤ x
    by_low (inl same) = let low = are.pair.low in omega (arith, ints, same, low)
    by_low (inr (b, d, sum)) = let y = p.low in let z = q.low in omega (arith, ints, sum, y, z)

    by_high : IsSum x → (x ≡ best2) ⊎ (IsBound first × IsBound second × (x ≡ first +ℤ second)) → x ≤ℤ pos (2 * 10 ^ 37)
    by_high s (inl same) = let high : best ≤ℤ pos (2 * 10 ^ 37) = are.pair.high (omega (arith, ints)) in omega (arith, ints, same, high)
    by_high s (inr (b, d, sum)) =
        let y : w i count ≤ℤ pos (10 ^ 37) = p.high (subst (λ (z : ℤ). IsBound z) f b) in
        let z : w count j ≤ℤ pos (10 ^ 37) = q.high (subst (λ (z : ℤ). IsBound z) g d) in
        omega (arith, ints, sum, y, z)

pub better_along : (best first second x best2 first2 second2 x2 : ℤ) → best2 ≡ best → first2 ≡ first → second2 ≡ second → x2 ≡ x → IsBetter best2 first2 second2 x → IsBetter best first second x2
better_along best first second x best2 first2 second2 x2 e f g h are =
    subst (λ (z : ℤ). IsBetter z first second x2) e
    (subst (λ (z : ℤ). IsBetter best2 z second x2) f
    (subst (λ (z : ℤ). IsBetter best2 first2 z x2) g
    (subst (λ (z : ℤ). IsBetter best2 first2 second2 z) (sym h) are)))

-- the sums before this place are lowered
pub record SumsLowered (R : ℕ → ℤ → ℤ → Type 0) (count : ℕ) (old sums : List ℤ) : Type 0 where
  pub done : (k : ℕ) → k < count → R k (get_or old k (pos 0)) (get_or sums k (pos 0))
  pub left : (k : ℕ) → count ≤ k → get_or sums k (pos 0) ≡ get_or old k (pos 0)

pub sums_more : (R : ℕ → ℤ → ℤ → Type 0) (count : ℕ) (old sums : List ℤ) (x : ℤ) → count < length sums → R count (get_or old count (pos 0)) x → SumsLowered R count old sums → SumsLowered R (count + 1) old (set sums count x)
sums_more R count old sums x h r are = record {
  done = λ k l. elim (cases_eq k count) as (λ _. R k (get_or old k (pos 0)) (get_or (set sums count x) k (pos 0))) [
    | inl e ↦ subst (λ (z : ℤ). R k (get_or old k (pos 0)) z) (sym (get_or-set_at sums count k x (pos 0) e h)) (subst (λ (v : ℕ). R v (get_or old v (pos 0)) x) (sym e) r)
    | inr ne ↦ subst (λ (z : ℤ). R k (get_or old k (pos 0)) z) (sym (get_or-set_other sums count k x (pos 0) ne)) (are.done k (omega arith))
  ];
  left = λ k l. get_or-set_other sums count k x (pos 0) (λ e. absurd (omega arith)) ∙ are.left k (omega arith);
}

-- ---- a row lowered
-- the columns before this one are lowered
pub record ColumnsLowered (n : ℕ) (old from : List ℤ) (first : ℤ) (row column : ℕ) (m : List ℤ) : Type 0 where
  pub done : (j : ℕ) → j < column → IsLowered (word n old row j) first (get_or from j (pos 0)) (word n m row j)
  pub left : (j : ℕ) → column ≤ j → j < n → word n m row j ≡ word n old row j
  pub others : (i j : ℕ) → i < n → j < n → i ≢ row → word n m i j ≡ word n old i j

pub lowered_along : (word first second x word2 first2 second2 x2 : ℤ) → word2 ≡ word → first2 ≡ first → second2 ≡ second → x2 ≡ x → IsLowered word2 first2 second2 x → IsLowered word first second x2
lowered_along word first second x word2 first2 second2 x2 e f g h l =
    subst (λ (z : ℤ). IsLowered z first second x2) e
    (subst (λ (z : ℤ). IsLowered word2 z second x2) f
    (subst (λ (z : ℤ). IsLowered word2 first2 z x2) g
    (subst (λ (z : ℤ). IsLowered word2 first2 second2 z) (sym h) l)))

pub columns_more : (n : ℕ) (old from : List ℤ) (first : ℤ) (row column : ℕ) (m : List ℤ) (at : ℕ) (x : ℤ) → length m ≡ n * n → row < n → column < n → at ≡ row * n + column → ColumnsLowered n old from first row column m → IsLowered (word n old row column) first (get_or from column (pos 0)) x → ColumnsLowered n old from first row (column + 1) (set m at x)
columns_more n old from first row column m at x fits h g is are l = record {
  done = λ j k. elim (cases_eq j column) as (λ _. IsLowered (word n old row j) first (get_or from j (pos 0)) (word n (set m at x) row j)) [
    | inl e ↦ subst (λ (c : ℕ). IsLowered (word n old row c) first (get_or from c (pos 0)) (word n (set m at x) row c)) (sym e)
        (subst (λ (z : ℤ). IsLowered (word n old row column) first (get_or from column (pos 0)) z) (sym (word-set_same n m row column at x fits h g is)) l)
    | inr ne ↦ subst (λ (z : ℤ). IsLowered (word n old row j) first (get_or from j (pos 0)) z)
        (sym (word-set_other n m row column at x row j g (omega arith) is (λ e f. ne f))) (are.done j (omega arith))
  ];
  left = λ j k b. word-set_other n m row column at x row j g b is (λ e f. absurd (omega arith)) ∙ are.left j (omega arith) b;
  others = λ i j k b ne. word-set_other n m row column at x i j g b is (λ e f. ne e) ∙ are.others i j k b ne;
}

-- ---- row after row
pub record RowsLowered (n : ℕ) (old into from : List ℤ) (row : ℕ) (m : List ℤ) : Type 0 where
  pub done : (i j : ℕ) → i < row → j < n → IsLowered (word n old i j) (get_or into i (pos 0)) (get_or from j (pos 0)) (word n m i j)
  pub left : (i j : ℕ) → row ≤ i → i < n → j < n → word n m i j ≡ word n old i j

pub rows_more : (n : ℕ) (old into from : List ℤ) (row : ℕ) (m new : List ℤ) → row < n → RowsLowered n old into from row m → ((j : ℕ) → j < n → IsLowered (word n m row j) (get_or into row (pos 0)) (get_or from j (pos 0)) (word n new row j)) → ((i j : ℕ) → i < n → j < n → i ≢ row → word n new i j ≡ word n m i j) → RowsLowered n old into from (row + 1) new
rows_more n old into from row m new h are lowered others = record {
  done = λ i j k g. elim (cases_eq i row) as (λ _. IsLowered (word n old i j) (get_or into i (pos 0)) (get_or from j (pos 0)) (word n new i j)) [
    | inl e ↦ subst (λ (v : ℕ). IsLowered (word n old v j) (get_or into v (pos 0)) (get_or from j (pos 0)) (word n new v j)) (sym e)
        (subst (λ (z : ℤ). IsLowered z (get_or into row (pos 0)) (get_or from j (pos 0)) (word n new row j)) (are.left row j (omega arith) h g) (lowered j g))
    | inr ne ↦ subst (λ (z : ℤ). IsLowered (word n old i j) (get_or into i (pos 0)) (get_or from j (pos 0)) z) (sym (others i j (omega arith) g ne)) (are.done i j (omega arith) g)
  ];
  left = λ i j k g l. others i j g l (λ e. absurd (omega arith)) ∙ are.left i j (omega arith) g l;
}
