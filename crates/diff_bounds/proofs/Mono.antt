-- A lower matrix shows lower bounds.
use Rattle.std.proofs.Common.{◌≡◌, ℕ, zero, suc, ◌+◌, ◌<◌, ◌≤◌, Bool, true, false, cond, eqb, ℤ, pos, negsuc, ◌≤ℤ◌, Option, Some, None, arith}
use Rattle.std.proofs.lemmas.Int.{ints}
use Rattle.diff_bounds.specs.Numbers.{number_of, added, lesser, cut, times, IsUnder}
use Rattle.diff_bounds.specs.Upper.{term, terms, without, by_zero, by_pair, least_to, upper}
use Rattle.diff_bounds.specs.Values.{AreLower}
use Rattle.diff_bounds.proofs.Numbers.{under_number, under_none, under_added, under_lesser, under_cut, under_times}

term_under : (n : ℕ) (w u : ℕ → ℕ → ℤ) → AreLower n w u → (place : ℕ) → 0 < n → place < n → (c : ℤ) → IsUnder (term w place c) (term u place c)
term_under n w u lower place some h (pos zero) = omega (arith, ints)
term_under n w u lower place some h (pos (suc m)) = under_times (suc m) (number_of (w place 0)) (number_of (u place 0)) (under_number (w place 0) (u place 0) (lower.words place 0 h some))
term_under n w u lower place some h (negsuc m) = under_times (suc m) (number_of (w 0 place)) (number_of (u 0 place)) (under_number (w 0 place) (u 0 place) (lower.words 0 place some h))

terms_under : (size : ℕ) (w u : ℕ → ℕ → ℤ) → AreLower (size + 1) w u → (c : ℕ → ℤ) (n : ℕ) → n ≤ size → IsUnder (terms w c n) (terms u c n)
terms_under size w u lower c zero h = omega (arith, ints)
terms_under size w u lower c (suc n) h =
    under_added (terms w c n) (terms u c n) (term w (suc n) (c (suc n))) (term u (suc n) (c (suc n)))
    (terms_under size w u lower c n (omega arith)) (term_under (size + 1) w u lower (suc n) (omega arith) (omega arith) (c (suc n)))

pair_under : (size : ℕ) (w u : ℕ → ℕ → ℤ) → AreLower (size + 1) w u → (c : ℕ → ℤ) (low high : ℤ) → low ≤ℤ high → (x y : ℕ) → x ≤ size → y ≤ size → (p q : ℤ) → IsUnder (by_pair w c low size x y p q) (by_pair u c high size x y p q)
pair_under size w u lower c low high less x y h k (pos zero) q = tt
pair_under size w u lower c low high less x y h k (negsuc m) q = tt
pair_under size w u lower c low high less x y h k (pos (suc m)) (pos j) = tt
pair_under size w u lower c low high less x y h k (pos (suc m)) (negsuc j) = by_bool (eqb m j)
  where
    by_bool : (b : Bool) → IsUnder (cond b (cut (added (times (suc m) (number_of (w x y))) (added (terms w (without x y c) size) (Some low)))) None) (cond b (cut (added (times (suc m) (number_of (u x y))) (added (terms u (without x y c) size) (Some high)))) None)
    by_bool false = tt
    by_bool true =
        under_cut (added (times (suc m) (number_of (w x y))) (added (terms w (without x y c) size) (Some low))) (added (times (suc m) (number_of (u x y))) (added (terms u (without x y c) size) (Some high)))
        (under_added (times (suc m) (number_of (w x y))) (times (suc m) (number_of (u x y))) (added (terms w (without x y c) size) (Some low)) (added (terms u (without x y c) size) (Some high))
        (under_times (suc m) (number_of (w x y)) (number_of (u x y)) (under_number (w x y) (u x y) (lower.words x y (omega arith) (omega arith))))
        (under_added (terms w (without x y c) size) (terms u (without x y c) size) (Some low) (Some high) (terms_under size w u lower (without x y c) size (omega arith)) less))

least_under : (n : ℕ) (f g : ℕ → Option ℤ) → ((k : ℕ) → 0 < k → k ≤ n → IsUnder (f k) (g k)) → IsUnder (least_to n f) (least_to n g)
least_under zero f g h = tt
least_under (suc n) f g h = under_lesser (least_to n f) (least_to n g) (f (suc n)) (g (suc n)) (least_under n f g (λ k l m. h k l (omega arith))) (h (suc n) (omega arith) (omega arith))

pub upper_under : (size : ℕ) (w u : ℕ → ℕ → ℤ) → AreLower (size + 1) w u → (c : ℕ → ℤ) (low high : ℤ) → low ≤ℤ high → IsUnder (upper w c low size) (upper u c high size)
upper_under size w u lower c low high less =
    under_lesser (by_zero w c low size) (by_zero u c high size) (least_to size (λ x. least_to size (λ y. by_pair w c low size x y (c x) (c y)))) (least_to size (λ x. least_to size (λ y. by_pair u c high size x y (c x) (c y))))
    (under_cut (added (terms w c size) (Some low)) (added (terms u c size) (Some high)) (under_added (terms w c size) (terms u c size) (Some low) (Some high) (terms_under size w u lower c size (omega arith)) less))
    (least_under size (λ x. least_to size (λ y. by_pair w c low size x y (c x) (c y))) (λ x. least_to size (λ y. by_pair u c high size x y (c x) (c y))) (λ x h k.
    least_under size (λ y. by_pair w c low size x y (c x) (c y)) (λ y. by_pair u c high size x y (c x) (c y)) (λ y g l. pair_under size w u lower c low high less x y k l (c x) (c y))))
