-- Bounds that a matrix shows are words.
use Rattle.std.proofs.Common.{◌≡◌, ◌≢◌, ℕ, zero, suc, ◌+◌, ◌<◌, ◌≤◌, Bool, true, false, cond, eqb, ℤ, pos, negsuc, neg_ℤ, ◌≤ℤ◌, ◌<ℤ◌, Option, Some, None, ◌⊎◌, inl, inr, refl, sym, ap, subst, ◌∙◌, arith}
use Rattle.std.specs.Int.{int_min}
use Rattle.std.proofs.lemmas.Int.{ints, clamps, by_lt_z}
use Rattle.std.proofs.lemmas.Bool.{cases_eq}
use Rattle.diff_bounds.specs.Matrix.{none, IsBound, IsWord}
use Rattle.diff_bounds.proofs.Steps.{cut_is_word}
use Rattle.diff_bounds.specs.Paths.{cut_of}
use Rattle.diff_bounds.specs.Numbers.{number_of, word_of, added, lesser, cut, times, IsUnder}
use Rattle.diff_bounds.specs.Upper.{terms, without, by_zero, by_pair, least_to, upper}
use Rattle.diff_bounds.specs.Values.{AreLower}
use Rattle.diff_bounds.proofs.Numbers.{number_at, number_beyond}
use Rattle.diff_bounds.proofs.Mono.{upper_under}

abbrev pub IsNumber : Option ℤ → Type 0
IsNumber (Some x) = x <ℤ none
IsNumber None = Unit {0}

number_is : (x : ℤ) → IsNumber (number_of x)
number_is x = by_lt_z x none
    (λ (lt : x <ℤ none). subst (λ (o : Option ℤ). IsNumber o) (sym (number_at x lt)) lt)
    (λ (le : none ≤ℤ x). subst (λ (o : Option ℤ). IsNumber o) (sym (number_beyond x le)) tt)

pub cut_is : (o : Option ℤ) → IsNumber (cut o)
cut_is (Some z) = number_is (cut_of z)
cut_is None = tt

pub lesser_is : (o p : Option ℤ) → IsNumber o → IsNumber p → IsNumber (lesser o p)
lesser_is (Some x) (Some y) h k = omega (arith, ints, clamps, h, k)
lesser_is (Some x) None h k = h
lesser_is None p h k = k

pub least_is : (n : ℕ) (f : ℕ → Option ℤ) → ((k : ℕ) → IsNumber (f k)) → IsNumber (least_to n f)
least_is zero f h = tt
least_is (suc n) f h = lesser_is (least_to n f) (f (suc n)) (least_is n f h) (h (suc n))

pub pair_is : (w : ℕ → ℕ → ℤ) (c : ℕ → ℤ) (high : ℤ) (n x y : ℕ) (p q : ℤ) → IsNumber (by_pair w c high n x y p q)
pair_is w c high n x y (pos zero) q = tt
pair_is w c high n x y (negsuc m) q = tt
pair_is w c high n x y (pos (suc m)) (pos j) = tt
pair_is w c high n x y (pos (suc m)) (negsuc j) = by_bool (eqb m j)
  where
    by_bool : (b : Bool) → IsNumber (cond b (cut (added (times (suc m) (number_of (w x y))) (added (terms w (without x y c) n) (Some high)))) None)
    by_bool true = cut_is (added (times (suc m) (number_of (w x y))) (added (terms w (without x y c) n) (Some high)))
    by_bool false = tt

pub upper_is : (w : ℕ → ℕ → ℤ) (c : ℕ → ℤ) (high : ℤ) (n : ℕ) → IsNumber (upper w c high n)
upper_is w c high n =
    lesser_is (by_zero w c high n) (least_to n (λ x. least_to n (λ y. by_pair w c high n x y (c x) (c y))))
    (cut_is (added (terms w c n) (Some high)))
    (least_is n (λ x. least_to n (λ y. by_pair w c high n x y (c x) (c y))) (λ x. least_is n (λ y. by_pair w c high n x y (c x) (c y)) (λ y. pair_is w c high n x y (c x) (c y))))

pub word_under : (o p : Option ℤ) → IsNumber o → IsUnder o p → word_of o ≤ℤ word_of p
word_under (Some x) (Some y) b h = h
word_under (Some x) None b h = omega (arith, ints, b)
word_under None (Some y) b h = absurd h
word_under None None b h = omega (arith, ints)

pub upper_word : (size : ℕ) (w u : ℕ → ℕ → ℤ) → AreLower (size + 1) w u → (c : ℕ → ℤ) (low high : ℤ) → low ≤ℤ high → word_of (upper w c low size) ≤ℤ word_of (upper u c high size)
upper_word size w u lower c low high less = word_under (upper w c low size) (upper u c high size) (upper_is w c low size) (upper_under size w u lower c low high less)

-- ---- the least is a word too
word_of_number : (x : ℤ) → IsWord x → IsWord (word_of (number_of x))
word_of_number x is = by_lt_z x none
    (λ (lt : x <ℤ none). subst (λ (o : Option ℤ). IsWord (word_of o)) (sym (number_at x lt)) is)
    (λ (le : none ≤ℤ x). subst (λ (o : Option ℤ). IsWord (word_of o)) (sym (number_beyond x le)) none_is_word)
  where
    none_is_word : IsWord none
    none_is_word = record { low = omega (arith, ints); high = λ b. absurd (omega (arith, ints)); top = omega (arith, ints) }

none_word : IsWord (word_of None)
none_word = record { low = omega (arith, ints); high = λ b. absurd (omega (arith, ints)); top = omega (arith, ints) }

cut_word : (o : Option ℤ) → IsWord (word_of (cut o))
cut_word (Some z) = word_of_number (cut_of z) (cut_is_word z)
cut_word None = none_word

pub min_word : (x y : ℤ) → IsWord x → IsWord y → IsWord (int_min x y)
min_word x y h k = by_lt_z y x
    (λ (lt : y <ℤ x). let e : int_min x y ≡ y = omega (arith, ints, clamps) in subst (λ (z : ℤ). IsWord z) (sym e) k)
    (λ (le : x ≤ℤ y). let e : int_min x y ≡ x = omega (arith, ints, clamps) in subst (λ (z : ℤ). IsWord z) (sym e) h)

lesser_word : (o p : Option ℤ) → IsWord (word_of o) → IsWord (word_of p) → IsWord (word_of (lesser o p))
lesser_word (Some x) (Some y) h k = min_word x y h k
lesser_word (Some x) None h k = h
lesser_word None p h k = k

least_word : (n : ℕ) (f : ℕ → Option ℤ) → ((k : ℕ) → IsWord (word_of (f k))) → IsWord (word_of (least_to n f))
least_word zero f h = none_word
least_word (suc n) f h = lesser_word (least_to n f) (f (suc n)) (least_word n f h) (h (suc n))

pair_word : (w : ℕ → ℕ → ℤ) (c : ℕ → ℤ) (high : ℤ) (n x y : ℕ) (p q : ℤ) → IsWord (word_of (by_pair w c high n x y p q))
pair_word w c high n x y (pos zero) q = none_word
pair_word w c high n x y (negsuc m) q = none_word
pair_word w c high n x y (pos (suc m)) (pos j) = none_word
pair_word w c high n x y (pos (suc m)) (negsuc j) = by_bool (eqb m j)
  where
    by_bool : (b : Bool) → IsWord (word_of (cond b (cut (added (times (suc m) (number_of (w x y))) (added (terms w (without x y c) n) (Some high)))) None))
    by_bool true = cut_word (added (times (suc m) (number_of (w x y))) (added (terms w (without x y c) n) (Some high)))
    by_bool false = none_word

pub upper_is_word : (w : ℕ → ℕ → ℤ) (c : ℕ → ℤ) (high : ℤ) (n : ℕ) → IsWord (word_of (upper w c high n))
upper_is_word w c high n =
    lesser_word (by_zero w c high n) (least_to n (λ x. least_to n (λ y. by_pair w c high n x y (c x) (c y))))
    (cut_word (added (terms w c n) (Some high)))
    (least_word n (λ x. least_to n (λ y. by_pair w c high n x y (c x) (c y))) (λ x. least_word n (λ y. by_pair w c high n x y (c x) (c y)) (λ y. pair_word w c high n x y (c x) (c y))))
